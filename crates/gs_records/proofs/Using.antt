-- How many numbers are in use, and what for.
use Rattle.std.proofs.Common.{◌≡◌, ℕ, suc, ◌+◌, true, false, cond, List, [], ◌∷◌, ◌++◌, length, count_by, get_or, Option, Some, None, is_some, is_none, refl, sym, ap, ◌∙◌, arith}
use Rattle.std.specs.FinMap as map
use Rattle.std.proofs.lemmas.List.Sums.{sum_by-cons}
use Rattle.gs_term.specs.declared.names.Target.{Target}
use Rattle.gs_term.specs.declared.names.Target.TheVariants.{Default, Named}
use Rattle.gs_term.specs.Names.{name_cmp}
use Rattle.gs_catalogue.specs.declared.versions.GraphVersion.{GraphVersion}
use Rattle.gs_catalogue.specs.Catalogues.{GraphVersions, empty_version, no_versions, version_at, with_version}
use Rattle.gs_pool.specs.declared.nodes.Node.{Node}
use Rattle.gs_pool.specs.Pool.{Nodes, NodeMark, in_use, node_at, mark_at}
use Rattle.gs_index.specs.declared.entries.Entry.{Entry}
use Rattle.gs_index.specs.Indexes.{Indexed, entry_at}
use Rattle.gs_records.specs.Records.{Record, free, opened, unused, kept, record_at, is_of, is_current}
use Rattle.gs_records.specs.Graphs.{current}
use Rattle.gs_records.specs.Waste.{lifetime_of, waste_in, is_opened, open_count, is_in_use, used_count}
use Rattle.gs_records.specs.Kept.{AreSingle}
use Rattle.gs_records.specs.Calls.{is_nothing, records_for}
use Rattle.gs_records.specs.Uses.{records_of_graphs, AreUsed}
use Rattle.gs_records.specs.Versions.{AreVersions}
use Rattle.gs_records.specs.Stored.{records_by, StandsForRecord, IsStored}
use Rattle.gs_records.proofs.Found.{target_itself}
use Rattle.gs_records.proofs.Same.{version_lacking}
use Rattle.gs_records.proofs.Lifetimes.{both_true}
use Rattle.gs_records.proofs.Lasting.{single_rest, none_after}
use Rattle.gs_records.proofs.Keeping.{length-records_of}
use Rattle.gs_records.proofs.Counting.{some_version, name_count-with}

-- a version that is new, and not that of an empty default graph, has a record more
records_of_graphs-with : (g : GraphVersions) (t : Target) (v : GraphVersion) → version_at g t ≡ version_at no_versions t → is_nothing t v ≡ false → records_of_graphs (with_version g t v) ≡ records_of_graphs g + 1
records_of_graphs-with g Default v none something =
    let empty = ap (λ (x : GraphVersion). records_for Default (Some x)) (some_version g.unnamed empty_version none) in
    omega (arith, empty, ap (λ b. cond {A = ℕ} b 0 1) something)
records_of_graphs-with g (Named n) v none something = omega (arith, name_count-with g (Named n) v none)

used_more : (r : Record) (rs : List Record) → used_count (r ∷ rs) ≡ cond {A = ℕ} (is_in_use r) 1 0 + used_count rs
used_more r rs = sum_by-cons (λ (x : Record). cond {A = ℕ} (is_in_use x) 1 0) r rs

open_more : (r : Record) (rs : List Record) → open_count (r ∷ rs) ≡ cond {A = ℕ} (is_opened r) 1 0 + open_count rs
open_more r rs = sum_by-cons (λ (x : Record). cond {A = ℕ} (is_opened x) 1 0) r rs

-- what is in use is current, open, or waste
pub are_used : (rs : List Record) → AreSingle rs → AreVersions rs → AreUsed rs
are_used [] single versions = omega (arith, map.len-empty name_cmp GraphVersion)
are_used (free ∷ rs) single versions = omega (arith, used_more free rs, open_more free rs, are_used rs (single_rest free rs single) (λ n. versions (suc n)))
are_used (opened ∷ rs) single versions = omega (arith, used_more opened rs, open_more opened rs, are_used rs (single_rest opened rs single) (λ n. versions (suc n)))
are_used (unused ∷ rs) single versions = omega (arith, used_more unused rs, open_more unused rs, are_used rs (single_rest unused rs single) (λ n. versions (suc n)))
are_used (kept e ∷ rs) single versions =
    go e.death (are_used rs (single_rest (kept e) rs single) (λ n. versions (suc n)))
    (λ now. version_lacking is_current rs e.target (λ f. none_after e.target e rs single (both_true (is_of e.target e) (is_current e) (target_itself e.target) now) f.number f.entry f.at f.same f.passes))
  where
    go : (o : Option ℕ) → AreUsed rs → (is_none o ≡ true → version_at (current rs) e.target ≡ version_at no_versions e.target)
        → used_count (kept e ∷ rs) ≡ records_of_graphs (cond (is_none o) (with_version (current rs) e.target e.version) (current rs)) + open_count (kept e ∷ rs) + length (lifetime_of e.birth o ++ waste_in rs)
    go None rest lacks = omega (arith, used_more (kept e) rs, open_more (kept e) rs, rest, records_of_graphs-with (current rs) e.target e.version (lacks refl) (versions 0 e refl).something)
    go (Some d) rest lacks = omega (arith, used_more (kept e) rs, open_more (kept e) rs, rest)

-- a number is in use where it has a node
stands_used : (r : Record) (o : Option Node) (m : NodeMark) (e : Entry) → StandsForRecord r o m e → is_in_use r ≡ is_some o
stands_used free o m e s = sym (ap is_some s.1)
stands_used opened o m e s = sym (ap is_some s.1.found)
stands_used unused o m e s = sym (ap is_some s.1.found)
stands_used (kept k) o m e s = sym (ap is_some s.1.found)

used_nodes : (rs : List Record) (ns : List (Option Node)) → length ns ≡ length rs → ((m : ℕ) → is_in_use (record_at rs m) ≡ is_some (get_or ns m None)) → count_by is_some ns ≡ used_count rs
used_nodes [] [] many same = refl
used_nodes [] (o ∷ ns) many same = absurd (omega (arith, many))
used_nodes (r ∷ rs) [] many same = absurd (omega (arith, many))
used_nodes (r ∷ rs) (o ∷ ns) many same =
    omega (arith, used_more r rs, sum_by-cons (λ (x : Option Node). cond {A = ℕ} (is_some x) 1 0) o ns, ap (λ b. cond {A = ℕ} b 1 0) (same 0), used_nodes rs ns (omega (arith, many)) (λ m. same (suc m)))

-- so as many are in use as nodes of the pool
pub in_use_is : (x : Indexed) (p : Nodes) (opens latest : ℕ) → IsStored x p opens latest → in_use p ≡ used_count (records_by x p)
in_use_is x p opens latest s =
    used_nodes (records_by x p) p.nodes (s.many ∙ sym (length-records_of x.entries p.nodes p.marks))
    (λ m. stands_used (record_at (records_by x p) m) (node_at p m) (mark_at p m) (entry_at x.entries m) (s.stand m))
