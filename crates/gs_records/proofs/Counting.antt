-- How many names and triples graphs have, as a version comes or goes.
use Rattle.std.proofs.Common.{◌≡◌, ℕ, suc, ◌+◌, ◌-◌, ◌*◌, ◌^◌, ◌<◌, ◌≤◌, Bool, true, false, cond, List, [], ◌∷◌, length, count_by, get_or, Some, None, is_some, refl, sym, ap, subst, ◌∙◌, inl, inr, arith}
use Rattle.std.specs.List.{sum_by}
use Rattle.std.specs.FinMap as map
use Rattle.gs_term.specs.declared.names.Target.{Target}
use Rattle.gs_term.specs.declared.names.Target.TheVariants.{Default, Named}
use Rattle.gs_term.specs.Names.{name_cmp}
use Rattle.gs_term.proofs.NameLemmas.{name_total}
use Rattle.gs_event.proofs.DatasetLemmas.{sum_by-put, count_if}
use Rattle.gs_catalogue.specs.declared.versions.GraphVersion.{GraphVersion}
use Rattle.gs_catalogue.specs.Catalogues.{GraphVersions, empty_version, no_versions, version_at, with_version, name_count, triple_count}
use Rattle.gs_model.specs.Limits.{last_node}
use Rattle.gs_pool.specs.Pool.{Nodes, plain, is_aside, node_at, mark_at}
use Rattle.gs_index.specs.declared.entries.Entry.{Entry}
use Rattle.gs_index.specs.Indexes.{Indexed, entry_at, is_listed}
use Rattle.gs_records.specs.Records.{Record, free, opened, unused, kept, record_at, is_current}
use Rattle.gs_records.specs.Graphs.{graphs_where, current, without_version}
use Rattle.gs_records.specs.Waste.{open_count}
use Rattle.gs_records.specs.Kept.{AreSingle, AreDated}
use Rattle.gs_records.specs.Stored.{is_made, records_of, records_by, StandsForRecord}
use Rattle.gs_records.specs.Versions.{AreVersions}
use Rattle.gs_records.specs.Counts.{named_one, AreCounted, IsKept}
use Rattle.gs_records.proofs.Keeping.{length-records_of}
use Rattle.gs_records.proofs.Found.{not_kept, same_versions, cases_target, version_at-with, version_at-with_other, version_at-without, version_at-without_other}
use Rattle.gs_records.proofs.Versions.{versions_none}

pub some_version : (a b : GraphVersion) → Some a ≡ Some b → a ≡ b
some_version a b e = cc

-- a version that is new makes a name more, where it has one
pub name_count-with : (g : GraphVersions) (t : Target) (v : GraphVersion) → version_at g t ≡ version_at no_versions t → name_count (with_version g t v) ≡ name_count g + named_one t
name_count-with g Default v e = omega arith
name_count-with g (Named n) v e =
    let none : map.get g.named n ≡ None = e ∙ map.get-empty name_cmp n in
    map.len-insert name_total g.named n v ∙ ap (λ o. cond (is_some o) (map.len g.named) (map.len g.named + 1)) none

-- and as many triples more as it has
pub triple_count-with : (g : GraphVersions) (t : Target) (v : GraphVersion) → version_at g t ≡ version_at no_versions t → triple_count (with_version g t v) ≡ triple_count g + v.triples
triple_count-with g Default v e = omega (arith, ap (λ (x : GraphVersion). x.triples) (some_version g.unnamed empty_version e))
triple_count-with g (Named n) v e =
    let none : map.get g.named n ≡ None = e ∙ map.get-empty name_cmp n in
    let put = sum_by-put name_cmp name_total (λ (x : GraphVersion). x.triples) n v (map.entries g.named) (map.entries_sorted g.named) in
    let found = ap (count_if (λ (x : GraphVersion). x.triples)) (sym (map.get-entries g.named n) ∙ none) in
    omega (arith, put, found, ap (λ es. sum_by (λ (x : List ℕ × GraphVersion). x.1.triples) es) (map.entries-insert name_total g.named n v))

-- a version that is taken out and put back
with_taken : (g : GraphVersions) (t : Target) (v : GraphVersion) → version_at g t ≡ Some v → with_version (without_version g t) t v ≡ g
with_taken g t v is = same_versions _ _ (λ u. elim (cases_target u t) [
  | inl same ↦ ap (version_at (with_version (without_version g t) t v)) same ∙ version_at-with (without_version g t) t v ∙ sym is ∙ ap (version_at g) (sym same)
  | inr other ↦ version_at-with_other (without_version g t) u t v other ∙ version_at-without_other g u t other
])

pub name_count-without : (g : GraphVersions) (t : Target) (v : GraphVersion) → version_at g t ≡ Some v → name_count (without_version g t) + named_one t ≡ name_count g
name_count-without g t v is = sym (name_count-with (without_version g t) t v (version_at-without g t)) ∙ ap name_count (with_taken g t v is)

pub triple_count-without : (g : GraphVersions) (t : Target) (v : GraphVersion) → version_at g t ≡ Some v → triple_count (without_version g t) + v.triples ≡ triple_count g
triple_count-without g t v is = sym (triple_count-with (without_version g t) t v (version_at-without g t)) ∙ ap triple_count (with_taken g t v is)

-- there are no more names than records
name_more : (g : GraphVersions) (t : Target) (v : GraphVersion) → name_count (with_version g t v) ≤ name_count g + 1
name_more g Default v = omega arith
name_more g (Named n) v = go (is_some (map.get g.named n)) (map.len-insert name_total g.named n v)
  where
    go : (b : Bool) → map.len (map.insert g.named n v) ≡ cond b (map.len g.named) (map.len g.named + 1) → map.len (map.insert g.named n v) ≤ map.len g.named + 1
    go true e = omega (arith, e)
    go false e = omega (arith, e)

pub name_count-most : (test : Entry → Bool) (rs : List Record) → name_count (graphs_where test rs) ≤ length rs
name_count-most test [] = omega (arith, map.len-empty name_cmp GraphVersion)
name_count-most test (free ∷ rs) = omega (arith, name_count-most test rs)
name_count-most test (opened ∷ rs) = omega (arith, name_count-most test rs)
name_count-most test (unused ∷ rs) = omega (arith, name_count-most test rs)
name_count-most test (kept e ∷ rs) = go (test e) (name_count-most test rs)
  where
    go : (b : Bool) → name_count (graphs_where test rs) ≤ length rs → name_count (cond b (with_version (graphs_where test rs) e.target e.version) (graphs_where test rs)) ≤ length (kept e ∷ rs)
    go true h = omega (arith, h, name_more (graphs_where test rs) e.target e.version)
    go false h = omega (arith, h)

-- and no more triples than the count of each comes to
triple_more : (g : GraphVersions) (t : Target) (v : GraphVersion) → triple_count (with_version g t v) ≤ triple_count g + v.triples
triple_more g Default v = omega arith
triple_more g (Named n) v =
    let put = sum_by-put name_cmp name_total (λ (x : GraphVersion). x.triples) n v (map.entries g.named) (map.entries_sorted g.named) in
    omega (arith, put, ap (λ es. sum_by (λ (x : List ℕ × GraphVersion). x.1.triples) es) (map.entries-insert name_total g.named n v))

no_items : {X : Type 0} (xs : List X) → length xs ≡ 0 → xs ≡ []
no_items [] e = refl
no_items (x ∷ xs) e = absurd (omega (arith, e))

triple_count-none : triple_count no_versions ≡ 0
triple_count-none =
    let none = no_items (map.entries (map.empty {X = GraphVersion} {R = name_cmp})) (sym (map.len-entries map.empty) ∙ map.len-empty name_cmp GraphVersion) in
    omega (arith, ap (λ es. sum_by (λ (x : List ℕ × GraphVersion). x.1.triples) es) none)

-- each count is below 2^64
pub triple_count-most : (test : Entry → Bool) (rs : List Record) → AreVersions rs → triple_count (graphs_where test rs) ≤ length rs * 18446744073709551615
triple_count-most test [] h = omega (arith, triple_count-none)
triple_count-most test (free ∷ rs) h = omega (arith, triple_count-most test rs (λ n. h (suc n)))
triple_count-most test (opened ∷ rs) h = omega (arith, triple_count-most test rs (λ n. h (suc n)))
triple_count-most test (unused ∷ rs) h = omega (arith, triple_count-most test rs (λ n. h (suc n)))
triple_count-most test (kept e ∷ rs) h = go (test e) (triple_count-most test rs (λ n. h (suc n))) (h 0 e refl).small
  where
    go : (b : Bool) → triple_count (graphs_where test rs) ≤ length rs * 18446744073709551615 → e.version.triples < 2 ^ 64 → triple_count (cond b (with_version (graphs_where test rs) e.target e.version) (graphs_where test rs)) ≤ length (kept e ∷ rs) * 18446744073709551615
    go true rest small = omega (arith, rest, small, triple_more (graphs_where test rs) e.target e.version)
    go false rest small = omega (arith, rest)

-- the counts stay where the graphs do
pub counted_same : (old new : List Record) (names triples : ℕ) → current new ≡ current old → AreCounted old names triples → AreCounted new names triples
counted_same old new names triples same c = record {
  names_are = c.names_are ∙ ap name_count (sym same);
  triples_are = c.triples_are ∙ ap triple_count (sym same);
}

-- one more
pub counted_more : (old new : List Record) (t : Target) (v : GraphVersion) (names triples name more : ℕ) → version_at (current old) t ≡ version_at no_versions t → current new ≡ with_version (current old) t v → AreCounted old names triples → name ≡ named_one t → more ≡ v.triples → AreCounted new (names + name) (triples + more)
counted_more old new t v names triples name more none now c name_is more_is = record {
  names_are = omega (arith, name_is, c.names_are, name_count-with (current old) t v none, ap name_count now);
  triples_are = omega (arith, more_is, c.triples_are, triple_count-with (current old) t v none, ap triple_count now);
}

-- one fewer
pub counted_fewer : (old new : List Record) (t : Target) (v : GraphVersion) (names triples name gone : ℕ) → version_at (current old) t ≡ Some v → current new ≡ without_version (current old) t → AreCounted old names triples → name ≡ named_one t → gone ≡ v.triples → AreCounted new (names - name) (triples - gone)
counted_fewer old new t v names triples name gone found now c name_is gone_is = record {
  names_are = omega (arith, name_is, c.names_are, name_count-without (current old) t v found, ap name_count now);
  triples_are = omega (arith, gone_is, c.triples_are, triple_count-without (current old) t v found, ap triple_count now);
}

pub names_enough : (old : List Record) (t : Target) (v : GraphVersion) (names triples : ℕ) → version_at (current old) t ≡ Some v → AreCounted old names triples → named_one t ≤ names
names_enough old t v names triples found c = omega (arith, c.names_are, name_count-without (current old) t v found)

pub triples_enough : (old : List Record) (t : Target) (v : GraphVersion) (names triples : ℕ) → version_at (current old) t ≡ Some v → AreCounted old names triples → v.triples ≤ triples
triples_enough old t v names triples found c = omega (arith, c.triples_are, triple_count-without (current old) t v found)

-- a graph has one name at most
pub one_most : (t : Target) → named_one t ≤ 1
one_most Default = omega arith
one_most (Named n) = omega arith

-- no graph has a name, and none has a triple
counted_none : AreCounted [] 0 0
counted_none = record { names_are = sym (map.len-empty name_cmp GraphVersion); triples_are = sym triple_count-none }

-- an index and a pool with nothing
pub new_kept : (x : Indexed) (p : Nodes) (commit : ℕ) → x ≡ record { entries = []; listed = []; spare = 0 } → p.nodes ≡ [] → p.marks ≡ [] → IsKept x p 0 commit 0 0
new_kept x p commit is nodes marks =
    let none : records_by x p ≡ [] = ap (λ (z : Indexed). records_of z.entries p.nodes p.marks) is in
    record {
      stored = record {
        many = ap length nodes ∙ sym (ap (λ (z : Indexed). length z.entries) is);
        stand = λ n. subst (λ r. StandsForRecord r (node_at p n) (mark_at p n) (entry_at x.entries n)) (sym (ap (λ rs. record_at rs n) none)) (ap (λ (z : Indexed). (entry_at z.entries n).birth) is, ap (λ ns. get_or ns n None) nodes);
        lists = λ n. ap (λ (z : Indexed). is_listed n z.listed) is ∙ sym (ap (λ (z : Indexed). is_made (entry_at z.entries n)) is);
        counted = sym (ap open_count none);
        room = omega arith;
        single = λ v m n e f p q same h k. absurd (not_kept free e refl (sym (ap (λ rs. record_at rs m) none) ∙ p));
        dated = λ n e at. absurd (not_kept free e refl (sym (ap (λ rs. record_at rs n) none) ∙ at));
        few = omega (arith, ap (λ (z : Indexed). length z.entries) is);
      };
      none_aside = ap (count_by is_aside) marks;
      versions = versions_none (records_by x p) (λ n. ap (λ rs. record_at rs n) none);
      counted = subst (λ rs. AreCounted rs 0 0) (sym none) counted_none;
    }

-- more room changes nothing
module _ (x y : Indexed) (p q : Nodes) (opens latest names triples : ℕ) (entries : y.entries ≡ x.entries) (listed : y.listed ≡ x.listed) (spare : x.spare ≤ y.spare) (nodes : q.nodes ≡ p.nodes) (marks : q.marks ≡ p.marks) (k : IsKept x p opens latest names triples) where
  roomier_records : records_by y q ≡ records_by x p
  roomier_records = λ i. records_of (entries i) (nodes i) (marks i)

  roomier_stand : (n : ℕ) → StandsForRecord (record_at (records_by y q) n) (node_at q n) (mark_at q n) (entry_at y.entries n)
  roomier_stand n =
      let same : StandsForRecord (record_at (records_by x p) n) (node_at p n) (mark_at p n) (entry_at x.entries n) ≡ StandsForRecord (record_at (records_by y q) n) (node_at q n) (mark_at q n) (entry_at y.entries n) = λ i. StandsForRecord (record_at (sym roomier_records i) n) (get_or (sym nodes i) n None) (get_or (sym marks i) n plain) (entry_at (sym entries i) n) in
      subst (λ (A : Type 0). A) same (k.stored.stand n)

  pub roomier_kept : IsKept y q opens latest names triples
  roomier_kept = record {
    stored = record {
      many = ap length nodes ∙ k.stored.many ∙ sym (ap length entries);
      stand = roomier_stand;
      lists = λ n. ap (is_listed n) listed ∙ k.stored.lists n ∙ sym (ap (λ es. is_made (entry_at es n)) entries);
      counted = k.stored.counted ∙ sym (ap open_count roomier_records);
      room = omega (arith, k.stored.room, spare);
      single = subst AreSingle (sym roomier_records) k.stored.single;
      dated = subst (AreDated latest) (sym roomier_records) k.stored.dated;
      few = omega (arith, k.stored.few, ap length entries);
    };
    none_aside = ap (count_by is_aside) marks ∙ k.none_aside;
    versions = subst AreVersions (sym roomier_records) k.versions;
    counted = subst (λ rs. AreCounted rs names triples) (sym roomier_records) k.counted;
  }

-- there are no more names than numbers
pub names_few : (x : Indexed) (p : Nodes) (opens latest names triples : ℕ) → IsKept x p opens latest names triples → names ≤ last_node + 1
names_few x p opens latest names triples k = omega (arith, k.counted.names_are, name_count-most is_current (records_by x p), length-records_of x.entries p.nodes p.marks, k.stored.few)

-- so the triples are far below 2^128
pub triples_few : (x : Indexed) (p : Nodes) (opens latest names triples : ℕ) → IsKept x p opens latest names triples → triples < 2 ^ 96
triples_few x p opens latest names triples k = omega (arith, k.counted.triples_are, triple_count-most is_current (records_by x p) k.versions, length-records_of x.entries p.nodes p.marks, k.stored.few)
