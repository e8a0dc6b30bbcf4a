-- A version has as many lines as its graphs have triples.
use Rattle.std.proofs.Common.{◌≡◌, ℕ, ◌+◌, true, List, [], ◌∷◌, length, map, MatchOption, Option, Some, None, refl, sym, ap, ◌∙◌, arith}
use Rattle.std.specs.List.{AllByRecursion, sum_by}
use Rattle.std.specs.FinMap as fin
use Rattle.std.proofs.lemmas.List.{length-map}
use Rattle.std.proofs.lemmas.List.Concat.{length-flat_map}
use Rattle.std.proofs.lemmas.List.Sums.{sum_by-cons, sum_by-append}
use Rattle.std.proofs.lemmas.List.Elements.{recursion_from_All}
use Rattle.gs_term.specs.declared.names.Target.{Target}
use Rattle.gs_term.specs.declared.names.Target.TheVariants.{Default}
use Rattle.gs_pool.specs.declared.nodes.Key.{Key}
use Rattle.gs_pool.specs.Pool.{Nodes}
use Rattle.gs_tree.specs.Reading.{keys_at}
use Rattle.gs_tree.proofs.FromLemmas.{from_all}
use Rattle.gs_keys.specs.Texts.{Terms, key_cmp}
use Rattle.gs_lines.specs.Pieces.{keys_left}
use Rattle.gs_catalogue.specs.declared.versions.GraphVersion.{GraphVersion}
use Rattle.gs_catalogue.specs.Catalogues.{GraphVersions, empty_version, triple_count}
use Rattle.gs_records.specs.Records.{Record, Recorded, record_at}
use Rattle.gs_records.specs.Graphs.{graphs_at}
use Rattle.gs_records.specs.Kept.{AreSingle}
use Rattle.gs_records.specs.Order.{entry_of, has_number, AreListed, graph_of_number, graphs_listed, default_first, with_target, AreInOrder}
use Rattle.gs_records.proofs.Ordering.{listed_in_order}
use Rattle.gs_quads.specs.Places.{root_at, version_numbers, record_places, all_places, quad_at, quads_left}
use Rattle.gs_quads.specs.Laws.{CountTriples}
use Rattle.gs_quads.proofs.Numbers.{numbers_had}

-- a sum over what a list becomes
sum_by-map : {A B : Type 0} (f : B → ℕ) (g : A → B) (xs : List A) → sum_by f (map g xs) ≡ sum_by (λ x. f (g x)) xs
sum_by-map f g [] = refl
sum_by-map f g (x ∷ xs) = sum_by-cons f (g x) (map g xs) ∙ ap (λ n. f (g x) + n) (sum_by-map f g xs) ∙ sym (sum_by-cons (λ y. f (g y)) x xs)

-- the count of a graph's version
abbrev triples_of_graph : Target × GraphVersion → ℕ
triples_of_graph g = g.1.triples

-- that of a record's
abbrev triples_at : List Record → ℕ → ℕ
triples_at rs n = (entry_of (record_at rs n)).version.triples

-- the default graph has as many where it has no record
default_count : (g : GraphVersion) (unnamed : Option GraphVersion) → MatchOption unnamed (g ≡ empty_version) (λ v. v ≡ g) → sum_by triples_of_graph (default_first unnamed) ≡ g.triples
default_count g None is = sym (ap (λ (v : GraphVersion). v.triples) is)
default_count g (Some v) is =
    let same : v.triples ≡ g.triples = ap (λ (w : GraphVersion). w.triples) is in
    let none : sum_by triples_of_graph [] ≡ 0 = refl in
    omega (arith, same, none, sum_by-cons triples_of_graph (Default, v) [])

-- the counts of graphs in order are those of the versions
counts_in_order : (g : GraphVersions) (graphs : List (Target × GraphVersion)) → AreInOrder g graphs → sum_by triples_of_graph graphs ≡ triple_count g
counts_in_order g graphs o =
    let es = fin.entries g.named in
    ap (sum_by triples_of_graph) o.graphs_are
    ∙ sum_by-append triples_of_graph (default_first o.unnamed) (map with_target es)
    ∙ (λ i. default_count g.unnamed o.unnamed o.default i + sum_by-map triples_of_graph with_target es i)

module _ (terms : Terms) (p : Nodes) (v : ℕ) (r : Recorded) (counted : CountTriples v p r.records) where
  -- a record has as many places as its version counts triples
  one_counted : (n : ℕ) → has_number v r.records n ≡ true → length (record_places terms p r.records None n) ≡ triples_at r.records n
  one_counted n has =
      length-map (keys_left terms p (root_at r.records n) None) (λ (k : Key). (n, k))
      ∙ ap length (from_all (key_cmp terms) (keys_at p (root_at r.records n)))
      ∙ sym (counted n has)

  -- the same of some records
  all_counted : (ns : List ℕ) → AllByRecursion (λ n. has_number v r.records n ≡ true) ns → sum_by (λ n. length (record_places terms p r.records None n)) ns ≡ sum_by (triples_at r.records) ns
  all_counted [] h = refl
  all_counted (n ∷ ns) h =
      sum_by-cons (λ m. length (record_places terms p r.records None m)) n ns
      ∙ (λ i. one_counted n h.0 i + all_counted ns h.1 i)
      ∙ sym (sum_by-cons (triples_at r.records) n ns)

-- so there are as many lines
pub lines_counted : (terms : Terms) (p : Nodes) (v : ℕ) (r : Recorded) → AreSingle r.records → AreListed r.records r.listed → CountTriples v p r.records → length (quads_left terms p v r None) ≡ triple_count (graphs_at v r.records)
lines_counted terms p v r single al counted =
    let ns = version_numbers v r in
    let had = recursion_from_All (λ n. has_number v r.records n ≡ true) ns (numbers_had v r) in
    length-map (all_places terms p r.records ns) (quad_at terms r.records)
    ∙ length-flat_map (record_places terms p r.records None) ns
    ∙ all_counted terms p v r counted ns had
    ∙ sym (sum_by-map triples_of_graph (graph_of_number r.records) ns)
    ∙ counts_in_order (graphs_at v r.records) (graphs_listed v r.records r.listed) (listed_in_order v r.records r.listed single al)
