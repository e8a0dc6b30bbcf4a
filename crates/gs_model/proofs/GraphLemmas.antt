-- Graphs as sorted lists of triples.
use Rattle.std.proofs.lemmas.List.{nil_from_length}
use Rattle.std.proofs.Common.{Option, is_some, ◌≡◌, Bool, true, false, cond, ◌||◌, List, [], ◌∷◌, map, Some, None, refl, sym, ap, ◌∙◌, length}
use Rattle.std.specs.List.{list_any, dedup, dedup_from, AllByRecursion}
use Rattle.std.specs.List.Sorted.{IsStrictlySortedBy}
use Rattle.std.specs.Ordering.{eq_by_cmp}
use Rattle.std.specs.declared.cmp.Ordering.TheVariants.{Less}
use Rattle.std.specs.Cmp.{IsTotalOrder}
use Rattle.std.proofs.lemmas.Cmp.{then_total, on_total, nat_list_cmp_total}
use Rattle.std.proofs.lemmas.Map.Lookups.{exact_pairs, exact_bytes}
use Rattle.std.specs.FinMap as fin
use Rattle.std.specs.FinMap.Entries.{put, find, by_order}
use Rattle.std.specs.Ordering.{nat_cmp}
use Rattle.std.specs.Cmp.Lexicographic.{slice_cmp}
use Rattle.gs_model.specs.Terms.{text_of}
use Rattle.gs_model.proofs.TextLemmas.{text_of-injective}
use Rattle.gs_model.specs.Graphs.{Graph, empty_graph, triples_of, graph_of, as_entry, size_of}
use Rattle.gs_model.specs.Triples.{RdfTriple as Triple, triple_cmp}

pub triple_total : IsTotalOrder triple_cmp
triple_total = then_total (on_total (λ (t : Triple). text_of t.subject) nat_list_cmp_total) (then_total (on_total (λ (t : Triple). text_of t.predicate) nat_list_cmp_total) (on_total (λ (t : Triple). text_of t.object) nat_list_cmp_total))

pub triple_exact : fin.IsAntisymmetric triple_cmp
triple_exact a b e =
    let parts = exact_pairs (slice_cmp nat_cmp) _ exact_bytes (exact_pairs (slice_cmp nat_cmp) (slice_cmp nat_cmp) exact_bytes exact_bytes) (text_of a.subject, (text_of a.predicate, text_of a.object)) (text_of b.subject, (text_of b.predicate, text_of b.object)) e in
    let s_is = text_of-injective a.subject b.subject (ap (λ q. q.0) parts) in
    let p_is = text_of-injective a.predicate b.predicate (ap (λ q. q.1.0) parts) in
    let o_is = text_of-injective a.object b.object (ap (λ q. q.1.1) parts) in
    λ i. record { subject = s_is i; predicate = p_is i; object = o_is i }

put_first : (t : Triple) (ts : List Triple) → AllByRecursion (λ u. triple_cmp t u ≡ Less) ts → put triple_cmp t tt (map as_entry ts) ≡ map as_entry (t ∷ ts)
put_first t [] below = refl
put_first t (u ∷ us) below = ap (λ r. by_order r ((t, tt) ∷ (u, tt) ∷ map as_entry us) ((u, tt) ∷ map as_entry us) ((u, tt) ∷ put triple_cmp t tt (map as_entry us))) below.0

entries-graph_of : (ts : List Triple) → IsStrictlySortedBy triple_cmp ts → fin.entries (graph_of ts) ≡ map as_entry ts
unfolding IsStrictlySortedBy
entries-graph_of [] sorted = nil_from_length _ (sym (fin.len-entries fin.empty) ∙ fin.len-empty triple_cmp (Unit {0}))
entries-graph_of (t ∷ ts) sorted = fin.entries-insert triple_total (graph_of ts) t tt ∙ ap (put triple_cmp t tt) (entries-graph_of ts sorted.1) ∙ put_first t ts sorted.0

keys_of : (ts : List Triple) → map (λ (e : Triple × Unit {0}). e.0) (map as_entry ts) ≡ ts
keys_of [] = refl
keys_of (t ∷ ts) = ap (λ us. t ∷ us) (keys_of ts)

-- a sorted list is the triples of its graph
pub triples_of-graph_of : (ts : List Triple) → IsStrictlySortedBy triple_cmp ts → triples_of (graph_of ts) ≡ ts
triples_of-graph_of ts sorted = ap (map (λ (e : Triple × Unit {0}). e.0)) (entries-graph_of ts sorted) ∙ keys_of ts

found : (q : Triple) (ts : List Triple) → find triple_cmp q (map as_entry ts) ≡ cond (list_any (eq_by_cmp triple_cmp q) ts) (Some tt) None
found q [] = refl
found q (t ∷ ts) = elim (eq_by_cmp triple_cmp q t) as (λ b. cond b (Some tt) (find triple_cmp q (map as_entry ts)) ≡ cond (b || list_any (eq_by_cmp triple_cmp q) ts) (Some tt) None) [ true ↦ refl | false ↦ found q ts ]

-- two lists with the same triples make one graph
pub same_graph : (xs ys : List Triple) → ((q : Triple) → list_any (eq_by_cmp triple_cmp q) xs ≡ list_any (eq_by_cmp triple_cmp q) ys) → graph_of xs ≡ graph_of ys
same_graph xs ys alike = fin.same_map triple_total triple_exact _ _ (λ q.
    fin.get-from_entries triple_total (map as_entry xs) q ∙ found q xs ∙ ap (λ b. cond b (Some tt) None) (alike q)
    ∙ sym (fin.get-from_entries triple_total (map as_entry ys) q ∙ found q ys))

absorbed : (a b c : Bool) → b ≡ a → (a || c) ≡ (a || (b || c))
absorbed true b c e = refl
absorbed false true c e = absurd (cc)
absorbed false false c e = refl

any_dedup_from : (E : Triple → Triple → Bool) (p : Triple → Bool) → ((x k : Triple) → E x k ≡ true → p x ≡ p k) → (k : Triple) (xs : List Triple) → list_any p (dedup_from E k xs) ≡ (p k || list_any p xs)
any_dedup_from E p alike k [] = refl
any_dedup_from E p alike k (x ∷ xs) =
    elim (E x k) as (λ b. E x k ≡ b → list_any p (cond b (dedup_from E k xs) (k ∷ dedup_from E x xs)) ≡ (p k || (p x || list_any p xs))) [
      | true ↦ λ e. any_dedup_from E p alike k xs ∙ absorbed (p k) (p x) (list_any p xs) (alike x k e)
      | false ↦ λ e. ap (λ b. p k || b) (any_dedup_from E p alike x xs)
    ] refl

pub any_dedup : (E : Triple → Triple → Bool) (p : Triple → Bool) → ((x k : Triple) → E x k ≡ true → p x ≡ p k) → (xs : List Triple) → list_any p (dedup E xs) ≡ list_any p xs
any_dedup E p alike [] = refl
any_dedup E p alike (x ∷ xs) = any_dedup_from E p alike x xs

none_sorted : IsStrictlySortedBy triple_cmp []
unfolding IsStrictlySortedBy
none_sorted = tt

-- the empty graph has no triple
pub triples_of-empty : triples_of empty_graph ≡ []
triples_of-empty = triples_of-graph_of [] none_sorted

pub empty_has_none : size_of empty_graph ≡ 0
empty_has_none = ap length triples_of-empty

-- a graph has as many triples as the sorted list that it is made of
pub size_of-graph_of : (ts : List Triple) → IsStrictlySortedBy triple_cmp ts → size_of (graph_of ts) ≡ length ts
size_of-graph_of ts sorted = ap length (triples_of-graph_of ts sorted)

or_nothing : (o : Option (Unit {0})) → cond (is_some o) (Some tt) None ≡ o
or_nothing None = refl
or_nothing (Some u) = refl

-- a graph is the graph of its triples
pub graph_of-triples_of : (g : Graph) → graph_of (triples_of g) ≡ g
graph_of-triples_of g = fin.same_map triple_total triple_exact _ _ (λ q.
    fin.get-from_entries triple_total (map as_entry (triples_of g)) q ∙ found q (triples_of g)
    ∙ ap (λ b. cond b (Some tt) None) (sym (fin.contains_key-keys g q)) ∙ or_nothing (fin.get g q))
