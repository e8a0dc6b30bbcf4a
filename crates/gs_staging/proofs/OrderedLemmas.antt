-- Keys of triples that are in order are a run, and the triples are those of their list.
use Rattle.std.proofs.Common.{◌≡◌, ℕ, Bool, true, false, cond, Option, Some, None, List, [], ◌∷◌, map, slice_get, get_or, inl, refl, sym, ap, subst, ◌∙◌, ◌||◌}
use Rattle.std.specs.FinMap as fin
use Rattle.std.specs.FinMap.Entries.{find}
use Rattle.std.specs.List.{list_any, AllByRecursion}
use Rattle.std.specs.List.Sorted.{IsStrictlySortedBy}
use Rattle.std.specs.Ordering.{eq_by_cmp, is_eq}
use Rattle.std.specs.declared.cmp.Ordering.{Ordering}
use Rattle.std.specs.declared.cmp.Ordering.TheVariants.{Less, Equal, Greater}
use Rattle.std.proofs.lemmas.Cmp.{tied_itself}
use Rattle.std.proofs.lemmas.List.Folds.{list_any_at, Any-from_list_any}
use Rattle.std.proofs.lemmas.Option.{slice_get-get_or, slice_get_within, get_or_from_slice_get}
use Rattle.gs_model.specs.Terms.{Term}
use Rattle.gs_model.specs.Triples.{RdfTriple, triple_cmp}
use Rattle.gs_model.specs.Graphs.{graph_of, as_entry}
use Rattle.gs_model.proofs.GraphLemmas.{triple_total, triple_exact}
use Rattle.gs_pool.specs.declared.nodes.Key.{Key}
use Rattle.gs_tree.specs.Keys.{AllKeys, IsRising}
use Rattle.gs_keys.specs.Texts.{Terms, triple_at, key_cmp, IsGiven}
use Rattle.gs_keys.proofs.KeyLemmas.{key_cmp_is}
use Rattle.gs_triple_lists.specs.declared.lists.TripleNumbers.{TripleNumbers}
use Rattle.gs_triple_lists.specs.Kept.{triples_of_numbers}
use Rattle.gs_triple_lists.specs.Orders.{IsOrderOf}
use Rattle.gs_staging.proofs.KeyLemmas.{only_twice}
use Rattle.gs_staging.specs.Keys.{GivesOnly, IsTermIn, AreKeysOf, IsRunOfTriples}

-- keys whose triples are above one are above its key
above_all : (terms : Terms) (k : Key) (ks : List Key) → IsGiven terms k → AllKeys (IsGiven terms) ks → AllByRecursion (λ u. triple_cmp (triple_at terms k) u ≡ Less) (map (triple_at terms) ks) → AllKeys (λ y. key_cmp terms k y ≡ Less) ks
above_all terms k [] g gs h = tt
above_all terms k (y ∷ ks) g gs h = (key_cmp_is terms k y g gs.0 ∙ h.0, above_all terms k ks g gs.1 h.1)

-- keys rise where their triples do
keys_rise : (terms : Terms) (ks : List Key) → AllKeys (IsGiven terms) ks → IsStrictlySortedBy triple_cmp (map (triple_at terms) ks) → IsRising (key_cmp terms) ks
unfolding IsStrictlySortedBy
keys_rise terms [] given up = tt
keys_rise terms (k ∷ ks) given up = (above_all terms k ks given.0 given.1 up.0, keys_rise terms ks given.1 up.1)

-- keys of triples in order are a run
pub ordered_run : (terms : Terms) (known : List Term) (ts : List RdfTriple) (ns : List TripleNumbers) (ks : List Key) → IsOrderOf known ts ns → AreKeysOf terms (triples_of_numbers known ns) ks → IsRunOfTriples terms ts ks
ordered_run terms known ts ns ks order keys = record {
  rising = keys_rise terms ks keys.given (subst (IsStrictlySortedBy triple_cmp) (sym keys.said) order.rising);
  given = keys.given;
  graph = ap graph_of keys.said ∙ order.graph;
}

-- what a graph has
found : (q : RdfTriple) (ts : List RdfTriple) → find triple_cmp q (map as_entry ts) ≡ cond (list_any (eq_by_cmp triple_cmp q) ts) (Some tt) None
found q [] = refl
found q (t ∷ ts) = elim (eq_by_cmp triple_cmp q t) as (λ b. cond b (Some tt) (find triple_cmp q (map as_entry ts)) ≡ cond (b || list_any (eq_by_cmp triple_cmp q) ts) (Some tt) None) [ true ↦ refl | false ↦ found q ts ]

-- what a map to nothing has at a key
abbrev has : Bool → Option (Unit {0})
has b = cond b (Some tt) None

has_test : (q : RdfTriple) (ts : List RdfTriple) → fin.get (graph_of ts) q ≡ has (list_any (eq_by_cmp triple_cmp q) ts)
has_test q ts = fin.get-from_entries triple_total (map as_entry ts) q ∙ found q ts

passes : (b c : Bool) → has b ≡ has c → b ≡ true → c ≡ true
passes true true same e = refl
passes true false same e = absurd (cc)
passes false c same e = absurd (cc)

tied : (o : Ordering) → is_eq o ≡ true → o ≡ Equal
tied Less e = absurd (cc)
tied Equal e = refl
tied Greater e = absurd (cc)

-- a triple of one list is one of another that makes the same graph
triple_among : (xs ys : List RdfTriple) (i : ℕ) (t : RdfTriple) → graph_of xs ≡ graph_of ys → slice_get xs i ≡ Some t → (j : ℕ) × (slice_get ys j ≡ Some t)
triple_among xs ys i t same there =
    let own : eq_by_cmp triple_cmp t (get_or xs i t) ≡ true = ap (λ u. is_eq (triple_cmp t u)) (get_or_from_slice_get xs i t t there) ∙ ap is_eq (tied_itself triple_total t) in
    let first : list_any (eq_by_cmp triple_cmp t) xs ≡ true = list_any_at (eq_by_cmp triple_cmp t) xs i t (slice_get_within xs i t there) own in
    let tests = sym (has_test t xs) ∙ ap (λ g. fin.get g t) same ∙ has_test t ys in
    let second = passes (list_any (eq_by_cmp triple_cmp t) xs) (list_any (eq_by_cmp triple_cmp t) ys) tests first in
    let one = Any-from_list_any (eq_by_cmp triple_cmp t) ys second in
    let is : t ≡ one.1 = triple_exact t one.1 (tied (triple_cmp t one.1) one.4) in
    (one.0, slice_get-get_or ys one.0 one.1 one.2 ∙ ap Some (one.3 ∙ sym is))

-- so is a term
term_among : (xs ys : List RdfTriple) (u : Term) → graph_of xs ≡ graph_of ys → IsTermIn xs u → IsTermIn ys u
term_among xs ys u same h =
    let there = triple_among xs ys h.place h.triple same h.there in
    record { place = there.0; triple = h.triple; there = there.1; term = h.term }

-- numbers that were given to terms of triples in order were given to terms of their list
pub ordered_only : (known : List Term) (ts : List RdfTriple) (ns : List TripleNumbers) (old new : Terms) → IsOrderOf known ts ns → GivesOnly (IsTermIn (triples_of_numbers known ns)) old new → GivesOnly (IsTermIn ts) old new
ordered_only known ts ns old new order gives = only_twice old old new (λ n u h. inl h) (λ u h. term_among (triples_of_numbers known ns) ts u order.graph h) gives
