-- Keys that are sorted, and then lose their repeats, are a run with the same triples.
use Rattle.std.proofs.Common.{◌≡◌, ℕ, Bool, true, false, cond, ◌&&◌, ◌||◌, nat_eq, List, [], ◌∷◌, map, refl, sym, ap, subst, ◌∙◌, arith}
use Rattle.std.specs.List.{All, AllByRecursion, list_any, dedup, dedup_from}
use Rattle.std.specs.List.Sorted.{IsPermutation, IsSorted, IsStrictlySortedBy}
use Rattle.std.specs.Ordering.{eq_by_cmp, is_eq}
use Rattle.std.specs.declared.cmp.Ordering.{Ordering}
use Rattle.std.specs.declared.cmp.Ordering.TheVariants.{Less, Equal, Greater}
use Rattle.std.proofs.lemmas.Bool.{eq-eqb}
use Rattle.std.proofs.lemmas.Bool.Decides.{nat_tests}
use Rattle.std.proofs.lemmas.Cmp.{tied_itself}
use Rattle.std.proofs.lemmas.List.Elements.{All-from_recursion, recursion_from_All}
use Rattle.std.proofs.lemmas.List.Filters.{All-dedup}
use Rattle.std.proofs.lemmas.List.Kept.{IsStrictlySortedBy-dedup}
use Rattle.std.proofs.lemmas.List.Sorted.{All-permutation, list_any-IsPermutation}
use Rattle.gs_model.specs.Triples.{RdfTriple, triple_cmp}
use Rattle.gs_model.specs.Graphs.{graph_of}
use Rattle.gs_model.proofs.GraphLemmas.{same_graph}
use Rattle.gs_dict.specs.Numbering.{IsDistinct}
use Rattle.gs_pool.specs.declared.nodes.Key.{Key}
use Rattle.gs_tree.specs.Keys.{AllKeys, IsRising}
use Rattle.gs_keys.specs.Texts.{Terms, triple_at, key_cmp, key_total, IsGiven}
use Rattle.gs_keys.proofs.KeyLemmas.{tied_keys}
use Rattle.gs_staging.specs.Keys.{is_same, AreKeysOf, IsRunOf, IsRunOfTriples}

module _ (P : Key → Type 0) where
  -- what holds of each key, as the library says it
  to_all : (ks : List Key) → AllKeys P ks → All P ks
  to_all ks h = All-from_recursion P ks (one_by_one ks h)
    where
      one_by_one : (xs : List Key) → AllKeys P xs → AllByRecursion P xs
      one_by_one [] g = tt
      one_by_one (x ∷ xs) g = (g.0, one_by_one xs g.1)

  -- and back
  pub from_recursion : (ks : List Key) → AllByRecursion P ks → AllKeys P ks
  from_recursion [] h = tt
  from_recursion (x ∷ ks) h = (h.0, from_recursion ks h.1)

  from_all : (ks : List Key) → All P ks → AllKeys P ks
  from_all ks h = from_recursion ks (recursion_from_All P ks h)

  all_permuted : (ks sorted : List Key) → IsPermutation ks sorted → AllKeys P ks → AllKeys P sorted
  all_permuted ks sorted moved h = from_all sorted (All-permutation P ks sorted moved (to_all ks h))

  all_dedup : (E : Key → Key → Bool) (ks : List Key) → AllKeys P ks → AllKeys P (dedup E ks)
  all_dedup E ks h = from_all (dedup E ks) (All-dedup E P ks (to_all ks h))

-- keys in strict order rise
strict_rises : (terms : Terms) (ks : List Key) → IsStrictlySortedBy (key_cmp terms) ks → IsRising (key_cmp terms) ks
unfolding IsStrictlySortedBy
strict_rises terms [] h = tt
strict_rises terms (k ∷ ks) h = (from_recursion (λ y. key_cmp terms k y ≡ Less) ks h.0, strict_rises terms ks h.1)

-- a test passes one of two that are the same, or another
absorbed : (b c : Bool) → (b || c) ≡ (b || (b || c))
absorbed true c = refl
absorbed false c = refl

-- without repeats a list passes a test as it did
any_dedup : (E : Key → Key → Bool) (p : Key → Bool) → ((x y : Key) → E x y ≡ true → x ≡ y) → (ks : List Key) → list_any p (dedup E ks) ≡ list_any p ks
any_dedup E p same [] = refl
any_dedup E p same (k ∷ ks) = after k ks
  where
    after : (k : Key) (xs : List Key) → list_any p (dedup_from E k xs) ≡ (p k || list_any p xs)
    after k [] = refl
    after k (x ∷ xs) = elim (E x k) as (λ b. E x k ≡ b → list_any p (cond b (dedup_from E k xs) (k ∷ dedup_from E x xs)) ≡ (p k || (p x || list_any p xs))) [
      | true ↦ λ e. after k xs ∙ absorbed (p k) (list_any p xs) ∙ ap (λ y. p k || (p y || list_any p xs)) (sym (same x k e))
      | false ↦ λ e. ap (λ b. p k || b) (after x xs)
    ] refl

-- tests that agree on the keys of a list drop the same repeats
dedup_agree : (E F : Key → Key → Bool) (G : Key → Type 0) → ((x y : Key) → G x → G y → E x y ≡ F x y) → (ks : List Key) → AllKeys G ks → dedup E ks ≡ dedup F ks
dedup_agree E F G agree [] h = refl
dedup_agree E F G agree (k ∷ ks) h = after k ks h.0 h.1
  where
    after : (k : Key) (xs : List Key) → G k → AllKeys G xs → dedup_from E k xs ≡ dedup_from F k xs
    after k [] g gs = refl
    after k (x ∷ xs) g gs =
        ap (λ b. cond b (dedup_from E k xs) (k ∷ dedup_from E x xs)) (agree x k gs.0 g)
        ∙ ap (λ r. cond (F x k) r (k ∷ dedup_from E x xs)) (after k xs g gs.1)
        ∙ ap (λ r. cond (F x k) (dedup_from F k xs) (k ∷ r)) (after x xs gs.0 gs.1)

-- both of two tests
both : (p q : Bool) → (p && q) ≡ true → (p ≡ true) × (q ≡ true)
both true true e = (refl, refl)
both true false e = absurd (cc)
both false q e = absurd (cc)

-- numbers that are tested to be equal are
numbers : (m n : ℕ) → nat_eq m n ≡ true → m ≡ n
numbers m n e = grind (arith, nat_tests)

-- keys with the same numbers are one
same_is : (a b : Key) → is_same a b ≡ true → a ≡ b
same_is a b e =
    let first = both (nat_eq a.subject b.subject) (nat_eq a.predicate b.predicate && nat_eq a.object b.object) e in
    let second = both (nat_eq a.predicate b.predicate) (nat_eq a.object b.object) first.1 in
    let s = numbers a.subject b.subject first.0 in
    let p = numbers a.predicate b.predicate second.0 in
    let o = numbers a.object b.object second.1 in
    λ i. record { subject = s i; predicate = p i; object = o i }

same_itself : (a : Key) → is_same a a ≡ true
same_itself a = rw (eq-eqb a.subject a.subject refl, eq-eqb a.predicate a.predicate refl, eq-eqb a.object a.object refl) refl

tied_is : (o : Ordering) → is_eq o ≡ true → o ≡ Equal
tied_is Less e = absurd (cc)
tied_is Equal e = refl
tied_is Greater e = absurd (cc)

-- keys have the same numbers exactly where their texts compare as equal
same_as_tied : (terms : Terms) → IsDistinct terms → (a b : Key) → IsGiven terms a → IsGiven terms b → is_same a b ≡ eq_by_cmp (key_cmp terms) a b
same_as_tied terms distinct a b ga gb = alike (is_same a b) (eq_by_cmp (key_cmp terms) a b) refl refl
  where
    alike : (r s : Bool) → is_same a b ≡ r → eq_by_cmp (key_cmp terms) a b ≡ s → r ≡ s
    alike true true e f = refl
    alike false false e f = refl
    alike true false e f = ap is_eq (sym (tied_itself (key_total terms) a)) ∙ ap (λ k. eq_by_cmp (key_cmp terms) a k) (same_is a b e) ∙ f
    alike false true e f = sym e ∙ ap (λ k. is_same a k) (sym (tied_keys terms a b distinct ga gb (tied_is (key_cmp terms a b) f))) ∙ same_itself a

-- the triples of a list pass a test as its keys do
pub any_map : (terms : Terms) (p : RdfTriple → Bool) (ks : List Key) → list_any p (map (triple_at terms) ks) ≡ list_any (λ k. p (triple_at terms k)) ks
any_map terms p [] = refl
any_map terms p (k ∷ ks) = ap (λ b. p (triple_at terms k) || b) (any_map terms p ks)

-- keys that rise are a run already
pub rising_run : (terms : Terms) (ks : List Key) → AllKeys (IsGiven terms) ks → IsRising (key_cmp terms) ks → IsRunOf terms ks ks
rising_run terms ks given rising = record { rising = rising; given = given; graph = refl }

-- sorted keys without repeats are a run
pub sorted_run :
    (terms : Terms) → IsDistinct terms → (ks sorted run : List Key) → AllKeys (IsGiven terms) ks → IsPermutation ks sorted → IsSorted (key_cmp terms) sorted → run ≡ dedup is_same sorted
    → IsRunOf terms ks run
sorted_run terms distinct ks sorted run given moved up is =
    let all = all_permuted (IsGiven terms) ks sorted moved given in
    let tied : run ≡ dedup (eq_by_cmp (key_cmp terms)) sorted = is ∙ dedup_agree is_same (eq_by_cmp (key_cmp terms)) (IsGiven terms) (same_as_tied terms distinct) sorted all in
    let strict = IsStrictlySortedBy-dedup (key_total terms) (λ x y. refl) sorted up in
    record {
      rising = subst (IsRising (key_cmp terms)) (sym tied) (strict_rises terms (dedup (eq_by_cmp (key_cmp terms)) sorted) strict);
      given = subst (AllKeys (IsGiven terms)) (sym is) (all_dedup (IsGiven terms) is_same sorted all);
      graph = same_graph (map (triple_at terms) run) (map (triple_at terms) ks) (λ q.
          let p = λ (k : Key). eq_by_cmp triple_cmp q (triple_at terms k) in
          any_map terms (eq_by_cmp triple_cmp q) run ∙ ap (list_any p) is ∙ any_dedup is_same p same_is sorted
          ∙ sym (list_any-IsPermutation p ks sorted moved) ∙ sym (any_map terms (eq_by_cmp triple_cmp q) ks));
    }

-- a run of the keys of triples is a run of the triples
pub run_of_triples : (terms : Terms) (ts : List RdfTriple) (ks run : List Key) → AreKeysOf terms ts ks → IsRunOf terms ks run → IsRunOfTriples terms ts run
run_of_triples terms ts ks run keys sorted = record { rising = sorted.rising; given = sorted.given; graph = sorted.graph ∙ ap graph_of keys.said }
