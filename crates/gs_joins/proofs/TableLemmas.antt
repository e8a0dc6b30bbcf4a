-- Tables: keys by their weights, and which of them lie between two weights.
use Rattle.std.proofs.Common.{◌≡◌, ◌≤◌, ◌<◌, ◌-◌, ℕ, zero, suc, Bool, true, false, ◌||◌, cond, nat_eq, List, [], ◌∷◌, length, take, drop, get_or, Option, Some, None, refl, sym, ap, ◌∙◌, subst, length-drop, arith}
use Rattle.std.specs.List.{list_any, Contains}
use Rattle.std.specs.List.Sorted.{IsNonDecreasingBy, IsPartitionPoint}
use Rattle.std.proofs.lemmas.Bool.Decides.{nat_tests}
use Rattle.std.proofs.lemmas.List.{take_all, take-append-drop}
use Rattle.std.proofs.lemmas.List.Elements.{Contains-get_or, Contains-append_right, All-contains}
use Rattle.std.proofs.lemmas.List.Sorted.{list_any-IsPermutation, Contains-permutation, IsPermutation-sym}
use lib.Dec.{ltb, leb}
use Rattle.gs_pool.specs.declared.nodes.Key.{Key}
use Rattle.gs_joins.specs.declared.sought.Item.{Item}
use Rattle.gs_joins.specs.declared.sought.Item.TheVariants.{Number, Variable}
use Rattle.gs_joins.specs.declared.sought.Sought.{Sought}
use Rattle.gs_joins.specs.declared.weights.Turn.{Turn}
use Rattle.gs_joins.specs.declared.weights.Turn.TheVariants as turn
use Rattle.gs_joins.specs.declared.lots.Lot.{Lot}
use Rattle.gs_joins.specs.Numbers.{no_number, BoundNumbers, number_for, bind_key, known_number, or_none}
use Rattle.gs_joins.specs.Lots.{weight_of, least_of, least_key_of, known_key_of, IsSmall, IsKeyTable, IsLot, IsBetween, Serves}
use Rattle.gs_joins.specs.Values.{Values, value_of, key_of}
use Rattle.gs_joins.proofs.ListLemmas.{any_none, get_or_any}
use Rattle.gs_joins.proofs.ValueLemmas.{Holds, values_of, holds_own, key_sound}

-- elements in front that fail are left out
pub any_front : {X : Type 0} (p : X → Bool) (xs : List X) (i : ℕ) → ((k : ℕ) (d : X) → k < i → k < length xs → p (get_or xs k d) ≡ false) → list_any p xs ≡ list_any p (drop i xs)
any_front p xs zero h = refl
any_front p [] (suc i) h = refl
any_front p (x ∷ xs) (suc i) h = ap (λ b. b || list_any p xs) (h 0 x (omega arith) (omega arith)) ∙ any_front p xs i (λ k d low within. h (suc k) d (omega arith) (omega arith))

-- and those at the end
pub any_back : {X : Type 0} (p : X → Bool) (xs : List X) (i : ℕ) → ((k : ℕ) (d : X) → i ≤ k → k < length xs → p (get_or xs k d) ≡ false) → list_any p xs ≡ list_any p (take i xs)
any_back p xs zero h = any_none p xs (λ x (k, within, is). ap p (sym is) ∙ h k x (omega arith) within)
any_back p [] (suc i) h = refl
any_back p (x ∷ xs) (suc i) h = ap (λ b. p x || b) (any_back p xs i (λ k d low within. h (suc k) d (omega arith) (omega arith)))

-- a test that is not true is false
not_true : (b : Bool) → (b ≡ true → ⊥) → b ≡ false
not_true true h = absurd (h refl)
not_true false h = refl

-- what the tests say
lower : (m n : ℕ) → ltb m n ≡ true → n ≤ m → ⊥
lower m n e h = absurd (grind (arith, nat_tests))

-- and the other one
higher : (m n : ℕ) → leb m n ≡ false → m ≤ n → ⊥
higher m n e h = absurd (grind (arith, nat_tests))

-- those that pass are in front
pub front_is : (t : Turn) (high : ℕ) (table : List Key) (j : ℕ) → IsPartitionPoint (λ y. leb (weight_of t y) high ≡ true) (λ y. leb (weight_of t y) high ≡ false) table j → IsBetween t 0 high table (take j table)
front_is t high table j last p only =
    sym (any_back p table j (λ k d from inside. not_true (p (get_or table k d)) (λ passes.
    higher (weight_of t (get_or table k d)) high (last.1 k d from inside) (only (get_or table k d) (Contains-get_or table k d inside) passes).1)))

-- none passes where the first is above
pub front_none : (t : Turn) (high : ℕ) (table : List Key) (d : Key) → IsNonDecreasingBy (weight_of t) table → high < weight_of t (get_or table 0 d) → IsBetween t 0 high table []
front_none t high table d rising above p only =
    sym (any_none p table (λ y (k, inside, is). not_true (p y) (λ passes.
    let up : weight_of t (get_or table 0 y) ≤ weight_of t (get_or table k y) = rising 0 k y (omega arith) inside in
    let first : weight_of t (get_or table 0 d) ≡ weight_of t (get_or table 0 y) = ap (weight_of t) (get_or_any table 0 d y (omega arith)) in
    let here : weight_of t (get_or table k y) ≡ weight_of t y = ap (weight_of t) is in
    let low : weight_of t y ≤ high = (only y (k, inside, is) passes).1 in
    absurd (omega arith))))

-- nor where there is none
pub front_empty : (t : Turn) (high : ℕ) (table : List Key) → true ≡ nat_eq (length table) 0 → IsBetween t 0 high table []
front_empty t high [] e p only = refl
front_empty t high (k ∷ table) e p only = absurd (grind (arith, nat_tests))

-- those that pass are between the two places
pub between_is : (t : Turn) (low high : ℕ) (table rest found : List Key) (i : ℕ) → i ≤ length table
    → IsPartitionPoint (λ y. ltb (weight_of t y) low ≡ true) (λ y. ltb (weight_of t y) low ≡ false) table i
    → rest ≡ take (length table - i) (drop i table) → IsBetween t 0 high rest found → IsBetween t low high table found
between_is t low high table rest found i within first is last p only =
    last p (λ y there passes. (omega arith, (only y (inside y there) passes).1)) ∙ ap (list_any p) whole
    ∙ sym (any_front p table i (λ k d front inside. not_true (p (get_or table k d)) (λ passes.
    lower (weight_of t (get_or table k d)) low (first.0 k d (omega arith) front) (only (get_or table k d) (Contains-get_or table k d inside) passes).0)))
  where
    whole : rest ≡ drop i table
    whole = is ∙ take_all (length table - i) (drop i table) (omega (arith, length-drop i table))

    inside : (y : Key) → Contains rest y → Contains table y
    inside y there = subst (λ zs. Contains zs y) (take-append-drop i table) (Contains-append_right (take i table) (drop i table) y (subst (λ zs. Contains zs y) whole there))

-- less at each place is less
weight_mono : (t : Turn) (k l : Key) → k.subject ≤ l.subject → k.predicate ≤ l.predicate → k.object ≤ l.object → weight_of t k ≤ weight_of t l
weight_mono turn.Subject k l s p o = omega arith
weight_mono turn.Predicate k l s p o = omega arith
weight_mono turn.Object k l s p o = omega arith

-- the least number is no greater
least_le : (m : ℕ) → least_of m ≤ m
least_le m = by_test (nat_eq m no_number) refl
  where
    by_test : (b : Bool) → nat_eq m no_number ≡ b → cond b 0 m ≤ m
    by_test true e = omega arith
    by_test false e = omega arith

-- a place that is not known takes any number
least_none : least_of no_number ≤ 0
least_none = omega arith

-- a value is between what may stand at its place
known_fits : (v : Values) (b : BoundNumbers) (i : Item) → Holds v b → value_of v i ≤ no_number → (least_of (known_number b i) ≤ value_of v i) × (value_of v i ≤ known_number b i)
known_fits v b (Number m) h small = (least_le m, omega arith)
known_fits v b (Variable x) h small = by_bound (number_for b x.now) refl
  where
    by_bound : (o : Option ℕ) → number_for b x.now ≡ o → (least_of (or_none o) ≤ v x.now) × (v x.now ≤ or_none o)
    by_bound None e = (let none = least_none in omega arith, small)
    by_bound (Some m) e = let is : v x.now ≡ m = h x.now m e in (let less = least_le m in omega arith, omega arith)

-- a key that may be the instance is between the weights
key_fits : (t : Turn) (b c : BoundNumbers) (s : Sought) (k : Key) → IsSmall k → bind_key b s k ≡ Some c
    → (weight_of t (least_key_of (known_key_of b s)) ≤ weight_of t k) × (weight_of t k ≤ weight_of t (known_key_of b s))
key_fits t b c s k small e =
    let v : Values = values_of c in
    let both = key_sound v b c s k e (holds_own c) in
    let is_subject : value_of v s.subject ≡ k.subject = ap (λ (z : Key). z.subject) both.1 in
    let is_predicate : value_of v s.predicate ≡ k.predicate = ap (λ (z : Key). z.predicate) both.1 in
    let is_object : value_of v s.object ≡ k.object = ap (λ (z : Key). z.object) both.1 in
    let subject = known_fits v b s.subject both.0 (subst (λ n. n ≤ no_number) (sym is_subject) small.subject) in
    let predicate = known_fits v b s.predicate both.0 (subst (λ n. n ≤ no_number) (sym is_predicate) small.predicate) in
    let object = known_fits v b s.object both.0 (subst (λ n. n ≤ no_number) (sym is_object) small.object) in
    let own : Key = key_of v s in
    subst (λ z. (weight_of t (least_key_of (known_key_of b s)) ≤ weight_of t z) × (weight_of t z ≤ weight_of t (known_key_of b s))) both.1
    (weight_mono t (least_key_of (known_key_of b s)) own subject.0 predicate.0 object.0, weight_mono t own (known_key_of b s) subject.1 predicate.1 object.1)

-- the keys between the weights are all that may be instances
pub serves_is : (l : Lot) (b : BoundNumbers) (t : Turn) (table rest : List Key) → IsLot l → IsKeyTable t l.keys.items table
    → IsBetween t (weight_of t (least_key_of (known_key_of b l.sought))) (weight_of t (known_key_of b l.sought)) table rest → Serves b l rest
serves_is l b t table rest lot is between p quiet =
    between p (λ k there passes. by_bound k (Contains-permutation table l.keys.items k (IsPermutation-sym l.keys.items table is.same) there) passes (bind_key b l.sought k) refl)
    ∙ sym (list_any-IsPermutation p l.keys.items table is.same)
  where
    by_bound : (k : Key) → Contains l.keys.items k → p k ≡ true → (o : Option BoundNumbers) → bind_key b l.sought k ≡ o
        → (weight_of t (least_key_of (known_key_of b l.sought)) ≤ weight_of t k) × (weight_of t k ≤ weight_of t (known_key_of b l.sought))
    by_bound k there passes None e = let bad : true ≡ false = sym passes ∙ quiet k e in absurd (cc)
    by_bound k there passes (Some c) e = key_fits t b c l.sought k (All-contains IsSmall l.keys.items k lot.small there) e
