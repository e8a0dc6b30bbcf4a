-- A key whose number at the shared variable no key near the other list has goes with none of them.
use Rattle.std.proofs.Common.{◌≡◌, ◌≢◌, ◌≤◌, ◌<◌, ℕ, Bool, true, false, nat_eq, nat_lt, List, [], ◌∷◌, length, get_or, slice_get, Option, Some, None, refl, sym, ap, ◌∙◌, arith}
use Rattle.std.specs.List.{list_any, Contains}
use Rattle.std.specs.List.Sorted.{IsNonDecreasingBy}
use Rattle.std.proofs.lemmas.Bool.Decides.{nat_tests}
use Rattle.gs_pool.specs.declared.nodes.Key.{Key}
use Rattle.gs_joins.specs.declared.sought.Sought.{Sought}
use Rattle.gs_joins.specs.declared.weights.Turn.{Turn}
use Rattle.gs_joins.specs.declared.lots.Lot.{Lot}
use Rattle.gs_joins.specs.declared.merges.Joint.{Joint}
use Rattle.gs_joins.specs.Numbers.{BoundNumbers, bind_key}
use Rattle.gs_joins.specs.Lots.{first_of, Serves}
use Rattle.gs_joins.specs.Values.{Values}
use Rattle.gs_joins.specs.Choices.{goes_if, goes_on_in, goes_at, has_choice}
use Rattle.gs_joins.specs.Merges.{IsJoint, SkipsLess, IsNotAt}
use Rattle.gs_joins.proofs.ListLemmas.{any_has, any_none, get_or_any}
use Rattle.gs_joins.proofs.ValueLemmas.{values_of, holds_own, key_complete, key_sound}

-- whether a key may be bound and has this number
abbrev bound_at : Turn → ℕ → Key → Option BoundNumbers → Bool
bound_at t n k None = false
bound_at t n k (Some b) = nat_eq (first_of t k) n

-- a number is itself
same_number : (m n : ℕ) → m ≡ n → nat_eq m n ≡ true
same_number m n e = grind (arith, nat_tests)

-- numbers that pass the test are one
one_number : (m n : ℕ) → nat_eq m n ≡ true → m ≡ n
one_number m n e = grind (arith, nat_tests)

-- no key near the other list has the number of this key, so it goes with none of them
pub goes_none : (ls : List Lot) (j : ℕ) (m : Lot) (b : BoundNumbers) (s : Sought) (p : Joint) (k : Key) (other : List Key) → slice_get ls j ≡ Some m → Serves b m other → IsJoint s m.sought p
    → ((i : ℕ) (d : Key) → i < length other → first_of p.other (get_or other i d) ≢ first_of p.one k) → goes_at ls (j ∷ []) b s k ≡ false
goes_none ls j m b s p k other at serves joint none = by_bound (bind_key b s k) refl
  where
    test : Key → Bool
    test z = bound_at p.other (first_of p.one k) z (bind_key b m.sought z)

    -- none near passes
    by_near : (z : Key) (o : Option BoundNumbers) → Contains other z → bound_at p.other (first_of p.one k) z o ≡ true → ⊥
    by_near z None there e = absurd (cc)
    by_near z (Some a) (i, within, is) e = none i z within (ap (first_of p.other) is ∙ one_number (first_of p.other z) (first_of p.one k) e)

    not_true : (r : Bool) → (r ≡ true → ⊥) → r ≡ false
    not_true true h = absurd (h refl)
    not_true false h = refl

    no_key : list_any test m.keys.items ≡ false
    no_key = sym (serves test (λ z e. ap (bound_at p.other (first_of p.one k) z) e)) ∙ any_none test other (λ z there. not_true (test z) (by_near z (bind_key b m.sought z) there))

    by_choice : (a : BoundNumbers) → bind_key b s k ≡ Some a → (z : Key) → Contains m.keys.items z → (o : Option BoundNumbers) → bind_key a m.sought z ≡ o → goes_if (has_choice ls []) o ≡ true → ⊥
    by_choice a e z there None f passes = absurd (cc)
    by_choice a e z there (Some d) f passes =
        let v : Values = values_of d in
        let second = key_sound v a d m.sought z f (holds_own d) in
        let first = key_sound v b a s k e second.0 in
        let (c, g, hc) = key_complete v b m.sought first.0 in
        let same : first_of p.other z ≡ first_of p.one k = ap (first_of p.other) (sym second.1) ∙ sym (joint v) ∙ ap (first_of p.one) first.1 in
        let binds : bind_key b m.sought z ≡ Some c = ap (bind_key b m.sought) (sym second.1) ∙ g in
        let passing : test z ≡ true = ap (bound_at p.other (first_of p.one k) z) binds ∙ same_number (first_of p.other z) (first_of p.one k) same in
        let bad : true ≡ false = sym (any_has test m.keys.items z there passing) ∙ no_key in
        absurd (cc)

    by_bound : (o : Option BoundNumbers) → bind_key b s k ≡ o → goes_if (has_choice ls (j ∷ [])) o ≡ false
    by_bound None e = refl
    by_bound (Some a) e =
        ap (λ o. goes_on_in o (has_choice ls []) a) at
        ∙ any_none (goes_at ls [] a m.sought) m.keys.items (λ z there. not_true (goes_at ls [] a m.sought z) (by_choice a e z there (bind_key a m.sought z) refl))

-- the keys before a place have less than the numbers from another place on
abbrev pub AreLess : Joint → List Key → List Key → ℕ → ℕ → Type 0
AreLess p near other i j = (k a : ℕ) (d : Key) → k < j → i ≤ a → a < length near → first_of p.other (get_or other k d) < first_of p.one (get_or near a d)

module _ (p : Joint) (near other : List Key) (i from to : ℕ) (d : Key) (within : i < length near) (rising : IsNonDecreasingBy (first_of p.one) near) (less : AreLess p near other i from)
    (skips : SkipsLess p.other other from (first_of p.one (get_or near i d)) to) where
  -- the same after more were passed
  pub less_more : AreLess p near other i to
  less_more k a e below up inside = by_place (nat_lt k from) refl
    where
      by_place : (r : Bool) → nat_lt k from ≡ r → first_of p.other (get_or other k e) < first_of p.one (get_or near a e)
      by_place true t = less k a e (grind (arith, nat_tests)) up inside
      by_place false t =
          let past : from ≤ k = grind (arith, nat_tests) in
          let here : first_of p.other (get_or other k e) < first_of p.one (get_or near i d) = skips.less k e past below in
          let later : first_of p.one (get_or near i e) ≤ first_of p.one (get_or near a e) = rising i a e up inside in
          let same : first_of p.one (get_or near i d) ≡ first_of p.one (get_or near i e) = ap (first_of p.one) (get_or_any near i d e within) in
          omega arith

  -- so no key of the other side has the number, unless the one at that place has
  pub none_has : IsNonDecreasingBy (first_of p.other) other → IsNotAt p.other other to (first_of p.one (get_or near i d)) → (k : ℕ) (e : Key) → k < length other
      → first_of p.other (get_or other k e) ≢ first_of p.one (get_or near i d)
  none_has up other_than k e inside is = by_place (nat_lt k to) refl
    where
      same : first_of p.one (get_or near i d) ≡ first_of p.one (get_or near i e)
      same = ap (first_of p.one) (get_or_any near i d e within)

      by_place : (r : Bool) → nat_lt k to ≡ r → ⊥
      by_place true t =
          let here : first_of p.other (get_or other k e) < first_of p.one (get_or near i e) = less_more k i e (grind (arith, nat_tests)) (omega arith) within in
          let same' = same in
          absurd (omega arith)
      by_place false t =
          let past : to ≤ k = grind (arith, nat_tests) in
          let low : first_of p.one (get_or near i d) ≤ first_of p.other (get_or other to e) = skips.next e (omega arith) in
          let high : first_of p.other (get_or other to e) ≤ first_of p.other (get_or other k e) = up to k e past inside in
          other_than e (omega arith) (omega arith)
