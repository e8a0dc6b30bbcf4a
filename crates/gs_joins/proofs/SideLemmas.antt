-- Keys of one list that are tried against another list.
use Rattle.std.proofs.Common.{◌≡◌, ◌≤◌, ◌<◌, ◌+◌, ℕ, Bool, true, false, List, [], ◌∷◌, length, take, get_or, slice_get, Option, Some, None, MatchOption, refl, sym, ◌∙◌, subst, inl, inr, arith}
use Rattle.std.specs.List.{list_any}
use Rattle.std.proofs.lemmas.Option.{slice_get_cases}
use Rattle.gs_pool.specs.declared.nodes.Key.{Key}
use Rattle.gs_joins.specs.declared.bindings.Bound.{Bound}
use Rattle.gs_joins.specs.declared.lots.Lot.{Lot}
use Rattle.gs_joins.specs.declared.merges.Joint.{Joint}
use Rattle.gs_joins.specs.Numbers.{BoundNumbers, numbers_of}
use Rattle.gs_joins.specs.Lots.{first_of, Serves}
use Rattle.gs_joins.specs.Choices.{goes_at, Searches}
use Rattle.gs_joins.specs.Sides.{TriesKey, NoneGoes, AreJoint}
use Rattle.gs_joins.specs.Merges.{IsJoint}
use Rattle.gs_joins.proofs.SearchLemmas.{searches_true, searches_false, none_more}
use Rattle.gs_joins.proofs.MergeLemmas.{goes_none}

-- what holds of the list of a number, where there is one
of_list : (ls : List Lot) (i : ℕ) (l : Lot) (P : Lot → Type 0) → slice_get ls i ≡ Some l → MatchOption (slice_get ls i) (Unit {0}) P → P l
of_list ls i l P at h = subst (λ o. MatchOption o (Unit {0}) P) at h

-- what was tried under the same bindings
tried : (ls : List Lot) (i j : ℕ) (l : Lot) (old now new : List Bound) (k : Key) (goes : Bool) → slice_get ls i ≡ Some l → now ≡ old → TriesKey ls i j now new k goes → goes_at ls (j ∷ []) (numbers_of old) l.sought k ≡ goes
tried ls i j l old now new k goes at same h =
    sym (of_list ls i l (λ (l : Lot). goes ≡ goes_at ls (j ∷ []) (numbers_of old) l.sought k) at
    (subst (λ bs. MatchOption (slice_get ls i) (Unit {0}) (λ (l : Lot). goes ≡ goes_at ls (j ∷ []) (numbers_of bs) l.sought k)) same h.answer))

module _ (ls : List Lot) (i j : ℕ) (old now : List Bound) (near : List Key) (there : i < length ls) (same : now ≡ old) where
  -- one that goes with a key of the other list
  pub side_true : (new : List Bound) (n : ℕ) (d : Key) → MatchOption (slice_get ls i) (Unit {0}) (λ (l : Lot). Serves (numbers_of old) l near) → n < length near → TriesKey ls i j now new (get_or near n d) true
      → Searches ls (i ∷ j ∷ []) old new true
  side_true new n d serves within h = elim (slice_get_cases ls i).1 [
    | inl found ↦
        let (l, inside, at, is) = found in
        searches_true ls i (j ∷ []) old new l near at (of_list ls i l (λ (l : Lot). Serves (numbers_of old) l near) at serves) (h.bound ∙ same) n d within
        (tried ls i j l old now new (get_or near n d) true at same h)
    | inr past ↦ absurd (omega (arith, past.0))
  ]

  -- none that does
  pub side_false : (n : ℕ) → MatchOption (slice_get ls i) (Unit {0}) (λ (l : Lot). Serves (numbers_of old) l near) → length near ≤ n → NoneGoes ls i j (numbers_of old) (take n near)
      → Searches ls (i ∷ j ∷ []) old now false
  side_false n serves all none = elim (slice_get_cases ls i).1 [
    | inl found ↦
        let (l, inside, at, is) = found in
        searches_false ls i (j ∷ []) old now l near at (of_list ls i l (λ (l : Lot). Serves (numbers_of old) l near) at serves) same n all
        (of_list ls i l (λ (l : Lot). list_any (goes_at ls (j ∷ []) (numbers_of old) l.sought) (take n near) ≡ false) at none)
    | inr past ↦ absurd (omega (arith, past.0))
  ]

  -- one more that does not, for it was tried
  pub none_tried : (new : List Bound) (n : ℕ) (d : Key) → n < length near → NoneGoes ls i j (numbers_of old) (take n near) → TriesKey ls i j now new (get_or near n d) false
      → NoneGoes ls i j (numbers_of old) (take (n + 1) near)
  none_tried new n d within none h = by_list (slice_get ls i) refl none
    where
      by_list : (o : Option Lot) → slice_get ls i ≡ o → MatchOption o (Unit {0}) (λ (l : Lot). list_any (goes_at ls (j ∷ []) (numbers_of old) l.sought) (take n near) ≡ false)
          → MatchOption (slice_get ls i) (Unit {0}) (λ (l : Lot). list_any (goes_at ls (j ∷ []) (numbers_of old) l.sought) (take (n + 1) near) ≡ false)
      by_list None at f = rw at tt
      by_list (Some l) at f = rw at (none_more (goes_at ls (j ∷ []) (numbers_of old) l.sought) near n d within f (tried ls i j l old now new (get_or near n d) false at same h))

-- one more that does not, for no key near the other list has its number
pub none_merged : (ls : List Lot) (i j : ℕ) (b : BoundNumbers) (p : Joint) (near other : List Key) (n : ℕ) (d : Key) → n < length near → NoneGoes ls i j b (take n near)
    → j < length ls → MatchOption (slice_get ls j) (Unit {0}) (λ (l : Lot). Serves b l other) → AreJoint ls i j p
    → ((k : ℕ) (e : Key) → k < length other → first_of p.other (get_or other k e) ≡ first_of p.one (get_or near n d) → ⊥)
    → NoneGoes ls i j b (take (n + 1) near)
none_merged ls i j b p near other n d within none there serves joint apart = elim (slice_get_cases ls j).1 [
  | inl found ↦ let (m, inside, at, is) = found in by_list m at (slice_get ls i) refl none joint
  | inr past ↦ absurd (omega (arith, past.0))
]
  where
    by_list : (m : Lot) → slice_get ls j ≡ Some m → (o : Option Lot) → slice_get ls i ≡ o → MatchOption o (Unit {0}) (λ (l : Lot). list_any (goes_at ls (j ∷ []) b l.sought) (take n near) ≡ false)
        → MatchOption o (Unit {0}) (λ (l : Lot). MatchOption (slice_get ls j) (Unit {0}) (λ (m : Lot). IsJoint l.sought m.sought p))
        → MatchOption (slice_get ls i) (Unit {0}) (λ (l : Lot). list_any (goes_at ls (j ∷ []) b l.sought) (take (n + 1) near) ≡ false)
    by_list m at None own f g = rw own tt
    by_list m at (Some l) own f g =
        rw own (none_more (goes_at ls (j ∷ []) b l.sought) near n d within f
        (goes_none ls j m b l.sought p (get_or near n d) other at (of_list ls j m (λ (l : Lot). Serves b l other) at serves) (of_list ls j m (λ (m : Lot). IsJoint l.sought m.sought p) at g) apart))
