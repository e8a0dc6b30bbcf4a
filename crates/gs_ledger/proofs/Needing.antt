-- Whether a version needs a lifetime, as the pins of seats say it and as the law of waste does.
use Rattle.std.proofs.Common.{◌≡◌, ℕ, zero, suc, ◌<◌, ◌≤◌, Bool, true, false, ◌&&◌, ◌||◌, leb, ltb, List, [], ◌∷◌, Option, Some, None, refl, sym, ap, ◌∙◌, inl, inr, arith, true≢false}
use Rattle.std.proofs.lemmas.Bool.{cases_lt, lt-ltb, le-ltb, le-leb}
use Rattle.std.specs.List.{slice_get}
use Rattle.gs_versions.specs.Pins.{Pins, LiesIn, IsPinned, IsNeeded}
use Rattle.gs_event.specs.Waste.{Lifetime, lives_at, is_needed}

-- a version of a lifetime
lies_yes : (l : Lifetime) (v : ℕ) → LiesIn v l.birth l.death → lives_at l (Some v) ≡ true
lies_yes l v h = rw (le-leb l.birth v h.0) (rw (lt-ltb v l.death h.1) refl)

lies_from : (l : Lifetime) (v : ℕ) → lives_at l (Some v) ≡ true → LiesIn v l.birth l.death
lies_from l v e = elim (cases_lt v l.birth) [
  | inl before ↦ absurd (true≢false (sym e ∙ no_birth before))
  | inr from ↦ elim (cases_lt v l.death) [
    | inl until ↦ (from, until)
    | inr past ↦ absurd (true≢false (sym e ∙ no_death past))
  ]
]
  where
    and_no : (a : Bool) → (a && false) ≡ false
    and_no true = refl
    and_no false = refl

    no_birth : v < l.birth → lives_at l (Some v) ≡ false
    no_birth h = ap (λ b. b && ltb v l.death) (Rattle.std.proofs.lemmas.Bool.lt-leb l.birth v h)

    no_death : l.death ≤ v → lives_at l (Some v) ≡ false
    no_death h = ap (λ b. leb l.birth v && b) (le-ltb v l.death h) ∙ and_no (leb l.birth v)

-- what a pin needs, a seat has pinned
pinned_from : (l : Lifetime) (pins : List (Option ℕ)) → is_needed pins l ≡ true → IsPinned pins l.birth l.death
pinned_from l [] e = absurd (true≢false (sym e))
pinned_from l (None ∷ pins) e = let rest = pinned_from l pins e in record { seat = suc rest.seat; version = rest.version; pinned = rest.pinned; lies = rest.lies }
pinned_from l (Some v ∷ pins) e = by_test (λ r. pinned_from l pins r) (lives_at l (Some v)) refl
  where
    by_test : (is_needed pins l ≡ true → IsPinned pins l.birth l.death) → (b : Bool) → lives_at l (Some v) ≡ b → IsPinned (Some v ∷ pins) l.birth l.death
    by_test later true h = record { seat = 0; version = v; pinned = refl; lies = lies_from l v h }
    by_test later false h = let rest = later (ap (λ b. b || is_needed pins l) (sym h) ∙ e) in
        record { seat = suc rest.seat; version = rest.version; pinned = rest.pinned; lies = rest.lies }

or_true : (a : Bool) → (a || true) ≡ true
or_true true = refl
or_true false = refl

pinned_yes : (l : Lifetime) (pins : List (Option ℕ)) (s v : ℕ) → slice_get pins s ≡ Some (Some v) → LiesIn v l.birth l.death → is_needed pins l ≡ true
pinned_yes l [] zero v e h = absurd (cc)
pinned_yes l [] (suc s) v e h = absurd (cc)
pinned_yes l (o ∷ pins) zero v e h = let same : o ≡ Some v = some_same o (Some v) e in ap (λ k. lives_at l k || is_needed pins l) same ∙ ap (λ b. b || is_needed pins l) (lies_yes l v h)
  where
    some_same : (a b : Option ℕ) → Some a ≡ Some b → a ≡ b
    some_same a b f = cc
pinned_yes l (o ∷ pins) (suc s) v e h = ap (λ b. lives_at l o || b) (pinned_yes l pins s v e h) ∙ or_true (lives_at l o)

-- a lifetime that no version needs is one that no pin needs
pub not_needed : (v : Pins) (l : Lifetime) → (IsNeeded v l.birth l.death → ⊥) → is_needed v.seats l ≡ false
not_needed v l never = by_test (is_needed v.seats l) refl
  where
    by_test : (b : Bool) → is_needed v.seats l ≡ b → is_needed v.seats l ≡ false
    by_test true e = absurd (never (inr (pinned_from l v.seats e)))
    by_test false e = e

-- what died by the last commit and is needed, is needed by a pin
pub needed_by_pin : (v : Pins) (l : Lifetime) → IsNeeded v l.birth l.death → l.death ≤ v.commit → is_needed v.seats l ≡ true
needed_by_pin v l needed died = elim needed [
  | inl current ↦ absurd (omega (arith, current.1))
  | inr pin ↦ pinned_yes l v.seats pin.seat pin.version pin.pinned pin.lies
]

-- a node that is older, and died with one that is needed, is needed
pub older_needed : (v : Pins) (birth older death : ℕ) → older ≤ birth → IsNeeded v birth death → IsNeeded v older death
older_needed v birth older death le needed = elim needed [
  | inl current ↦ inl (omega (arith, current.0), current.1)
  | inr pin ↦ inr (record { seat = pin.seat; version = pin.version; pinned = pin.pinned; lies = (omega (arith, pin.lies.0), pin.lies.1) })
]
