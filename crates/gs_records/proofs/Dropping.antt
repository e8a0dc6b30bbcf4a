-- Records that no pinned version needs go.
use Rattle.std.proofs.Common.{◌≡◌, ℕ, ◌+◌, ◌≤◌, true, false, List, [], ◌∷◌, Option, Some, None, is_none, slice_index_or, refl, sym, ap, subst, ◌∙◌, inl, inr, arith, true≢false}
use Rattle.std.proofs.lemmas.Bool.{cases_eq, ltb-true}
use Rattle.std.proofs.lemmas.List.Elements.{All-nil, All-cons}
use Rattle.std.proofs.lemmas.List.Sums.{sum_by-cons}
use Rattle.std.specs.List.{sum_by}
use Rattle.gs_term.specs.declared.names.Target.{Target}
use Rattle.gs_versions.specs.Pins.{Pins, LiesIn, IsPinned, IsNeeded}
use Rattle.gs_event.specs.Waste.{Lifetime, is_needed}
use Rattle.gs_ledger.proofs.Needing.{not_needed, needed_by_pin}
use Rattle.gs_reclaim.proofs.Reclaiming.{seat_pinned}
use Rattle.gs_records.specs.Records.{Record, free, record_at, outlives, has_at, is_current, Turns}
use Rattle.gs_records.specs.Waste.{lifetime_of, lifetimes}
use Rattle.gs_records.specs.Kept.{AreSingle}
use Rattle.gs_records.specs.Reclaims.{IsUnneeded, StaysOrGoes}
use Rattle.gs_records.specs.Sweeps.{Drops}
use Rattle.gs_records.proofs.Lifetimes.{has_birth, has_lives, once_at, once_current}
use Rattle.gs_records.proofs.Turning.{IsNoneOf, none_bare, graphs_turned, births_turned}
use Rattle.gs_records.proofs.Sums.{waste_turned}

-- what a seat has pinned a version of is needed
pub pinned_needed : (pins : List (Option ℕ)) (l : Lifetime) → IsPinned pins l.birth l.death → is_needed pins l ≡ true
pinned_needed pins l p = needed_by_pin (record { commit = l.death; seats = pins }) l (inr p) (omega arith)

-- and what none has is not
pub not_pinned : (pins : List (Option ℕ)) (l : Lifetime) → (IsPinned pins l.birth l.death → ⊥) → is_needed pins l ≡ false
not_pinned pins l none = not_needed (record { commit = l.death; seats = pins }) l never
  where
    never : IsNeeded (record { commit = l.death; seats = pins }) l.birth l.death → ⊥
    never (inl now) = absurd (omega (arith, now.1))
    never (inr pin) = none pin

same_life : (a b : Lifetime) → a ∷ [] ≡ b ∷ [] → a ≡ b
same_life a b e = cc

no_life : (l : Lifetime) → [] ≡ l ∷ [] → ⊥
no_life l e = absurd (cc)

-- a version that has a record lies in its lifetime
life_lies : (birth : ℕ) (o : Option ℕ) (l : Lifetime) (v : ℕ) → lifetime_of birth o ≡ l ∷ [] → birth ≤ v → outlives v o ≡ true → LiesIn v l.birth l.death
life_lies birth None l v e born lives = absurd (no_life l e)
life_lies birth (Some d) l v e born lives = subst (λ (m : Lifetime). LiesIn v m.birth m.death) (same_life (record { birth = birth; death = d }) l e) (born, ltb-true v d lives)

-- what has not died has no lifetime
none_life : (birth : ℕ) (o : Option ℕ) (l : Lifetime) → is_none o ≡ true → lifetime_of birth o ≡ l ∷ [] → ⊥
none_life birth None l now e = no_life l e
none_life birth (Some d) l now e = true≢false (sym now)

-- a record that no version needs is of none that is pinned, and is not current
pub unneeded_had : (pins : List (Option ℕ)) (s v : ℕ) → slice_index_or pins s None ≡ Some v → (r : Record) → IsUnneeded pins r → (t : Target) → IsNoneOf (has_at v) t r
unneeded_had pins s v pinned r u t e is same has =
    let lies = life_lies e.birth e.death u.life v (sym (ap lifetimes is) ∙ u.only) (has_birth v e has) (has_lives v e has) in
    let seats : Pins = record { commit = 0; seats = pins } in
    true≢false (sym (pinned_needed pins u.life (record { seat = s; version = v; pinned = seat_pinned seats s v pinned; lies = lies })) ∙ u.not_needed)

pub unneeded_current : (pins : List (Option ℕ)) (r : Record) → IsUnneeded pins r → (t : Target) → IsNoneOf is_current t r
unneeded_current pins r u t e is same now = none_life e.birth e.death u.life now (sym (ap lifetimes is) ∙ u.only)

-- what became of a number before, and does now
goes_on : (pins : List (Option ℕ)) (a b c : Record) → c ≡ b → StaysOrGoes pins a b → StaysOrGoes pins a c
goes_on pins a b c e (inl same) = inl (e ∙ same)
goes_on pins a b c e (inr gone) = inr (e ∙ gone.0, gone.1)

goes_now : (pins : List (Option ℕ)) (a b c : Record) → c ≡ free → IsUnneeded pins b → StaysOrGoes pins a b → StaysOrGoes pins a c
goes_now pins a b c e u (inl same) = inr (e, subst (IsUnneeded pins) same u)
goes_now pins a b c e u (inr gone) = inr (e, gone.1)

-- at first none went
pub drops_none : (pins : List (Option ℕ)) (rs : List Record) → Drops pins 0 rs rs
drops_none pins rs = record {
  each = λ m. inl refl;
  versions = λ s v p. refl;
  now = refl;
  births = refl;
  gone = [];
  many = refl;
  same = λ f. omega arith;
  none_needed = All-nil (λ l. is_needed pins l ≡ false);
}

-- one more went
pub drops_more : (pins : List (Option ℕ)) (k : ℕ) (rs bs cs : List Record) (n : ℕ) → Drops pins k rs bs → AreSingle bs → Turns bs cs n free → IsUnneeded pins (record_at bs n) → Drops pins (k + 1) rs cs
drops_more pins k rs bs cs n d single turn u = record {
  each = λ m. elim (cases_eq m n) [
    | inl here ↦ goes_now pins (record_at rs m) (record_at bs m) (record_at cs m) (ap (record_at cs) here ∙ turn.changed) (subst (λ j. IsUnneeded pins (record_at bs j)) (sym here) u) (d.each m)
    | inr ne ↦ goes_on pins (record_at rs m) (record_at bs m) (record_at cs m) (turn.others m ne) (d.each m)
  ];
  versions = λ s v p. graphs_turned (has_at v) bs cs n free (once_at v bs single) turn (unneeded_had pins s v p (record_at bs n) u) (λ t. none_bare (has_at v) t free refl) ∙ d.versions s v p;
  now = graphs_turned is_current bs cs n free (once_current bs single) turn (unneeded_current pins (record_at bs n) u) (λ t. none_bare is_current t free refl) ∙ d.now;
  births = births_turned bs cs n free (once_current bs single) turn (unneeded_current pins (record_at bs n) u) (λ t. none_bare is_current t free refl) ∙ d.births;
  gone = u.life ∷ d.gone;
  many = omega (arith, d.many);
  same = λ f. omega (arith, d.same f, waste_turned bs cs n free turn f, ap (sum_by f) u.only, sum_by-cons f u.life d.gone);
  none_needed = All-cons (λ l. is_needed pins l ≡ false) u.life d.gone u.not_needed d.none_needed;
}
