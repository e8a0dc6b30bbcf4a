use Rattle.std.proofs.Common.{◌≡◌, ℕ, Bool, true, false, List, Option, Some, None, is_some, slice_get, get_or, sym, subst, ◌∙◌, ap, inl, inr, true≢false}
use Rattle.std.proofs.lemmas.List.{get_or_past}
use Rattle.std.proofs.lemmas.Option.{slice_get_cases, get_or_from_slice_get}
use Rattle.std.specs.Bool.{Decides}
use Rattle.gs_versions.specs.Pins.{Pins, LiesIn, FindsPin, IsNeeded}
use Rattle.gs_versions.proofs.versions.Versions.is_needed.Goals as goal

-- a pin that is read past the end would be none
pinned_there : (seats : List (Option ℕ)) (seat v : ℕ) → get_or seats seat None ≡ Some v → slice_get seats seat ≡ Some (Some v)
pinned_there seats seat v is = elim (slice_get_cases seats seat).1 [
  | inl found ↦
      let (pin, inside, at, read) = found in
      at ∙ ap Some (sym (get_or_from_slice_get seats seat pin None at) ∙ is)
  | inr past ↦ absurd (let e : get_or seats seat None ≡ None = get_or_past seats seat None past.0 in cc)
]

-- where the current version does not need it, a seat that was found does, and else nobody
needed : (p : Pins) (birth death : ℕ) (found : Option ℕ) (here some : Bool) → Decides here (LiesIn p.commit birth death) → here ≡ false → some ≡ is_some found → FindsPin p.seats birth death found
    → (some ≡ true → IsNeeded p birth death) × (IsNeeded p birth death → some ≡ true)
needed p birth death None here some d off is h = (
  λ so. absurd (true≢false (sym so ∙ is)),
  λ need. elim need [
    | inl lies ↦ absurd (true≢false (sym (d.1 lies) ∙ off))
    | inr pinned ↦ absurd (h pinned)
  ],
)
needed p birth death (Some seat) here some d off is h = (
  λ so. inr record { seat = seat; version = h.version; pinned = pinned_there p.seats seat h.version h.pinned; lies = h.lies },
  λ need. is,
)

pub returns-else-lies_in : goal.returns-else-lies_in
returns-else-lies_in c = needed c.args.self.now c.args.birth c.args.death c.needing.result c.lies_in.result c.is_some.result
    (subst (λ n. Decides c.lies_in.result (LiesIn n c.args.birth c.args.death)) (ap (λ (p : Pins). p.commit) c.self.view_is) c.lies_in.ensures) c.if-lies_in.false c.is_some.ensures c.needing.ensures
