-- Events of steps, and the seats of connections that were dropped.
use Rattle.std.proofs.Common.{◌≡◌, ℕ, Bool, true, false, cond, [], ◌∷◌, ◌++◌, refl, sym, ap, subst, ◌∙◌, append-nil, append_assoc}
use Rattle.gs_event.specs.Histories.{History}
use Rattle.gs_talk.specs.Seats.{Deeds}
use Rattle.gs_world.specs.declared.steps.WorldStep.{WorldStep}
use Rattle.gs_world.specs.Happenings.{Past, Input, is_step_of, input_with, with_own, with_step, input_of, deed_at, deeds_at, IsMadeBy, SparesDropped, AreMadeAfter, AreMadeBy, NothingFollowsADrop}

-- events of steps, and of those before them
pub made_append : (earlier mid past : Past) (h g : History) → AreMadeAfter (mid ++ earlier) past h → AreMadeAfter earlier mid g → AreMadeAfter earlier (past ++ mid) (h ++ g)
made_append earlier mid [] h g m n = subst (λ (z : History). AreMadeAfter earlier mid (z ++ g)) (sym m) n
made_append earlier mid (step ∷ past) h g m n = (
  m.0,
  m.1 ++ g,
  ap (λ (z : History). z ++ g) m.2 ∙ append_assoc m.0 m.1 g,
  m.3,
  subst (λ (q : Past). SparesDropped q m.0) (sym (append_assoc past mid earlier)) m.4,
  made_append earlier mid past m.1 g m.5 n,
)

-- those of one step
pub made_one : (earlier : Past) (step : WorldStep) (h : History) → IsMadeBy step h → SparesDropped earlier h → AreMadeAfter earlier (step ∷ []) h
made_one earlier step h m s = (h, [], sym (append-nil h), m, s, refl)

-- those of one step more
pub made_more : (past : Past) (history : History) (step : WorldStep) (last : History) → IsMadeBy step last → SparesDropped past last → AreMadeBy past history
    → AreMadeBy (step ∷ past) (last ++ history)
made_more past history step last m s n = (last, history, refl, m, subst (λ (q : Past). SparesDropped q last) (sym (append-nil past)) s, n)

-- one that was dropped stays so
step_dropped : (c : ℕ) (i : Input) (step : WorldStep) → i.is_dropped ≡ true → (with_step c i step).is_dropped ≡ true
step_dropped c i step d = go (is_step_of c step) where
  go : (b : Bool) → (cond b (input_with i step) i).is_dropped ≡ true
  go true = ap (λ (b : Bool). (cond b i (with_own i step)).is_dropped) d ∙ d
  go false = d

stays_dropped : (c : ℕ) (later earlier : Past) → (input_of c earlier).is_dropped ≡ true → (input_of c (later ++ earlier)).is_dropped ≡ true
stays_dropped c [] earlier d = d
stays_dropped c (step ∷ later) earlier d = step_dropped c (input_of c (later ++ earlier)) step (stays_dropped c later earlier d)

-- what is done at a seat, and what was done before
deeds-append : (c : ℕ) (more before : History) → deeds_at c (more ++ before) ≡ deeds_at c before ++ deeds_at c more
deeds-append c [] before = sym (append-nil (deeds_at c before))
deeds-append c (x ∷ more) before =
    ap (λ (d : Deeds). d ++ deed_at c x.0 x.1) (deeds-append c more before) ∙ append_assoc (deeds_at c before) (deeds_at c more) (deed_at c x.0 x.1)

-- Once a connection is dropped nothing more is done at its seat.
pub nothing_follows : NothingFollowsADrop
nothing_follows c [] earlier history m d = ([], history, refl, m, refl)
nothing_follows c (step ∷ later) earlier history m d = go (nothing_follows c later earlier m.1 m.5 d) where
  here : deeds_at c m.0 ≡ []
  here = m.4 c (subst (λ (q : Past). (input_of c q).is_dropped ≡ true) (sym (append-nil (later ++ earlier))) (stays_dropped c later earlier d))

  go : (more : History) × (before : History) × (m.1 ≡ more ++ before) × AreMadeBy earlier before × (deeds_at c more ≡ [])
      → (more : History) × (before : History) × (history ≡ more ++ before) × AreMadeBy earlier before × (deeds_at c more ≡ [])
  go n = (
    m.0 ++ n.0,
    n.1,
    m.2 ∙ ap (λ (h : History). m.0 ++ h) n.2 ∙ sym (append_assoc m.0 n.0 n.1),
    n.3,
    deeds-append c m.0 n.0 ∙ ap (λ (d : Deeds). d ++ deeds_at c m.0) n.4 ∙ here,
  )
