-- Runs of steps, and the histories that they make.
use Rattle.std.proofs.Common.{◌≡◌, List, [], ◌∷◌, ◌++◌, length, refl, sym, ap, ◌∙◌, subst, arith, append_assoc}
use Rattle.std.specs.List.{zip}
use Rattle.std.proofs.lemmas.List.{reverse-append}
use Rattle.gs_event.specs.declared.events.Event.{Event}
use Rattle.gs_event.specs.declared.answers.Answer.{Answer}
use Rattle.gs_event.specs.Views.{Fits, next_view}
use Rattle.gs_event.specs.Waste.{Shown}
use Rattle.gs_event.specs.Steps.{Steps}
use Rattle.gs_event.specs.Runs.{Runs}
use Rattle.gs_event.specs.Histories.{History, Start, IsLegal, view_of, pinned_of, history_of}
use Rattle.gs_event.specs.Continuing.{StepsGoOn}
use Rattle.gs_event.proofs.HistoryLemmas.{view_of-cons}
use Rattle.gs_event.proofs.PinLemmas.{pinned_of-cons}

module _ {V : Type 0} (takes : V → Event → Answer → V → Type 0) where
  -- one more event
  pub runs_more : (s u t : V) (events : List Event) (answers : List Answer) (e : Event) (a : Answer) → Runs takes s events answers u → takes u e a t → Runs takes s (events ++ e ∷ []) (answers ++ a ∷ []) t
  runs_more s u t [] [] e a run step = (t, (subst (λ x. takes x e a t) run step, refl))
  runs_more s u t [] (b ∷ answers) e a run step = absurd run
  runs_more s u t (d ∷ events) [] e a run step = absurd run
  runs_more s u t (d ∷ events) (b ∷ answers) e a run step = (run.0, (run.1.0, runs_more run.0 u t events answers e a run.1.1 step))

  -- each event has an answer
  pub runs_answered : (s t : V) (events : List Event) (answers : List Answer) → Runs takes s events answers t → length answers ≡ length events
  runs_answered s t [] [] run = refl
  runs_answered s t [] (b ∷ answers) run = absurd run
  runs_answered s t (d ∷ events) [] run = absurd run
  runs_answered s t (d ∷ events) (b ∷ answers) run = omega (arith, runs_answered run.0 t events answers run.1.1)

-- the first event of a run comes just after what was before
history_of-cons : (e : Event) (a : Answer) (events : List Event) (answers : List Answer) (before : History) → history_of events answers ++ (e, a) ∷ before ≡ history_of (e ∷ events) (a ∷ answers) ++ before
history_of-cons e a events answers before =
    sym (append_assoc (history_of events answers) ((e, a) ∷ []) before) ∙ ap (λ h. h ++ before) (sym (reverse-append ((e, a) ∷ []) (zip events answers)))

-- from what a legal history says, a run of steps goes on with a legal one, and shows what it says
pub run_views : (start : Start) (before : History) (events : List Event) (answers : List Answer) (s t : Shown) → Runs Steps s events answers t → IsLegal start before → s.view ≡ view_of start before
    → IsLegal start (history_of events answers ++ before) × (t.view ≡ view_of start (history_of events answers ++ before))
run_views start before [] [] s t run legal view = (legal, ap (λ (x : Shown). x.view) run ∙ view)
run_views start before [] (a ∷ answers) s t run legal view = absurd run
run_views start before (e ∷ events) [] s t run legal view = absurd run
run_views start before (e ∷ events) (a ∷ answers) s t run legal view =
    let step = run.1.0 in
    let fits : Fits (view_of start before) e a = subst (λ v. Fits v e a) view step.fits in
    let next : (run.0).view ≡ view_of start ((e, a) ∷ before) = step.view ∙ ap (λ v. next_view v e a) view ∙ sym (view_of-cons start before e a fits) in
    subst (λ h. IsLegal start h × (t.view ≡ view_of start h)) (history_of-cons e a events answers before)
    (run_views start ((e, a) ∷ before) events answers run.0 t run.1.1 (legal, fits) next)

-- and has its pins
pub run_pins : (start : Start) (before : History) (events : List Event) (answers : List Answer) (s t : Shown) → Runs Steps s events answers t → s.view ≡ view_of start before → s.pinned ≡ pinned_of start before → t.pinned ≡ pinned_of start (history_of events answers ++ before)
run_pins start before [] [] s t run view pins = ap (λ (x : Shown). x.pinned) run ∙ pins
run_pins start before [] (a ∷ answers) s t run view pins = absurd run
run_pins start before (e ∷ events) [] s t run view pins = absurd run
run_pins start before (e ∷ events) (a ∷ answers) s t run view pins =
    let step = run.1.0 in
    let fits : Fits (view_of start before) e a = subst (λ v. Fits v e a) view step.fits in
    let next : (run.0).view ≡ view_of start ((e, a) ∷ before) = step.view ∙ ap (λ v. next_view v e a) view ∙ sym (view_of-cons start before e a fits) in
    let then : (run.0).pinned ≡ pinned_of start ((e, a) ∷ before) = step.pinned ∙ sym (pinned_of-cons start before s e a view pins step.fits) in
    subst (λ h. t.pinned ≡ pinned_of start h) (history_of-cons e a events answers before)
    (run_pins start ((e, a) ∷ before) events answers run.0 t run.1.1 next then)

-- a run of steps from what a legal history says, with its pins
pub has_run : (start : Start) (before : History) (s t : Shown) → StepsGoOn start before s t
has_run start before s t events answers legal view pins run =
    let views = run_views start before events answers s t run legal view in
    record {
      answered = runs_answered Steps s t events answers run;
      legal = views.0;
      view = views.1;
      pinned = run_pins start before events answers s t run view pins;
    }
