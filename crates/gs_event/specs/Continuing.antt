-- How histories go on, by one more answer that fits and by a run of steps, and what a store shows then.
use Rattle.std.specs.Prelude.{◌≡◌, List, ◌∷◌, ◌++◌}
use Rattle.gs_event.specs.declared.events.Event.{Event}
use Rattle.gs_event.specs.declared.answers.Answer.{Answer}
use Rattle.gs_event.specs.Views.{Fits, next_view}
use Rattle.gs_event.specs.Waste.{Shown}
use Rattle.gs_event.specs.Steps.{Steps, next_pinned}
use Rattle.gs_event.specs.Runs.{Runs}
use Rattle.gs_event.specs.Histories.{Start, History, IsLegal, HasRun, view_of, pinned_of, history_of}

-- what is shown after one more answer that fits is the next view
abbrev pub ViewGoesOn : Start → History → Type 0
ViewGoesOn start h = (e : Event) (a : Answer) → Fits (view_of start h) e a → view_of start ((e, a) ∷ h) ≡ next_view (view_of start h) e a

-- after one more answer that fits what is shown, the pins are the next ones
abbrev pub PinsGoOn : Start → History → Shown → Type 0
PinsGoOn start h s =
    (e : Event) (a : Answer) → s.view ≡ view_of start h → s.pinned ≡ pinned_of start h → Fits s.view e a
    → pinned_of start ((e, a) ∷ h) ≡ next_pinned s e a

-- steps from what a legal history says to t make a legal history, and t shows what it says
abbrev pub StepsGoOn : Start → History → Shown → Shown → Type 0
StepsGoOn start before s t =
    (events : List Event) (answers : List Answer) → IsLegal start before → s.view ≡ view_of start before
    → s.pinned ≡ pinned_of start before → Runs Steps s events answers t → HasRun start before events answers t

-- after each legal history that was shown, these answers to these events are legal
abbrev pub KeepsLegal : Shown → List Event → List Answer → Type 0
KeepsLegal old events answers =
    (start : Start) (before : History) → IsLegal start before → old.view ≡ view_of start before
    → IsLegal start (history_of events answers ++ before)

-- the view is then that of the whole history
abbrev pub ShowsHistory : Shown → List Event → List Answer → Shown → Type 0
ShowsHistory old events answers new =
    (start : Start) (before : History) → IsLegal start before → old.view ≡ view_of start before
    → new.view ≡ view_of start (history_of events answers ++ before)

-- and the pins are its pins
abbrev pub HasItsPins : Shown → List Event → List Answer → Shown → Type 0
HasItsPins old events answers new =
    (start : Start) (before : History) → IsLegal start before → old.view ≡ view_of start before
    → old.pinned ≡ pinned_of start before → new.pinned ≡ pinned_of start (history_of events answers ++ before)
