-- Runs: events in order, each answered by a step from one value to the next.
use Rattle.std.specs.Prelude.{◌≡◌, List, [], ◌∷◌}
use Rattle.gs_event.specs.declared.events.Event.{Event}
use Rattle.gs_event.specs.declared.answers.Answer.{Answer}

-- from value s these events are answered so, one after another, and t is the value then; `takes` says
-- which value comes after an event and its answer
abbrev pub Runs : {V : Type 0} → (V → Event → Answer → V → Type 0) → V → List Event → List Answer → V → Type 0
Runs takes s [] [] t = t ≡ s
Runs {V = V} takes s (e ∷ events) (a ∷ answers) t = (u : V) × (takes s e a u × Runs takes u events answers t)
Runs takes s events answers t = ⊥
