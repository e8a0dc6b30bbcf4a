-- Runs of a store over trees, as runs of any store.
use Rattle.std.proofs.Common.{List, [], ◌∷◌}
use Rattle.gs_event.specs.declared.events.Event.{Event}
use Rattle.gs_event.specs.declared.answers.Answer.{Answer}
use Rattle.gs_event.specs.Waste.{Shown}
use Rattle.gs_event.specs.Steps.{Steps}
use Rattle.gs_event.specs.Runs.{Runs}
use Rattle.gs_tree_store.specs.Uses.{TreeSteps}

-- each step of it is one of any store
pub tree_runs : (events : List Event) (answers : List Answer) (s t : Shown) → Runs TreeSteps s events answers t → Runs Steps s events answers t
tree_runs [] [] s t run = run
tree_runs [] (a ∷ answers) s t run = absurd run
tree_runs (e ∷ events) [] s t run = absurd run
tree_runs (e ∷ events) (a ∷ answers) s t run = (run.0, (run.1.0.steps, tree_runs events answers run.0 t run.1.1))
