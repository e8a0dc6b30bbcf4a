-- What an event brings for a page to store.
use Rattle.std.specs.Prelude.{◌≡◌, ℕ, List, [], map}
use Rattle.gs_model.specs.Triples.{RdfTriple}
use Rattle.gs_event.specs.declared.updates.Op.{Op}
use Rattle.gs_event.specs.declared.events.Action.{Action}
use Rattle.gs_event.specs.declared.events.Action.TheVariants.{Stage, CommitPatch}
use Rattle.gs_event.specs.declared.events.Event.{Event}
use Rattle.gs_event.specs.declared.events.Event.TheVariants.{Seat as At, Reclaim}
use Rattle.gs_small_triples.specs.Small.{small_triples}
use Rattle.gs_chronicle.specs.KeptOps.{brings, kept_brings}
use Rattle.gs_chronicle.specs.Sizes.{triples_size, ops_size}
use Rattle.gs_audit.specs.declared.forms.Form.{Form}
use Rattle.gs_audit.specs.declared.forms.Form.TheVariants.{List as ListForm, Ops as OpsForm}

-- the triples of the list that an event stages, none for another event
abbrev pub staged_by : Event → List RdfTriple
staged_by (At s (Stage ts)) = ts.items
staged_by e = []

-- the operations that an event commits, none for another event
abbrev pub committed_by : Event → List Op
committed_by (At s (CommitPatch ops)) = ops.items
committed_by e = []

-- as how many triples what an action brings counts, 0 where it brings nothing
abbrev pub action_counts : Action → ℕ
action_counts (Stage ts) = triples_size ts.items
action_counts (CommitPatch ops) = ops_size ops.items
action_counts action = 0

-- the same of an event
abbrev pub counts : Event → ℕ
counts (At s action) = action_counts action
counts (Reclaim n) = 0

-- how a page keeps what the event brings: the triples of its list, or its operations, without their patterns
abbrev pub IsFormOf : Event → Form → Type 0
IsFormOf e (ListForm s) = small_triples s ≡ staged_by e
IsFormOf e (OpsForm forms) = map kept_brings forms.items ≡ map brings (committed_by e)
