-- What an event asks, as far as a tally is concerned, and what an answer makes of that.
use Rattle.std.specs.Prelude.{ℕ, Option, Some, None}
use Rattle.gs_event.specs.declared.events.Action.{Action}
use Rattle.gs_event.specs.declared.events.Action.TheVariants.{Stage, Commit, CommitPatch, Delete, Head, Pin}
use Rattle.gs_event.specs.declared.events.Event.{Event}
use Rattle.gs_event.specs.declared.events.Event.TheVariants.{Seat as At, Reclaim}
use Rattle.gs_event.specs.declared.answers.Answer.{Answer}
use Rattle.gs_event.specs.declared.answers.Answer.TheVariants.{Staged, Status, Pinned}
use Rattle.gs_chronicle.specs.declared.kinds.ActionKind.{ActionKind}
use Rattle.gs_chronicle.specs.declared.kinds.ActionKind.TheVariants.{Commit as CommitKind, CommitPatch as PatchKind, Delete as DeleteKind, Head as HeadKind, Pin as PinKind}
use Rattle.gs_chronicle.specs.Sizes.{triples_size, ops_size}
use Rattle.gs_shared.specs.declared.asked.EventAsk.{EventAsk}
use Rattle.gs_shared.specs.declared.asked.EventAsk.TheVariants.{Stage as AsksStage, Status as AsksStatus, Pin as AsksPin, Nothing as AsksNothing}

-- what an action asks
abbrev pub ask_of_action : Action → EventAsk
ask_of_action (Stage ts) = AsksStage (triples_size ts.items)
ask_of_action Commit = AsksStatus CommitKind 0
ask_of_action (CommitPatch ops) = AsksStatus PatchKind (ops_size ops.items)
ask_of_action (Delete t since) = AsksStatus DeleteKind 0
ask_of_action (Head c) = AsksStatus HeadKind 0
ask_of_action (Pin c) = AsksPin
ask_of_action action = AsksNothing

-- what an event asks
abbrev pub ask_of_event : Event → EventAsk
ask_of_event (At s action) = ask_of_action action
ask_of_event (Reclaim n) = AsksNothing

-- the kind and status of a deciding call with this answer
abbrev pub decided_of : EventAsk → Answer → Option (ActionKind × ℕ)
decided_of (AsksStatus kind n) (Status s name number) = Some (kind, s)
decided_of AsksPin (Pinned s number) = Some (PinKind, s)
decided_of asked a = None

-- as how many triples counts what came with this answer
abbrev pub brought_of : EventAsk → Answer → ℕ
brought_of (AsksStage n) Staged = n
brought_of (AsksStatus kind n) (Status s name number) = n
brought_of asked a = 0

-- as how many triples counts what the event brings; 0 where it brings nothing
abbrev pub counted_in : EventAsk → ℕ
counted_in (AsksStage n) = n
counted_in (AsksStatus kind n) = n
counted_in asked = 0
