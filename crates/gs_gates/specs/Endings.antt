-- Which answers end an upload, a patch, a Delete or a read.
use Rattle.std.specs.Prelude.{Bool, true, false}
use Rattle.gs_event.specs.declared.events.Action.{Action}
use Rattle.gs_event.specs.declared.events.Action.TheVariants.{Commit, CommitPatch, Delete, Piece, Cancel}
use Rattle.gs_event.specs.declared.events.Event.{Event}
use Rattle.gs_event.specs.declared.events.Event.TheVariants.{Seat as At}
use Rattle.gs_event.specs.declared.answers.Answer.{Answer}
use Rattle.gs_event.specs.declared.answers.Answer.TheVariants.{Status, Lines, Cancelled}
use Rattle.gs_gates.specs.declared.endings.Awaited.{Awaited}
use Rattle.gs_gates.specs.declared.endings.Awaited.TheVariants.{Status as AwaitsStatus, Cancelled as AwaitsCancelled, LastLines as AwaitsLastLines, Nothing as AwaitsNothing}

-- whether an answered event ended an upload or a patch, was a Delete that was not refused, or ended a read
abbrev pub is_ending : Event → Answer → Bool
is_ending (At s Commit) (Status status name number) = true
is_ending (At s (CommitPatch ops)) (Status status name number) = true
is_ending (At s (Delete t since)) (Status status name number) = true
is_ending (At s Cancel) Cancelled = true
is_ending (At s (Piece n)) (Lines bytes is_last) = is_last
is_ending e a = false

-- the answer that ends what an event is about
abbrev pub awaited_of : Event → Awaited
awaited_of (At s Commit) = AwaitsStatus
awaited_of (At s (CommitPatch ops)) = AwaitsStatus
awaited_of (At s (Delete t since)) = AwaitsStatus
awaited_of (At s Cancel) = AwaitsCancelled
awaited_of (At s (Piece n)) = AwaitsLastLines
awaited_of e = AwaitsNothing

-- whether it is this one
abbrev pub comes_with : Awaited → Answer → Bool
comes_with AwaitsStatus (Status status name number) = true
comes_with AwaitsCancelled Cancelled = true
comes_with AwaitsLastLines (Lines bytes is_last) = is_last
comes_with w a = false
