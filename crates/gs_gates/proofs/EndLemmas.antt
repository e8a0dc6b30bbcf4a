-- What is awaited of an event comes with just the answers that end it.
use Rattle.std.proofs.Common.{◌≡◌, refl}
use Rattle.gs_event.specs.declared.events.Action.TheVariants.{Open, OpenPatch, Stage, Commit, CommitPatch, Delete, Head, Pin, Piece, Cancel}
use Rattle.gs_event.specs.declared.events.Event.{Event}
use Rattle.gs_event.specs.declared.events.Event.TheVariants.{Seat as At, Reclaim}
use Rattle.gs_event.specs.declared.answers.Answer.{Answer}
use Rattle.gs_event.specs.declared.answers.Answer.TheVariants.{Opened, Staged, Status, Pinned, Lines, Cancelled, Reclaimed, Refused}
use Rattle.gs_gates.specs.Endings.{awaited_of, comes_with, is_ending}

-- event by event, and where something is awaited, answer by answer
pub comes_with_awaited : (e : Event) (a : Answer) → comes_with (awaited_of e) a ≡ is_ending e a
comes_with_awaited (Reclaim n) a = refl
comes_with_awaited (At s (Open k since)) a = refl
comes_with_awaited (At s (OpenPatch t since)) a = refl
comes_with_awaited (At s (Stage ts)) a = refl
comes_with_awaited (At s (Head c)) a = refl
comes_with_awaited (At s (Pin c)) a = refl
comes_with_awaited (At s Commit) (Opened r) = refl
comes_with_awaited (At s Commit) Staged = refl
comes_with_awaited (At s Commit) (Status status name number) = refl
comes_with_awaited (At s Commit) (Pinned status number) = refl
comes_with_awaited (At s Commit) (Lines bytes is_last) = refl
comes_with_awaited (At s Commit) Cancelled = refl
comes_with_awaited (At s Commit) (Reclaimed freed left) = refl
comes_with_awaited (At s Commit) (Refused refusal) = refl
comes_with_awaited (At s (CommitPatch ops)) (Opened r) = refl
comes_with_awaited (At s (CommitPatch ops)) Staged = refl
comes_with_awaited (At s (CommitPatch ops)) (Status status name number) = refl
comes_with_awaited (At s (CommitPatch ops)) (Pinned status number) = refl
comes_with_awaited (At s (CommitPatch ops)) (Lines bytes is_last) = refl
comes_with_awaited (At s (CommitPatch ops)) Cancelled = refl
comes_with_awaited (At s (CommitPatch ops)) (Reclaimed freed left) = refl
comes_with_awaited (At s (CommitPatch ops)) (Refused refusal) = refl
comes_with_awaited (At s (Delete t since)) (Opened r) = refl
comes_with_awaited (At s (Delete t since)) Staged = refl
comes_with_awaited (At s (Delete t since)) (Status status name number) = refl
comes_with_awaited (At s (Delete t since)) (Pinned status number) = refl
comes_with_awaited (At s (Delete t since)) (Lines bytes is_last) = refl
comes_with_awaited (At s (Delete t since)) Cancelled = refl
comes_with_awaited (At s (Delete t since)) (Reclaimed freed left) = refl
comes_with_awaited (At s (Delete t since)) (Refused refusal) = refl
comes_with_awaited (At s Cancel) (Opened r) = refl
comes_with_awaited (At s Cancel) Staged = refl
comes_with_awaited (At s Cancel) (Status status name number) = refl
comes_with_awaited (At s Cancel) (Pinned status number) = refl
comes_with_awaited (At s Cancel) (Lines bytes is_last) = refl
comes_with_awaited (At s Cancel) Cancelled = refl
comes_with_awaited (At s Cancel) (Reclaimed freed left) = refl
comes_with_awaited (At s Cancel) (Refused refusal) = refl
comes_with_awaited (At s (Piece n)) (Opened r) = refl
comes_with_awaited (At s (Piece n)) Staged = refl
comes_with_awaited (At s (Piece n)) (Status status name number) = refl
comes_with_awaited (At s (Piece n)) (Pinned status number) = refl
comes_with_awaited (At s (Piece n)) (Lines bytes is_last) = refl
comes_with_awaited (At s (Piece n)) Cancelled = refl
comes_with_awaited (At s (Piece n)) (Reclaimed freed left) = refl
comes_with_awaited (At s (Piece n)) (Refused refusal) = refl
