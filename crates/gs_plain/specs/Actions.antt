-- What an action makes of the books and of its seat. No public clause cites this module.
use Rattle.std.specs.Prelude.{◌≡◌, ℕ, ◌<◌, ◌+◌, ◌≤◌, Option, if◌then◌else◌, vec_len, vec_capacity}
use Rattle.std.specs.declared.alloc.Global.{Global}
use Rattle.std.specs.declared.vec.Vec.{Vec}
use Rattle.gs_model.specs.Graphs.{Graph}
use Rattle.gs_term.specs.declared.names.Target.{Target}
use Rattle.gs_event.specs.declared.updates.Op.{Op}
use Rattle.gs_event.specs.declared.events.UploadKind.{UploadKind}
use Rattle.gs_event.specs.declared.events.Action.{Action}
use Rattle.gs_event.specs.declared.events.Action.TheVariants.{Commit, CommitPatch}
use Rattle.gs_event.specs.declared.answers.Answer.{Answer}
use Rattle.gs_event.specs.Views.{FitsSeat, next_totals, next_phase}
use Rattle.gs_event.specs.Steps.{pin_after}
use Rattle.gs_plain.specs.declared.books.Books.{Books}
use Rattle.gs_plain.specs.declared.books.Seat.{Seat}
use Rattle.gs_plain.specs.declared.books.Seat.TheVariants.{Writing, Patching}
use Rattle.gs_plain.specs.Books.{seat_shown, totals_of, will_commit, staged_by, seat_pin, IsKnown, KeepsRows, IsCounted}

-- books and one of their seats, before an action
pub record IsReady (b : Books) (s : Seat) : Type 0 where
  pub known : IsKnown b.commit b.rows.items s
  pub counted : IsCounted b
  pub staged : staged_by s ≤ b.staged

-- what an action that was answered so made of the books and of its seat
pub record Acts (old new : Books) (was now : Seat) (action : Action) (answer : Answer) : Type 0 where
  pub fits : FitsSeat (totals_of old) (seat_shown old.rows.items was) action answer
  pub totals : totals_of new ≡ next_totals (totals_of old) (seat_shown old.rows.items was) action answer
  pub seat : seat_shown new.rows.items now ≡ next_phase (totals_of old) (seat_shown old.rows.items was) action answer
  pub pin : seat_pin now ≡ pin_after old.commit (seat_pin was) action answer
  pub known : IsKnown new.commit new.rows.items now
  pub rows : KeepsRows old.commit old.rows.items new.rows.items
  pub counted : IsCounted new
  pub staged : new.staged + staged_by was ≡ old.staged + staged_by now

-- what the commit of an upload of g, opened as request r with this condition, made of the books and of its seat
abbrev pub CommitsUpload : Books → Books → UploadKind → ℕ → Graph → Option ℕ → Seat → Answer → Type 0
CommitsUpload old new k r g since now answer = Acts old new (Writing k r g since) now Commit answer

-- what the commit of a patch of t, opened as request r with this condition, made of the books and of its seat
abbrev pub CommitsPatch : Books → Books → Target → ℕ → Option ℕ → Seat → Vec Op Global → Answer → Type 0
CommitsPatch old new t r since now ops answer = Acts old new (Patching t r since) now (CommitPatch ops) answer

-- there is room for the row of each upload and patch, `others` of them at other seats
abbrev pub HasRowRoom : Books → ℕ → Seat → Type 0
HasRowRoom b others s = vec_len b.rows + (others + (if will_commit s then 1 else 0)) ≤ vec_capacity b.rows

-- at a store of so many seats there is still room
pub record KeepsRoom (seats : ℕ) (old new : Books) (was now : Seat) : Type 0 where
  pub kept : (others : ℕ) → others < seats → HasRowRoom old others was → HasRowRoom new others now

-- there is still room, however many seats there are
pub record HoldsRoom (old new : Books) (was now : Seat) : Type 0 where
  pub held : (seats : ℕ) → KeepsRoom seats old new was now
