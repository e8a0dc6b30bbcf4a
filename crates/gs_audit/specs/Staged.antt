-- As how many triples counts what is staged at each seat.
use Rattle.std.specs.Prelude.{ℕ, ◌+◌, List}
use Rattle.std.specs.List.{slice_index, slice_set}
use Rattle.gs_event.specs.declared.events.Action.{Action}
use Rattle.gs_event.specs.declared.events.Action.TheVariants.{Open, Stage, Commit, Cancel}
use Rattle.gs_event.specs.declared.events.Event.{Event}
use Rattle.gs_event.specs.declared.events.Event.TheVariants.{Seat as At, Reclaim}
use Rattle.gs_event.specs.declared.answers.Answer.{Answer}
use Rattle.gs_event.specs.declared.answers.Answer.TheVariants.{Opened, Staged, Status, Cancelled}
use Rattle.gs_chronicle.specs.Sizes.{stopped_count, triples_size}

-- as how many triples counts what was staged at a seat since its upload was opened, with repeats, after an answer where it was n
abbrev pub staged_since_open : ℕ → Action → Answer → ℕ
staged_since_open n (Open k since) (Opened r) = 0
staged_since_open n (Stage ts) Staged = stopped_count (n + triples_size ts.items)
staged_since_open n Commit (Status s name number) = 0
staged_since_open n Cancel Cancelled = 0
staged_since_open n action a = n

-- the same of all seats, by their numbers
abbrev pub staged_after : List ℕ → Event → Answer → List ℕ
staged_after staged (Reclaim n) a = staged
staged_after staged (At s action) a = slice_set staged s (staged_since_open (slice_index staged s) action a)
