-- What contracts see of a stamp log: all stamps, and the totals of both ledgers.
use Rattle.std.specs.Prelude.{ℕ, List}
use Rattle.crossbeam_utils.specs.Seq.{cell_view}
use Rattle.gs_pass.specs.declared.stamp_logs.StampLog.{StampLog}
use Rattle.gs_pass.specs.declared.rooms.Room.{Ghosts}
use Rattle.gs_pass.specs.declared.stamps.Stamp.{Stamp}

-- all stamps that passes were given, the oldest first
abbrev pub all_stamps : {C T B : Type 0} {room : Ghosts B} → StampLog C T B room → List Stamp
all_stamps r = (cell_view r.keeper).all

-- how many deciding calls were entered, of all passes
abbrev pub total_calls : {C T B : Type 0} {room : Ghosts B} → StampLog C T B room → ℕ
total_calls r = r.calls.total

-- as how many triples counts what all passes brought
abbrev pub total_triples : {C T B : Type 0} {room : Ghosts B} → StampLog C T B room → ℕ
total_triples r = r.triples.total
