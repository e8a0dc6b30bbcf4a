-- What contracts see of a Shared: its seats, the passes that it handed out, and the lock.
use Rattle.std.specs.Prelude.{ℕ}
use Rattle.std.specs.declared.sync.ledger.Ledger as Ledger
use Rattle.gs_pass.specs.declared.counted_ledgers.CountedLedger as Counted
use Rattle.gs_pass.specs.declared.rooms.Room as Room
use Rattle.gs_shared.specs.declared.shared.Shared.{Shared}
use Rattle.gs_shared.specs.declared.shared_stores.SharedStore.{SharedStore}

module _ {C T B : Type 0} {counted_calls : Counted.Ghosts C} {calls : Ledger.Ghosts C} {counted_triples : Counted.Ghosts T} {triples : Ledger.Ghosts T} {room : Room.Ghosts B} where
  -- for how many seats it is
  abbrev pub seat_count : Shared C T B counted_calls calls counted_triples triples room → ℕ
  seat_count s = s.seats

  -- how many passes were handed out
  abbrev pub passes_handed_out : Shared C T B counted_calls calls counted_triples triples room → ℕ
  passes_handed_out s = s.handed

  -- the lock, which threads share
  abbrev pub shared_store : Shared C T B counted_calls calls counted_triples triples room → SharedStore C T B room
  shared_store s = s.store
