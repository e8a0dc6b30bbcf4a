-- The records that the seats of a store have open, one for each upload and each patch. No public clause cites this module.
use Rattle.std.specs.Prelude.{◌≡◌, ◌≢◌, ◌≤◌, ℕ, ◌+◌, List, Option, Some, None, slice_index_or}
use Rattle.std.specs.List.{sum_by}
use Rattle.gs_event.specs.declared.events.Action.{Action}
use Rattle.gs_event.specs.declared.events.Action.TheVariants.{Open, OpenPatch}
use Rattle.gs_event.specs.declared.answers.Answer.{Answer}
use Rattle.gs_event.specs.declared.answers.Answer.TheVariants.{Opened}
use Rattle.gs_event.specs.Wasting.{WastesRecords}
use Rattle.gs_records.specs.Records.{opened, record_at}
use Rattle.gs_records.specs.Waste.{waste_in, open_count, used_count}
use Rattle.gs_quads.specs.Laws.{HasSame}
use Rattle.gs_tree_store.specs.declared.books.Books.{Books}
use Rattle.gs_tree_store.specs.declared.books.Seat.{Seat}
use Rattle.gs_tree_store.specs.declared.books.Seat.TheVariants.{Idle, Writing, Patching}
use Rattle.gs_tree_store.specs.Books.{totals_of, seat_view_by}

-- the number of the record that a seat has open
abbrev pub own_record : Seat → Option ℕ
own_record (Writing k r v n since) = Some n
own_record (Patching t r n since) = Some n
own_record s = None

-- 1 for a seat that has a record open
abbrev pub own_count : Seat → ℕ
own_count (Writing k r v n since) = 1
own_count (Patching t r n since) = 1
own_count s = 0

-- whether the record of this number is open
abbrev pub IsOpened : Books → ℕ → Type 0
IsOpened b n = record_at b.records.records n ≡ opened

-- the record of a seat is open, where it has one
abbrev pub HasRecord : Books → Seat → Type 0
HasRecord b s = (n : ℕ) → own_record s ≡ Some n → IsOpened b n

-- the same records are open
pub record SameOpened (old new : Books) : Type 0 where
  pub stays : (n : ℕ) → IsOpened old n → IsOpened new n
  pub no_more : (n : ℕ) → IsOpened new n → IsOpened old n

-- the record of number n is open no more, and beside it the same are open
pub record LetsGo (old new : Books) (n : ℕ) : Type 0 where
  pub stays : (m : ℕ) → m ≢ n → IsOpened old m → IsOpened new m
  pub no_more : (m : ℕ) → IsOpened new m → (m ≢ n) × IsOpened old m

-- a record that is open, and not this seat's
pub record IsOther (b : Books) (s : Seat) (n : ℕ) : Type 0 where
  pub open_now : IsOpened b n
  pub other : own_record s ≢ Some n

-- how many records are in use after an action that was answered so: one more after an Open
abbrev pub TakesRecords : Action → Answer → ℕ → ℕ → Type 0
TakesRecords (Open k since) (Opened r) old new = new ≡ old + 1
TakesRecords (OpenPatch t since) (Opened r) old new = new ≡ old + 1
TakesRecords action a old new = new ≡ old

-- The seat's record is open, if it was, and beside it is open what was open beside that of the seat before. As many are open as the seat
-- says, as many are in use as its action says, and so of their waste. Each version up to the last has the graphs that it had.
pub record KeepsRecords (old new : Books) (was now : Seat) (action : Action) (answer : Answer) : Type 0 where
  pub own : HasRecord old was → HasRecord new now
  pub others : (n : ℕ) → IsOther old was n → IsOther new now n
  pub no_more : (n : ℕ) → IsOther new now n → IsOther old was n
  pub opens : open_count new.records.records + own_count was ≡ open_count old.records.records + own_count now
  pub same : (v : ℕ) → v ≤ old.versions.commit → HasSame v old.records new.records
  pub takes : TakesRecords action answer (used_count old.records.records) (used_count new.records.records)
  pub waste : WastesRecords (totals_of old) (seat_view_by old was) action answer (waste_in old.records.records) (waste_in new.records.records)

-- that of a seat by its place
abbrev pub own_record_at : List Seat → ℕ → Option ℕ
own_record_at seats k = own_record (slice_index_or seats k Idle)

-- the record of each seat is open, no two seats have the same, and no other record is open: as many are as seats have one
pub record HaveRecords (b : Books) (seats : List Seat) : Type 0 where
  pub open_now : (k n : ℕ) → own_record_at seats k ≡ Some n → IsOpened b n
  pub apart : (j k n : ℕ) → own_record_at seats j ≡ Some n → own_record_at seats k ≡ Some n → j ≡ k
  pub all : (n : ℕ) → IsOpened b n → (k : ℕ) × (own_record_at seats k ≡ Some n)
  pub many : open_count b.records.records ≡ sum_by own_count seats
