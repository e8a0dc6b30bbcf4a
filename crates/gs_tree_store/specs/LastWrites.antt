-- The commit numbers of last writes, as the books have them, and which of them come too late for a condition. No public clause cites this
-- module.
use Rattle.std.specs.Prelude.{◌≡◌, ℕ, if◌then◌else◌, Option, Some, None}
use Rattle.gs_term.specs.declared.names.Target.{Target}
use Rattle.gs_term.specs.declared.names.Target.TheVariants.{Default, Named}
use Rattle.gs_event.specs.declared.events.UploadKind.{UploadKind}
use Rattle.gs_event.specs.declared.events.UploadKind.TheVariants.{Put, Post, New}
use Rattle.gs_event.specs.Conditions.{LastWrites, last_write_on, is_above}
use Rattle.gs_records.specs.Records.{Recorded}
use Rattle.gs_records.specs.Births.{births_of}
use Rattle.gs_tree_store.specs.declared.books.Books.{Books}

-- of a graph that has a name, the commit that made its record is the last write on it
abbrev pub last_writes_of : Books → LastWrites
last_writes_of b = record { unnamed = b.default_write; named = (births_of b.records.records).named; removed = b.last_delete }

-- where the default graph has a record, the commit of this number made it
abbrev pub WasWritten : Recorded → ℕ → Type 0
WasWritten rs number = (n : ℕ) → (births_of rs.records).unnamed ≡ Some n → n ≡ number

-- one number for the default graph, and another for a name
abbrev pub by_target : Target → ℕ → ℕ → ℕ
by_target Default n m = n
by_target (Named name) n m = m

-- a number that is above the condition
abbrev pub late_number : ℕ → Option ℕ → Option ℕ
late_number n since = if is_above n since then Some n else None

-- the number of the last write on a target, where a write on this condition comes too late for it
abbrev pub late_write_of : Books → Target → Option ℕ → Option ℕ
late_write_of b t since = late_number (last_write_on (last_writes_of b) t) since

-- the same for the target of an upload; a new graph is never too late
abbrev pub late_upload_of : Books → UploadKind → Option ℕ → Option ℕ
late_upload_of b (Put t) since = late_write_of b t since
late_upload_of b (Post t) since = late_write_of b t since
late_upload_of b New since = None
