-- The numbers of the last writes, as the books have them, and whether a write comes too late. No public clause cites this
-- module.
use Rattle.std.specs.Prelude.{◌≡◌, ℕ, true, false, List, Option, Some, None, is_some, if◌then◌else◌}
use Rattle.std.specs.List.{fold}
use Rattle.std.specs.FinMap as map
use Rattle.gs_term.specs.Names.{name_cmp}
use Rattle.gs_term.specs.declared.names.Target.{Target}
use Rattle.gs_term.specs.declared.names.Target.TheVariants.{Default, Named}
use Rattle.gs_event.specs.declared.events.UploadKind.{UploadKind}
use Rattle.gs_event.specs.declared.events.UploadKind.TheVariants.{Put, Post, New}
use Rattle.gs_event.specs.Conditions.{LastWrites, last_write_on, is_above}
use Rattle.gs_plain.specs.declared.books.Row.{Row}
use Rattle.gs_plain.specs.declared.books.Books.{Books}

-- what a row of this target, which this commit made and that one may have ended, makes of the numbers by name
abbrev pub written_after : map.FinMap name_cmp ℕ → Target → ℕ → Option ℕ → map.FinMap name_cmp ℕ
written_after k Default birth ended = k
written_after k (Named name) birth ended = if is_some ended then map.remove k name else map.insert k name birth

-- by name, the number of the commit that made the newest row, where that row is not ended
abbrev pub names_written : List Row → map.FinMap name_cmp ℕ
names_written rows = fold (λ k row. written_after k row.target row.birth row.ended) map.empty rows

-- the numbers of the last writes
abbrev pub last_writes_of : Books → LastWrites
last_writes_of b = record { unnamed = b.default_write; named = names_written b.rows.items; removed = b.last_removal }

-- the number of the last write on the default graph, once a commit of this number wrote or deleted the target
abbrev pub default_after : ℕ → Target → ℕ → ℕ
default_after last Default commit = commit
default_after last (Named name) commit = last

-- the number of the last Delete of a name, once a commit of this number deleted the target
abbrev pub removal_after : ℕ → Target → ℕ → ℕ
removal_after last Default commit = last
removal_after last (Named name) commit = commit

-- the number of the last write on the target; of a missing name that of the last Delete of any name
abbrev pub last_write_by : Books → Target → ℕ
last_write_by b t = last_write_on (last_writes_of b) t

-- the number of the last write on the target is found where it comes after the commit of this number, if there is one
abbrev pub FindsLate : Books → Target → Option ℕ → Option ℕ → Type 0
FindsLate b t since None = is_above (last_write_by b t) since ≡ false
FindsLate b t since (Some number) = (is_above (last_write_by b t) since ≡ true) × (number ≡ last_write_by b t)

-- the same for the target of an upload; a new graph has no condition
abbrev pub FindsLateUpload : Books → UploadKind → Option ℕ → Option ℕ → Type 0
FindsLateUpload b (Put t) since found = FindsLate b t since found
FindsLateUpload b (Post t) since found = FindsLate b t since found
FindsLateUpload b New since found = found ≡ None
