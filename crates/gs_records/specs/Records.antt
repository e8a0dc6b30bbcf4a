-- What a number of a record stands for.
use Rattle.std.specs.Prelude.{◌≡◌, ◌≢◌, ℕ, Bool, true, false, ◌&&◌, nat_le, nat_lt, is_none, if◌then◌else◌, List, Option, Some, None, slice_index_or}
use Rattle.gs_term.specs.declared.names.Target.{Target}
use Rattle.gs_index.specs.declared.entries.Entry.{Entry}
use Rattle.gs_index.specs.Ages.{is_target}
use Rattle.gs_index.specs.Indexes.{with_death as died}

-- What a number stands for: nothing; an upload or a patch that is not committed yet; one that was given up; or a version of a graph.
pub data Record : Type 0 where
  free : Record
  opened : Record
  unused : Record
  kept : Entry → Record

-- What each number stands for; the numbers of versions of graphs, in the order of their graphs; the number of the last commit;
-- and how many numbers there are at most.
pub record Recorded : Type 0 where
  pub records : List Record
  pub listed : List ℕ
  pub latest : ℕ
  pub limit : ℕ

-- what a number stands for, which is nothing past the end
abbrev pub record_at : List Record → ℕ → Record
record_at rs n = slice_index_or rs n free

-- whether what died so is in version v still
abbrev pub outlives : ℕ → Option ℕ → Bool
outlives v None = true
outlives v (Some death) = nat_lt v death

-- whether version v of the dataset has this version of a graph: birth ≤ v < death
abbrev pub has_at : ℕ → Entry → Bool
has_at v e = nat_le e.birth v && outlives v e.death

-- whether it has not died
abbrev pub is_current : Entry → Bool
is_current e = is_none e.death

-- whether it is of this graph
abbrev pub is_of : Target → Entry → Bool
is_of t e = is_target t e.target

-- with this death, where it is of this graph and has not died
abbrev pub ended_entry : Target → ℕ → Entry → Entry
ended_entry t death e = if is_of t e && is_current e then died e death else e

-- the same of what a number stands for
abbrev pub ended : Target → ℕ → Record → Record
ended t death free = free
ended t death opened = opened
ended t death unused = unused
ended t death (kept e) = kept (ended_entry t death e)

-- whether it is a version of a graph
abbrev pub is_kept : Record → Bool
is_kept free = false
is_kept opened = false
is_kept unused = false
is_kept (kept e) = true

-- one number stands for this now, and each other one for what it stood for
pub record Turns (old new : List Record) (n : ℕ) (r : Record) : Type 0 where
  pub changed : record_at new n ≡ r
  pub others : (m : ℕ) → m ≢ n → record_at new m ≡ record_at old m

-- each number stands for what it stood for, but that the version of one graph has ended
abbrev pub Ends : List Record → List Record → Target → ℕ → Type 0
Ends old new t death = (m : ℕ) → record_at new m ≡ ended t death (record_at old m)
