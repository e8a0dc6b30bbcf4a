-- Writes on condition (`Store-Commit` and `If-Store-Commit`, this project's own fields): what the abstract store keeps beside
-- its dataset, and what becomes of an operation that may come too late.
use Rattle.std.specs.Prelude.{ℕ, ◌+◌, Bool, false, not, ◌&&◌, nat_lt, List, [], ◌∷◌, if◌then◌else◌, Option, Some, None}
use Rattle.std.specs.Option.{unwrap_or}
use Rattle.std.specs.FinMap as map
use Rattle.gs_term.specs.Names.{name_cmp}
use Rattle.gs_term.specs.declared.names.Target.{Target}
use Rattle.gs_term.specs.declared.names.Target.TheVariants.{Default, Named}
use Rattle.gs_event.specs.Datasets.{Dataset, empty_dataset, is_there}
use Rattle.gs_event.specs.Names.{new_name}
use Rattle.gs_event.specs.Operations.{Setting, Operation, Puts, Posts, Creates, Patches, Deletes, Looks, Reads, after, status_of, location_of, is_success, wants_memory}

-- The commit numbers of the last writes that took effect: on the default graph, on each graph that has a name, and of the last
-- Delete of a name. A write counts though it left the graph as it was.
pub record LastWrites : Type 0 where
  pub unnamed : ℕ
  pub named : map.FinMap name_cmp ℕ
  pub removed : ℕ

-- a dataset, the number of the last commit, and those of the last writes
pub record State : Type 0 where
  pub dataset : Dataset
  pub commit : ℕ
  pub last_writes : LastWrites

-- where a store begins: no triple and no name, after so many commits
abbrev pub state_from : ℕ → State
state_from c = record { dataset = empty_dataset; commit = c; last_writes = record { unnamed = c; named = map.empty; removed = c } }

-- the commit number of the last write on a target; of a name that is missing that of the last Delete of any name
abbrev pub last_write_on : LastWrites → Target → ℕ
last_write_on k Default = k.unnamed
last_write_on k (Named name) = unwrap_or (map.get k.named name) k.removed

-- an operation, and the commit number since which its target must not have been written, if there is one
pub record Asked : Type 0 where
  pub since : Option ℕ
  pub operation : Operation

-- an operation with such a number
abbrev pub asked_since : Option ℕ → Operation → Asked
asked_since since q = record { since = since; operation = q }

-- whether the last write came after the commit of this number, if there is one
abbrev pub is_above : ℕ → Option ℕ → Bool
is_above write None = false
is_above write (Some c) = nat_lt c write

-- Whether a write comes too late: its target was written since. A new graph has no condition, nor has a question. A PATCH or a
-- Delete of what is missing is not too late, but 404.
abbrev pub is_late : State → Option ℕ → Operation → Bool
is_late m since (Puts t g) = is_above (last_write_on m.last_writes t) since
is_late m since (Posts t g) = is_above (last_write_on m.last_writes t) since
is_late m since (Creates r g) = false
is_late m since (Patches t ops) = is_there m.dataset t && is_above (last_write_on m.last_writes t) since
is_late m since (Deletes t) = is_there m.dataset t && is_above (last_write_on m.last_writes t) since
is_late m since (Looks c) = false
is_late m since (Reads c) = false

-- the last writes once a graph was written by the commit of number n
abbrev pub with_write : LastWrites → ℕ → Target → LastWrites
with_write k n Default = record { unnamed = n; named = k.named; removed = k.removed }
with_write k n (Named name) = record { unnamed = k.unnamed; named = map.insert k.named name n; removed = k.removed }

-- and once it was deleted: the default graph is there still, a name is no more
abbrev pub with_delete : LastWrites → ℕ → Target → LastWrites
with_delete k n Default = record { unnamed = n; named = k.named; removed = k.removed }
with_delete k n (Named name) = record { unnamed = k.unnamed; named = map.remove k.named name; removed = n }

-- the last writes after an operation that took effect by the commit of number n
abbrev pub last_writes_after : Setting → Dataset → LastWrites → ℕ → Operation → LastWrites
last_writes_after w m k n (Puts t g) = with_write k n t
last_writes_after w m k n (Posts t g) = with_write k n t
last_writes_after w m k n (Creates r g) = with_write k n (Named (new_name w.base m r))
last_writes_after w m k n (Patches t ops) = with_write k n t
last_writes_after w m k n (Deletes t) = with_delete k n t
last_writes_after w m k n (Looks c) = k
last_writes_after w m k n (Reads c) = k

-- the status: 412 where it comes too late, and else that of the operation
abbrev pub status_if : Setting → State → Asked → ℕ
status_if w m q = if is_late m q.since q.operation then 412 else status_of w m.dataset q.operation

-- the name of the graph that the store made up a name for, if it did
abbrev pub location_if : Setting → State → Asked → Option (List ℕ)
location_if w m q = location_of w m.dataset q.operation

-- the operation may want memory; one that comes too late takes none
abbrev pub wants_memory_if : State → Asked → Bool
wants_memory_if m q = not (is_late m q.since q.operation) && wants_memory m.dataset q.operation

-- the commit number of the last write on the target of a write
abbrev pub last_write_of : State → Operation → ℕ
last_write_of m (Puts t g) = last_write_on m.last_writes t
last_write_of m (Posts t g) = last_write_on m.last_writes t
last_write_of m (Creates r g) = m.commit
last_write_of m (Patches t ops) = last_write_on m.last_writes t
last_write_of m (Deletes t) = last_write_on m.last_writes t
last_write_of m (Looks c) = m.commit
last_write_of m (Reads c) = m.commit

-- The commit number that is reported with the status: of a write that took effect its own, with 412 that of the last write on
-- its target, and else that of the last commit.
abbrev pub number_if : Setting → State → Asked → ℕ
number_if w m q =
    if is_late m q.since q.operation then last_write_of m q.operation
    else (if is_success (status_of w m.dataset q.operation) then m.commit + 1 else m.commit)

-- the state after an operation that does not come too late
abbrev pub done_by : Setting → State → Operation → State
done_by w m q =
    let well = is_success (status_of w m.dataset q) in
    record {
      dataset = after w m.dataset q;
      commit = m.commit + (if well then 1 else 0);
      last_writes = if well then last_writes_after w m.dataset m.last_writes (m.commit + 1) q else m.last_writes;
    }

-- the state after an operation on its condition: as it was, where it comes too late
abbrev pub after_if : Setting → State → Asked → State
after_if w m q = if is_late m q.since q.operation then m else done_by w m q.operation

-- the state after all of these, the newest first, from so many commits on
abbrev pub after_all_if : Setting → ℕ → List Asked → State
after_all_if w c [] = state_from c
after_all_if w c (q ∷ qs) = after_if w (after_all_if w c qs) q
