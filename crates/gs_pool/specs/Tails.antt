-- What only nodes on a list have, each under a number of its own. No public clause cites this module.
use Rattle.std.specs.Prelude.{◌≡◌, ◌≢◌, ℕ, Bool, List, slice_index_or, Option, Some, None, is_some, is_none, count_by, if◌then◌else◌}
use Rattle.gs_pool.specs.declared.tails.Tail.{Tail}
use Rattle.gs_pool.specs.declared.tails.Entry.{Entry}

-- the tail of each number, where the number is used, and for how many there is room
pub record TailList : Type 0 where
  pub items : List (Option Tail)
  pub capacity : ℕ

-- the tail of a number
abbrev pub tail_at : TailList → ℕ → Option Tail
tail_at ts k = slice_index_or ts.items k None

-- how many numbers are used
abbrev pub used_tails : TailList → ℕ
used_tails ts = count_by is_some ts.items

-- one number has this tail, or none, and every other keeps its own
pub record SetsTail (old new : TailList) (k : ℕ) (t : Option Tail) : Type 0 where
  pub now : tail_at new k ≡ t
  pub others : (x : ℕ) → x ≢ k → tail_at new x ≡ tail_at old x
  pub capacity : new.capacity ≡ old.capacity

-- a number, where there is one
abbrev pub number_where : Bool → ℕ → Option ℕ
number_where has id = if has then Some id else None

-- the tail of an entry, where it is used
abbrev pub tail_in : Entry → Option Tail
tail_in e = if e.is_free then None else Some (record { birth = e.birth; death = e.death; next = number_where e.has_next e.next })

-- the next free entry, after a free one
abbrev pub free_after : Entry → Option ℕ
free_after e = number_where e.has_next e.birth

-- the entry is free
abbrev pub is_free_entry : Entry → Bool
is_free_entry e = is_none (tail_in e)
