-- Lists that lose keys, and are solved as before.
use Rattle.std.specs.Prelude.{◌≡◌, ℕ, List, slice_get, MatchOption}
use Rattle.std.specs.List.{All, Contains}
use Rattle.gs_pool.specs.declared.nodes.Key.{Key}
use Rattle.gs_joins.specs.declared.sought.Sought.{Sought}
use Rattle.gs_joins.specs.declared.lots.Lot.{Lot}
use Rattle.gs_joins.specs.Lots.{IsSmall, IsLot}
use Rattle.gs_joins.specs.Values.{Values, key_of, Solves, sought_of}

-- fewer keys, and the same solutions
pub record Reduces (old new : List Lot) : Type 0 where
  pub lots : All IsLot new
  pub sought : sought_of new ≡ sought_of old
  pub forth : (v : Values) → Solves v old → Solves v new
  pub back : (v : Values) → Solves v new → Solves v old

-- no solution has this key for the pattern
abbrev pub HasNone : List Lot → Sought → Key → Type 0
HasNone ls s k = (v : Values) → Solves v ls → key_of v s ≡ k → ⊥

-- the same for the pattern of the list of this number
abbrev pub HasNoneAt : List Lot → ℕ → Key → Type 0
HasNoneAt ls i k = MatchOption (slice_get ls i) (Unit {0}) (λ (l : Lot). HasNone ls l.sought k)

-- keys of these, all those among them that are instances under a solution
pub record Keeps (ls : List Lot) (s : Sought) (seen kept : List Key) : Type 0 where
  pub among : (k : Key) → Contains kept k → Contains seen k
  pub all : (v : Values) → Solves v ls → Contains seen (key_of v s) → Contains kept (key_of v s)

-- the same, of the list of this number
abbrev pub KeepsOf : List Lot → ℕ → List Key → Type 0
KeepsOf ls i kept = All IsSmall kept × MatchOption (slice_get ls i) (Unit {0}) (λ (l : Lot). Keeps ls l.sought l.keys.items kept)
