-- Laws of the records: the graphs of now, what one commit ends, and walks over the listed numbers.
use Rattle.std.specs.Prelude.{◌≡◌, ℕ, ◌<◌, ◌≤◌, List, ◌++◌, length, take, Option, Some, None}
use Rattle.std.specs.List.{All, filter}
use Rattle.gs_term.specs.declared.names.Target.{Target}
use Rattle.gs_event.specs.Waste.{Lifetime}
use Rattle.gs_event.specs.Wasting.{EndsAt}
use Rattle.gs_index.specs.Indexes.{numbers_after}
use Rattle.gs_records.specs.Records.{Record}
use Rattle.gs_records.specs.Graphs.{graphs_at, current}
use Rattle.gs_records.specs.Kept.{AreSingle, AreDated}
use Rattle.gs_records.specs.Calls.{endings}
use Rattle.gs_records.specs.Order.{has_number, AreListed, search_goes_on}

-- the graphs of the last commit's version of the dataset, and of later ones, are those of now
abbrev pub LastAreCurrent : Type 0
LastAreCurrent = (v latest : ℕ) (rs : List Record) → AreDated latest rs → latest ≤ v → graphs_at v rs ≡ current rs

-- one lifetime at most, which began before this commit and ends with it
pub record IsOneAt (commit : ℕ) (more : List Lifetime) : Type 0 where
  pub few : length more ≤ 1
  pub ended : All (EndsAt commit) more

-- so it is with what a commit ends of one graph
abbrev pub CommitsEndOne : Type 0
CommitsEndOne =
    (latest commit : ℕ) (t : Target) (rs : List Record) → AreSingle rs → AreDated latest rs → latest < commit
    → IsOneAt commit (endings t commit rs)

-- the next numbers of a walk, so many at most
abbrev pub piece_after : ℕ → Option ℕ → List ℕ → List ℕ
piece_after most from listed = take most (numbers_after from listed)

-- A walk to the end, so many numbers a piece: what version v has of each piece, which begins after the last number of the one before.
pub data IsWalk (most v : ℕ) (rs : List Record) (listed : List ℕ) : Option ℕ → List ℕ → Type 0 where
  ends : (from : Option ℕ) → search_goes_on most (piece_after most from listed) ≡ None
      → IsWalk most v rs listed from (filter (has_number v rs) (piece_after most from listed))
  goes : (from : Option ℕ) (n : ℕ) (rest : List ℕ) → search_goes_on most (piece_after most from listed) ≡ Some n
      → IsWalk most v rs listed (Some n) rest
      → IsWalk most v rs listed from (filter (has_number v rs) (piece_after most from listed) ++ rest)

-- it gives all that the version has of what is listed after its beginning
abbrev pub WalksHaveAll : Type 0
WalksHaveAll =
    (most v : ℕ) (rs : List Record) (listed : List ℕ) (from : Option ℕ) (ns : List ℕ) → 0 < most → AreListed rs listed
    → IsWalk most v rs listed from ns → ns ≡ filter (has_number v rs) (numbers_after from listed)
