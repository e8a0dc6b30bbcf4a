-- Lists that leave few numbers for a variable. No public clause cites this module.
use Rattle.std.specs.Prelude.{◌≡◌, ◌<◌, ℕ, List, length, slice_get, MatchOption}
use Rattle.gs_joins.specs.declared.sought.Item.{Item}
use Rattle.gs_joins.specs.declared.sought.Sought.{Sought}
use Rattle.gs_joins.specs.declared.weights.Turn.{Turn}
use Rattle.gs_joins.specs.declared.lots.Lot.{Lot}
use Rattle.gs_joins.specs.Lots.{first_of}
use Rattle.gs_joins.specs.Values.{Values, value_of, key_of}
use Rattle.gs_match.specs.declared.seeds.Seed.{Seed}

-- the item is the variable
abbrev pub IsNamed : Item → List ℕ → Type 0
IsNamed i x = (v : Values) → value_of v i ≡ v x

-- the variable is what comes first in the pattern's instances
abbrev pub IsTurnOf : Sought → List ℕ → Turn → Type 0
IsTurnOf s x t = (v : Values) → first_of t (key_of v s) ≡ v x

-- there is such a list, with the variable in its pattern
abbrev pub IsSeed : List Lot → List ℕ → Seed → Type 0
IsSeed ls x seed = (seed.at < length ls) × MatchOption (slice_get ls seed.at) (Unit {0}) (λ (l : Lot). IsTurnOf l.sought x seed.turn)
