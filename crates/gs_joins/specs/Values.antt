-- Values of variables under which each list has its pattern's instance.
use Rattle.std.specs.Prelude.{◌≡◌, ℕ, List, map, slice_get, MatchOption}
use Rattle.std.specs.List.{All, Contains}
use Rattle.gs_pool.specs.declared.nodes.Key.{Key}
use Rattle.gs_joins.specs.declared.sought.Item.{Item}
use Rattle.gs_joins.specs.declared.sought.Item.TheVariants.{Number, Variable}
use Rattle.gs_joins.specs.declared.sought.Sought.{Sought}
use Rattle.gs_joins.specs.declared.lots.Lot.{Lot}

-- a number for each variable, by its name
abbrev pub Values : Type 0
Values = List ℕ → ℕ

-- the number that an item stands for
abbrev pub value_of : Values → Item → ℕ
value_of v (Number n) = n
value_of v (Variable x) = v x.now

-- the instance of a pattern
abbrev pub key_of : Values → Sought → Key
key_of v s = record { subject = value_of v s.subject; predicate = value_of v s.predicate; object = value_of v s.object }

-- under these values the list has its pattern's instance
abbrev pub Has : Values → Lot → Type 0
Has v l = Contains l.keys.items (key_of v l.sought)

-- each list has its pattern's instance
abbrev pub Solves : Values → List Lot → Type 0
Solves v ls = All (Has v) ls

-- the list of this number has, where there is one
abbrev pub HasAt : Values → List Lot → ℕ → Type 0
HasAt v ls i = MatchOption (slice_get ls i) (Unit {0}) (Has v)

-- the lists of these numbers have
abbrev pub SolvesAt : Values → List Lot → List ℕ → Type 0
SolvesAt v ls is = All (HasAt v ls) is

-- some values solve the lists of these numbers
abbrev pub HasSolution : List Lot → List ℕ → Type 0
HasSolution ls is = (v : Values) × SolvesAt v ls is

-- these are the keys of a pattern's instances under all values that solve the lists
pub record KeepsAllKeys (ls : List Lot) (s : Sought) (kept : List Key) : Type 0 where
  pub sound : (k : Key) → Contains kept k → (v : Values) × Solves v ls × (key_of v s ≡ k)
  pub complete : (v : Values) → Solves v ls → Contains kept (key_of v s)

-- the same for the list of this number
abbrev pub KeepsAt : List Lot → ℕ → List Key → Type 0
KeepsAt ls i kept = MatchOption (slice_get ls i) (Unit {0}) (λ (l : Lot). KeepsAllKeys ls l.sought kept)

-- the patterns of lists
abbrev pub sought_of : List Lot → List Sought
sought_of ls = map (λ (l : Lot). l.sought) ls
