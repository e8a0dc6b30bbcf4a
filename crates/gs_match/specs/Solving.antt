-- Lists that are solved as their patterns are, and what is found in them. No public clause cites this module.
use Rattle.std.specs.Prelude.{◌≡◌, List, [], map}
use Rattle.std.specs.List.{All, Contains}
use Rattle.std.specs.List.Sorted.{IsPermutation}
use Rattle.gs_pool.specs.declared.nodes.Key.{Key}
use Rattle.gs_tree.specs.Keys.{merge_keys}
use Rattle.gs_keys.specs.Texts.{Terms, key_cmp}
use Rattle.gs_joins.specs.declared.sought.Sought.{Sought}
use Rattle.gs_joins.specs.declared.lots.Lot.{Lot}
use Rattle.gs_joins.specs.Lots.{IsLot}
use Rattle.gs_joins.specs.Values.{Values, key_of, Solves, sought_of}
use Rattle.gs_match.specs.declared.found.Found.{Found}
use Rattle.gs_match.specs.Found.{found_in, IsFound}

-- all patterns have their instances among these keys
abbrev pub SolvesAll : Values → List Key → List Sought → Type 0
SolvesAll v ks ss = All (λ s. Contains ks (key_of v s)) ss

-- lists for the patterns, in any order, which are solved as the patterns are among all keys
pub record AreLots (ks : List Key) (ss : List Sought) (ls : List Lot) : Type 0 where
  pub lots : All IsLot ls
  pub sought : IsPermutation ss (sought_of ls)
  pub forth : (v : Values) → SolvesAll v ks ss → Solves v ls
  pub back : (v : Values) → Solves v ls → SolvesAll v ks ss

-- the keys that are found are those of all patterns' instances under all values that solve the lists
pub record Collects (terms : Terms) (ls : List Lot) (f : Found) : Type 0 where
  pub set : IsFound terms f
  pub done : List Key
  pub keys_are : found_in f ≡ merge_keys (key_cmp terms) done []
  pub sound : (k : Key) → Contains done k → (v : Values) × Solves v ls × Contains (map (key_of v) (sought_of ls)) k
  pub complete : (v : Values) (k : Key) → Solves v ls → Contains (map (key_of v) (sought_of ls)) k → Contains done k
