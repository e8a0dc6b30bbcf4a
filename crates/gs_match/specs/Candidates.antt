-- The keys that may be the instances of one pattern. No public clause cites this module.
use Rattle.std.specs.Prelude.{◌≡◌, ℕ, List, [], ◌∷◌, ◌++◌, Some}
use Rattle.std.specs.List.{flat_map, Contains}
use Rattle.gs_pool.specs.declared.nodes.Key.{Key}
use Rattle.gs_joins.specs.declared.sought.Sought.{Sought}
use Rattle.gs_joins.specs.declared.weights.Turn.{Turn}
use Rattle.gs_joins.specs.declared.bindings.Bound.{Bound}
use Rattle.gs_joins.specs.declared.lots.Lot.{Lot}
use Rattle.gs_joins.specs.Numbers.{BoundNumbers, numbers_of, bind_key}
use Rattle.gs_joins.specs.Lots.{first_of}
use Rattle.gs_joins.specs.Values.{Values, key_of, Solves}
use Rattle.gs_match.specs.Found.{keys_if}

-- the key, where it is the pattern's instance under what is bound
abbrev pub one_if : BoundNumbers → Sought → Key → List Key
one_if b s k = keys_if (λ c. k ∷ []) (bind_key b s k)

-- those of the keys that are its instances
abbrev pub instances_in : BoundNumbers → Sought → List Key → List Key
instances_in b s ks = flat_map (one_if b s) ks

-- these are appended, and what is bound is as it was
pub record Sifts (old new : List Bound) (s : Sought) (ks from to : List Key) : Type 0 where
  pub bound : new ≡ old
  pub more : to ≡ from ++ instances_in (numbers_of old) s ks

-- no values solve the lists
abbrev pub HasNoSolution : List Lot → Type 0
HasNoSolution ls = (v : Values) → Solves v ls → ⊥

-- no instance is left out that has one of the first numbers of these keys for the variable
pub record ListsBy (ks : List Key) (s : Sought) (t : Turn) (x : List ℕ) (seen found : List Key) : Type 0 where
  pub sound : (k : Key) → Contains found k → Contains ks k
  pub all : (z k : Key) (c : BoundNumbers) → Contains seen z → Contains ks k → bind_key ((x, first_of t z) ∷ []) s k ≡ Some c → Contains found k

-- no key is left out that is the instance of the pattern under values that solve the lists
pub record ListsThem (ks : List Key) (ls : List Lot) (s : Sought) (found : List Key) : Type 0 where
  pub sound : (k : Key) → Contains found k → Contains ks k
  pub all : (v : Values) → Solves v ls → Contains ks (key_of v s) → Contains found (key_of v s)
