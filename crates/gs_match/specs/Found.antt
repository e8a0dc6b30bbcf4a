-- The keys that are found for patterns by number. No public clause cites this module.
use Rattle.std.specs.Prelude.{◌≡◌, List, [], ◌∷◌, ◌++◌, Option, Some, None}
use Rattle.std.specs.List.{flat_map}
use Rattle.gs_pool.specs.declared.nodes.Key.{Key}
use Rattle.gs_tree.specs.Keys.{merge_keys}
use Rattle.gs_tree.specs.Reading.{keys_at}
use Rattle.gs_tree.specs.Sets.{IsSetAt}
use Rattle.gs_keys.specs.Texts.{Terms, key_cmp}
use Rattle.gs_joins.specs.declared.sought.Sought.{Sought}
use Rattle.gs_joins.specs.Numbers.{BoundNumbers, bind_key}
use Rattle.gs_match.specs.declared.found.Found.{Found}

-- what is found under these bindings, where there are any
abbrev pub keys_if : (BoundNumbers → List Key) → Option BoundNumbers → List Key
keys_if again None = []
keys_if again (Some b) = again b

-- the keys that are found for the patterns that are left, from these bindings and the keys chosen for the patterns before
abbrev pub found_keys : List Key → List Sought → BoundNumbers → List Key → List Key
found_keys ks [] b chosen = chosen
found_keys ks (s ∷ ss) b chosen = flat_map (λ k. keys_if (λ c. found_keys ks ss c (chosen ++ k ∷ [])) (bind_key b s k)) ks

-- what is found where this key is chosen for the first pattern
abbrev pub found_at : List Key → Sought → List Sought → BoundNumbers → List Key → Key → List Key
found_at ks s ss b chosen k = keys_if (λ c. found_keys ks ss c (chosen ++ k ∷ [])) (bind_key b s k)

-- the keys that were found, in the order of their texts
abbrev pub found_in : Found → List Key
found_in f = keys_at f.pool f.root

-- they are a set in the order of their texts
abbrev pub IsFound : Terms → Found → Type 0
IsFound terms f = IsSetAt (key_cmp terms) f.pool f.root

-- some keys more are found
pub record GainsKeys (terms : Terms) (old new : Found) (more : List Key) : Type 0 where
  pub set : IsFound terms new
  pub keys_are : found_in new ≡ merge_keys (key_cmp terms) more (found_in old)
