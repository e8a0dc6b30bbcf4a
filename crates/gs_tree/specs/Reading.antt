-- What is read from a set: whether it has a key, how many it has, and the keys from a place on.
use Rattle.std.specs.Prelude.{◌≡◌, ℕ, ◌-◌, ◌≤◌, ◌++◌, min, Bool, true, false, List, [], ◌∷◌, length, take, Option, Some, None}
use Rattle.std.specs.List.{filter}
use Rattle.std.specs.declared.cmp.Ordering.{Ordering}
use Rattle.std.specs.declared.cmp.Ordering.TheVariants.{Less, Equal, Greater}
use Rattle.gs_pool.specs.declared.nodes.Key.{Key}
use Rattle.gs_pool.specs.Pool.{Nodes}
use Rattle.gs_tree.specs.Keys.{IsRising}
use Rattle.gs_tree.specs.Tree.{Tree, root_of, keys, occurrences, Stands, tree_at, height_at}
use Rattle.gs_tree.specs.declared.reading.Side.{Side}
use Rattle.gs_tree.specs.declared.reading.Side.TheVariants as side

-- a root means a tree that has each of its nodes once
pub record IsTree (p : Nodes) (root : Option ℕ) (t : Tree) : Type 0 where
  pub root_is : root ≡ root_of t
  pub stands : Stands p t
  pub once : (x : ℕ) → occurrences t x ≤ 1

-- a root means keys in order, whatever its nodes are marked as
pub record IsReadable (cmp : Key → Key → Ordering) (p : Nodes) (root : Option ℕ) (t : Tree) : Type 0 where
  pub root_is : root ≡ root_of t
  pub stands : Stands p t
  pub rising : IsRising cmp (keys t)

-- the pool has the whole tree of a root
pub record HasTreeAt (p : Nodes) (root : Option ℕ) : Type 0 where
  pub root_is : root ≡ root_of (tree_at p root)
  pub stands : Stands p (tree_at p root)

-- what `IsTree` says, of the tree that the pool has for the root
abbrev pub IsTreeAt : Nodes → Option ℕ → Type 0
IsTreeAt p root = IsTree p root (tree_at p root)

-- what `IsReadable` says, of that tree
abbrev pub IsReadableAt : (Key → Key → Ordering) → Nodes → Option ℕ → Type 0
IsReadableAt cmp p root = IsReadable cmp p root (tree_at p root)

-- the keys that a root means
abbrev pub keys_at : Nodes → Option ℕ → List Key
keys_at p root = keys (tree_at p root)

-- an order's answer says that the first is the lesser
abbrev pub is_less : Ordering → Bool
is_less Less = true
is_less Equal = false
is_less Greater = false

-- whether a key is above the one given, where one is
abbrev pub is_past : (Key → Key → Ordering) → Option Key → Key → Bool
is_past cmp None y = true
is_past cmp (Some x) y = is_less (cmp x y)

-- the keys above the one given, and all where none is
abbrev pub keys_from : (Key → Key → Ordering) → Option Key → List Key → List Key
keys_from cmp from ks = filter (is_past cmp from) ks

-- the first of these keys
abbrev pub first_key : List Key → Option Key
first_key [] = None
first_key (x ∷ xs) = Some x

-- the keys xs, and then those of ys for which there is room up to so many in all
abbrev pub filled_up : ℕ → List Key → List Key → List Key
filled_up end xs ys = xs ++ take (end - length xs) ys

-- the keys of a set from a place on were filled up to so many in all
abbrev pub FillsUp : (Key → Key → Ordering) → Nodes → Option ℕ → Option Key → ℕ → List Key → List Key → Type 0
FillsUp cmp p root from end xs ys = ys ≡ filled_up end xs (keys_from cmp from (keys_at p root))

-- the keys of a set from a place on were appended, so many of them at most
abbrev pub AppendsKeys : (Key → Key → Ordering) → Nodes → Option ℕ → Option Key → ℕ → List Key → List Key → Type 0
AppendsKeys cmp p root from most xs ys = ys ≡ xs ++ take most (keys_from cmp from (keys_at p root))

-- the first n keys are the first `most` keys
abbrev pub IsEnough : List Key → ℕ → ℕ → Type 0
IsEnough ks most n = take n ks ≡ take most ks

-- how many keys will be appended, where `most` are asked for
abbrev pub key_count : (Key → Key → Ordering) → Nodes → Option ℕ → Option Key → ℕ → ℕ
key_count cmp p root from most = min most (length (keys_from cmp from (keys_at p root)))

-- the keys of a side of a node, by what was seen of it
abbrev pub keys_seen : Nodes → Side → List Key
keys_seen p side.Empty = []
keys_seen p (side.One k) = k ∷ []
keys_seen p (side.Tree id) = keys_at p (Some id)

-- the pool has the tree that was seen there
abbrev pub HasSeen : Nodes → Side → Type 0
HasSeen p side.Empty = Unit {0}
HasSeen p (side.One k) = Unit {0}
HasSeen p (side.Tree id) = HasTreeAt p (Some id)

-- how high that tree is
abbrev pub height_seen : Nodes → Side → ℕ
height_seen p side.Empty = 0
height_seen p (side.One k) = 0
height_seen p (side.Tree id) = height_at p (Some id)
