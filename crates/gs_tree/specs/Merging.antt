-- How a run of keys becomes a tree, and goes into one.
use Rattle.std.specs.Prelude.{◌≡◌, ◌⊎◌, ℕ, ◌+◌, ◌*◌, ◌^◌, ◌<◌, ◌≤◌, min, List, ◌∷◌, ◌++◌, length, Option}
use Rattle.std.specs.declared.cmp.Ordering.{Ordering}
use Rattle.std.specs.declared.cmp.Ordering.TheVariants.{Less, Equal}
use Rattle.gs_pool.specs.declared.nodes.Key.{Key}
use Rattle.gs_pool.specs.Pool.{Nodes, mark_at, in_use, aside_count, room}
use Rattle.gs_tree.specs.declared.unions.Merged.{Merged}
use Rattle.gs_tree.specs.Keys.{AllKeys, IsRising, merge_keys}
use Rattle.gs_tree.specs.Tree.{Tree, root_of, height, height_at, keys, occurrences, Stands, IsBalanced, BirthAtMost, Descends, tree_at, older_count}
use Rattle.gs_tree.specs.Steps.{SameTotal, Step}
use Rattle.gs_tree.specs.Joining.{copies}
use Rattle.gs_tree.specs.Sets.{IsSet, union_cost}

-- A tree of the run, of new nodes alone. Its height is the number of binary digits of the run's length.
pub record Built (birth : ℕ) (p q : Nodes) (result : Option ℕ) (run : List Key) (new : Tree) : Type 0 where
  pub root : result ≡ root_of new
  pub stands : Stands q new
  pub balanced : IsBalanced new
  pub keys_are : keys new ≡ run
  pub descends : Descends new
  pub born : BirthAtMost birth new
  pub step : (since : ℕ) → since ≤ birth → Step since birth p q (λ x. 0) (occurrences new)
  pub total : SameTotal p q
  pub exact : in_use q ≡ in_use p + length run
  pub none_older : (since : ℕ) → since ≤ birth → older_count since new ≡ 0
  pub marks : (x : ℕ) → mark_at q x ≡ mark_at p x
  pub replaced : aside_count q ≡ aside_count p
  pub low : length run < 2 ^ height new
  pub high : 2 ^ height new ≤ 2 * length run + 1

-- a root means a balanced tree in order, the run is in order, and there is room for their union
pub record CanMerge (cmp : Key → Key → Ordering) (since : ℕ) (p : Nodes) (root : Option ℕ) (t : Tree) (run : List Key) : Type 0 where
  pub set : IsSet cmp p root t
  pub run_rising : IsRising cmp run
  pub small : length (keys t) + length run < 2 ^ 65
  pub has_room : length run + min (length run * copies since (4 * height t) + copies since 2) (older_count since t) ≤ room p

-- the new tree has the keys of the run too, of which it lacked `added`
pub record Merges (cmp : Key → Key → Ordering) (since birth : ℕ) (p q : Nodes) (result : Option ℕ) (added : ℕ) (t : Tree) (run : List Key) (new : Tree) : Type 0 where
  pub root : result ≡ root_of new
  pub stands : Stands q new
  pub balanced : IsBalanced new
  pub keys_are : keys new ≡ merge_keys cmp run (keys t)
  pub births : Descends t → BirthAtMost birth t → Descends new × BirthAtMost birth new
  pub not_lower : height t ≤ height new
  pub growth : height new ≤ height t + added
  pub step : Step since birth p q (occurrences t) (occurrences new)
  pub total : SameTotal p q
  pub few : in_use q ≤ in_use p + union_cost since (height t) added
  pub copied : in_use q + older_count since new ≡ in_use p + older_count since t + added
  pub exact : in_use q + aside_count p ≡ in_use p + aside_count q + added
  pub counted : length (keys new) ≡ length (keys t) + added
  pub at_most : added ≤ length run
  pub still : added ≡ 0 → (q ≡ p) × (new ≡ t)

-- a new root means a tree of the run
abbrev pub BuiltAt : ℕ → Nodes → Nodes → List Key → Option ℕ → Type 0
BuiltAt birth p q run new = Built birth p q new run (tree_at q new)

-- a run can go into the set that a root means
abbrev pub CanMergeAt : (Key → Key → Ordering) → ℕ → Nodes → Option ℕ → List Key → Type 0
CanMergeAt cmp since p root run = CanMerge cmp since p root (tree_at p root) run

-- it went into the set
abbrev pub MergesAt : (Key → Key → Ordering) → ℕ → ℕ → Nodes → Nodes → Option ℕ → List Key → Merged → Type 0
MergesAt cmp since birth p q root run m = Merges cmp since birth p q m.root m.added (tree_at p root) run (tree_at q m.root)

-- a run is cut at a key: what is below it, what is above it, and at most one key between
pub record CutAtKey (cmp : Key → Key → Ordering) (key : Key) (run low high : List Key) : Type 0 where
  pub below : AllKeys (λ x. cmp x key ≡ Less) low
  pub above : AllKeys (λ x. cmp key x ≡ Less) high
  pub parts : (run ≡ low ++ high) ⊎ ((x : Key) × (run ≡ low ++ x ∷ high) × (cmp x key ≡ Equal))

-- a side that gained keys is as high as it was
abbrev pub IsAsHigh : Nodes → Merged → ℕ → Type 0
IsAsHigh p side before = 0 < side.added → height_at p side.root ≡ before
