-- How two trees and a key become one balanced tree.
use Rattle.std.specs.Prelude.{◌≡◌, ℕ, ◌+◌, ◌-◌, ◌*◌, ◌^◌, ◌<◌, ◌≤◌, max, min, ◌∷◌, ◌++◌, Option, Some, if◌then◌else◌}
use Rattle.gs_pool.specs.declared.nodes.Key.{Key}
use Rattle.gs_pool.specs.Pool.{Nodes, in_use, aside_count, room}
use Rattle.gs_tree.specs.Tree.{Tree, root_of, height, height_at, keys, occurrences, Stands, IsBalanced, DifferByAtMost, BirthAtMost, Descends, tree_at, older_count}
use Rattle.gs_tree.specs.Steps.{plain_count, one, SameTotal, Step, IsWritable}

-- so many copies at most, and none where no node is older than `since`
abbrev pub copies : ℕ → ℕ → ℕ
copies since n = if Rattle.std.specs.Prelude.nat_lt 0 since then n else 0

-- two balanced trees that stand apart from each other and from the node `top`
pub record CanSettle (since : ℕ) (p : Nodes) (top : ℕ) (left : Option ℕ) (l : Tree) (right : Option ℕ) (r : Tree) : Type 0 where
  pub left_root : left ≡ root_of l
  pub right_root : right ≡ root_of r
  pub left_stands : Stands p l
  pub right_stands : Stands p r
  pub left_balanced : IsBalanced l
  pub right_balanced : IsBalanced r
  pub apart : (x : ℕ) → one top x + occurrences l x + occurrences r x ≤ plain_count p x
  pub writable : IsWritable since p top
  pub left_fits : height l < 2 ^ 14
  pub right_fits : height r < 2 ^ 14
  pub has_room : min (copies since 2) (older_count since l + older_count since r) ≤ room p

-- the height h that trees of these heights settle to
abbrev pub IsHeightAfter : ℕ → ℕ → ℕ → Type 0
IsHeightAfter l r h = (max l r ≤ h) × (h ≤ max l r + 1) × (DifferByAtMost 1 l r → h ≡ max l r + 1)

-- how many copies a join of trees of these heights takes at most
abbrev pub joins : ℕ → ℕ → ℕ
joins l r = 3 * ((l - r) + (r - l)) - 4

-- the two trees and the key are one balanced tree t
pub record Settled (since birth : ℕ) (p q : Nodes) (top result : ℕ) (key : Key) (l r t : Tree) : Type 0 where
  pub root : root_of t ≡ Some result
  pub stands : Stands q t
  pub balanced : IsBalanced t
  pub keys_are : keys t ≡ keys l ++ key ∷ keys r
  pub births : Descends l → Descends r → BirthAtMost birth l → BirthAtMost birth r → Descends t × BirthAtMost birth t
  pub height_is : IsHeightAfter (height l) (height r) (height t)
  pub step : Step since birth p q (λ x. one top x + occurrences l x + occurrences r x) (occurrences t)
  pub total : SameTotal p q
  pub few : in_use q ≤ in_use p + copies since (joins (height l) (height r))
  pub copied : in_use q + older_count since t ≡ in_use p + older_count since l + older_count since r
  pub exact : in_use q + aside_count p ≡ in_use p + aside_count q

-- two trees that can be joined at the node `top`, whatever their heights
pub record CanJoin (since : ℕ) (p : Nodes) (top : ℕ) (left : Option ℕ) (l : Tree) (right : Option ℕ) (r : Tree) : Type 0 where
  pub can : CanSettle since p top left l right r
  pub enough : min (copies since (joins (height l) (height r) + 2)) (older_count since l + older_count since r) ≤ room p

-- the trees that two roots mean can be balanced at the node `top`
abbrev pub CanSettleAt : ℕ → Nodes → ℕ → Option ℕ → Option ℕ → Type 0
CanSettleAt since p top left right = CanSettle since p top left (tree_at p left) right (tree_at p right)

-- they can be joined there, whatever their heights
abbrev pub CanJoinAt : ℕ → Nodes → ℕ → Option ℕ → Option ℕ → Type 0
CanJoinAt since p top left right = CanJoin since p top left (tree_at p left) right (tree_at p right)

-- the trees that they meant and the key are what the new root means
abbrev pub SettledAt : ℕ → ℕ → Nodes → Nodes → ℕ → Option ℕ → Key → Option ℕ → ℕ → Type 0
SettledAt since birth p q top left key right new = Settled since birth p q top new key (tree_at p left) (tree_at p right) (tree_at q (Some new))

-- two trees that differ by one in height at most stand below a node of height h
abbrev pub KeepsHeight : Nodes → Option ℕ → Option ℕ → ℕ → Type 0
KeepsHeight p left right h = DifferByAtMost 1 (height_at p left) (height_at p right) × (h ≡ max (height_at p left) (height_at p right) + 1)
