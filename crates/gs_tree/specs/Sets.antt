-- Sets of keys: what a root means to readers, and what adding and removing keys does.
use Rattle.std.specs.Prelude.{◌≡◌, ◌⊎◌, ℕ, ◌+◌, ◌-◌, ◌*◌, ◌^◌, ◌<◌, ◌≤◌, min, List, length, Option, Some}
use Rattle.std.specs.declared.cmp.Ordering.{Ordering}
use Rattle.gs_pool.specs.declared.nodes.Key.{Key}
use Rattle.gs_pool.specs.declared.nodes.Node.{Node}
use Rattle.gs_pool.specs.Pool.{Nodes, node_at, in_use, aside_count, room}
use Rattle.gs_tree.specs.declared.unions.Merged.{Merged}
use Rattle.gs_tree.specs.Keys.{IsRising, insert_key, remove_key, merge_keys}
use Rattle.gs_tree.specs.Tree.{Tree, root_of, height, keys, occurrences, Stands, IsBalanced, BirthAtMost, Descends, tree_at, older_count}
use Rattle.gs_tree.specs.Reading.{keys_at}
use Rattle.gs_tree.specs.Steps.{plain_count, Step}
use Rattle.gs_tree.specs.Joining.{copies}

-- a root means a balanced tree in order
pub record IsSet (cmp : Key → Key → Ordering) (p : Nodes) (root : Option ℕ) (t : Tree) : Type 0 where
  pub root_is : root ≡ root_of t
  pub stands : Stands p t
  pub balanced : IsBalanced t
  pub rising : IsRising cmp (keys t)
  pub apart : (x : ℕ) → occurrences t x ≤ plain_count p x

-- each node of the tree is no node of t, or older than `since`
abbrev pub IsElsewhere : ℕ → Nodes → Tree → Tree → Type 0
IsElsewhere since p t other = (x : ℕ) (n : Node) → 0 < occurrences other x → node_at p x ≡ Some n → (occurrences t x ≡ 0) ⊎ (n.birth < since)

-- every tree that is apart from t, or older, stands as it stood
abbrev pub KeepsOthers : ℕ → Nodes → Nodes → Tree → Type 0
KeepsOthers since p q t = (other : Tree) → Stands p other → IsElsewhere since p t other → Stands q other × (Rattle.gs_tree.specs.Tree.tree_at q (root_of other) ≡ Rattle.gs_tree.specs.Tree.tree_at p (root_of other))

-- how many nodes a union that adds n keys to a tree of height h takes at most: n (4 h + 1), and n where nothing is copied
abbrev pub union_cost : ℕ → ℕ → ℕ → ℕ
union_cost since h n = n + n * copies since (4 * h)

-- how many nodes are copied at most, where `most` of a tree of height h would be: no more than such a tree has, nor than are in use
abbrev pub copied_most : ℕ → ℕ → ℕ → ℕ → ℕ
copied_most since most h used = copies since (min most (min used (2 ^ h - 1)))

-- the room that the union of a tree of height h with n keys asks for
abbrev pub union_room : ℕ → ℕ → ℕ → ℕ → ℕ
union_room since h n used = n + copied_most since (n * (4 * h) + 2) h used

-- the room that the removal of a key from a tree of height h asks for
abbrev pub remove_room : ℕ → ℕ → ℕ → ℕ
remove_room since h used = copied_most since (3 * h) h used

-- The set t became the set new, which has the keys of the run too; it lacked `added` of them. A key that it lacked costs at most 8 d + 1 nodes, where the set's size has d digits, and 257 in any pool; a key that it has costs nothing.
pub record Unites (cmp : Key → Key → Ordering) (since birth : ℕ) (p q : Nodes) (result : Option ℕ) (added : ℕ) (t : Tree) (run : List Key) (new : Tree) : Type 0 where
  pub set : IsSet cmp q result new
  pub keys_are : keys new ≡ merge_keys cmp run (keys t)
  pub counted : length (keys new) ≡ length (keys t) + added
  pub still : added ≡ 0 → (result ≡ root_of t) × (q.nodes ≡ p.nodes) × (q.marks ≡ p.marks)
  pub births : Descends t → BirthAtMost birth t → Descends new × BirthAtMost birth new
  pub step : Step since birth p q (occurrences t) (occurrences new)
  pub others : KeepsOthers since p q t
  pub copied : in_use q + older_count since new ≡ in_use p + older_count since t + added
  pub exact : in_use q + aside_count p ≡ in_use p + aside_count q + added
  pub in_place : since ≡ 0 → in_use q ≡ in_use p + added
  pub cost : in_use q ≤ in_use p + union_cost since (height t) added
  pub digits : (d : ℕ) → length (keys t) < 2 ^ d → in_use q ≤ in_use p + added * (8 * d + 1)
  pub few : in_use q ≤ in_use p + 257 * added

-- a root means a set that can be changed
abbrev pub IsSetAt : (Key → Key → Ordering) → Nodes → Option ℕ → Type 0
IsSetAt cmp p root = IsSet cmp p root (tree_at p root)

-- the set that a root meant became that of the new root, which has the keys of the run too
abbrev pub UnitesAt : (Key → Key → Ordering) → ℕ → ℕ → Nodes → Nodes → Option ℕ → List Key → Merged → Type 0
UnitesAt cmp since birth p q root run m = Unites cmp since birth p q m.root m.added (tree_at p root) run (tree_at q m.root)

-- the keys that the new root means are those of the old one with this key in its place
abbrev pub GainsKey : (Key → Key → Ordering) → Nodes → Nodes → Option ℕ → Key → Merged → Type 0
GainsKey cmp p q root key m = keys_at q m.root ≡ insert_key cmp key (keys_at p root)

-- at most 8 d + 1 nodes more are in use, where a set of this size has d binary digits
abbrev pub IsCheap : ℕ → Nodes → Nodes → Type 0
IsCheap size p q = (d : ℕ) → size < 2 ^ d → in_use q ≤ in_use p + 8 * d + 1

-- The set t became the set new, which lacks the key. At most 6 d nodes more are in use, where the set's size has d binary digits, and 192 in any pool.
pub record RemovesOneKey (cmp : Key → Key → Ordering) (since birth : ℕ) (p q : Nodes) (to : Option ℕ) (key : Key) (t new : Tree) : Type 0 where
  pub set : IsSet cmp q to new
  pub keys_are : keys new ≡ remove_key cmp key (keys t)
  pub counted : length (keys new) + 1 ≡ length (keys t)
  pub births : Descends t → BirthAtMost birth t → Descends new × BirthAtMost birth new
  pub step : Step since birth p q (occurrences t) (occurrences new)
  pub others : KeepsOthers since p q t
  pub copied : in_use q + older_count since new + 1 ≡ in_use p + older_count since t
  pub exact : in_use q + aside_count p + 1 ≡ in_use p + aside_count q
  pub in_place : since ≡ 0 → in_use q + 1 ≡ in_use p
  pub cost : in_use q ≤ in_use p + copies since (3 * height t)
  pub digits : (d : ℕ) → length (keys t) < 2 ^ d → in_use q ≤ in_use p + 6 * d
  pub few : in_use q ≤ in_use p + 192

-- the set that a root meant became that of the new root, which lacks the key
abbrev pub RemovesAt : (Key → Key → Ordering) → ℕ → ℕ → Nodes → Nodes → Option ℕ → Key → Option ℕ → Type 0
RemovesAt cmp since birth p q root key to = RemovesOneKey cmp since birth p q to key (tree_at p root) (tree_at q to)

-- the pool has the room that the union of the set that a root means with n keys asks for
abbrev pub HasUnionRoom : ℕ → Nodes → Option ℕ → ℕ → Type 0
HasUnionRoom since p root n = union_room since (height (tree_at p root)) n (in_use p) ≤ room p

-- it has the room that a removal asks for
abbrev pub HasRemoveRoom : ℕ → Nodes → Option ℕ → Type 0
HasRemoveRoom since p root = remove_room since (height (tree_at p root)) (in_use p) ≤ room p
