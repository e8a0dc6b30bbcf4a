-- What a commit does to a tree, by any number of unions and removals.
use Rattle.std.specs.Prelude.{◌≡◌, ◌⊎◌, ℕ, ◌+◌, ◌*◌, ◌<◌, ◌≤◌, length, Option}
use Rattle.std.specs.declared.cmp.Ordering.{Ordering}
use Rattle.gs_pool.specs.declared.nodes.Key.{Key}
use Rattle.gs_pool.specs.Pool.{Nodes, plain, replaced, mark_at, in_use, aside_count, retired_count, IsParted}
use Rattle.gs_tree.specs.Tree.{Tree, leaf, fork, root_of, keys, occurrences, Stands, BirthAtMost, Descends, tree_at, older_count}
use Rattle.gs_tree.specs.Steps.{IsOlder, Step}
use Rattle.gs_tree.specs.Sets.{IsSet, KeepsOthers}

-- a node older than the commit was plain, and in the tree t; it is set aside, and not in the tree new
pub record IsSetAside (birth : ℕ) (p q : Nodes) (t new : Tree) (x : ℕ) : Type 0 where
  pub older : IsOlder birth p x
  pub was_plain : mark_at p x ≡ plain
  pub now : mark_at q x ≡ replaced
  pub before : occurrences t x ≡ 1
  pub after : occurrences new x ≡ 0

-- the mark of a number stays, or its node is set aside
abbrev pub MarkStaysOrGoes : ℕ → Nodes → Nodes → Tree → Tree → ℕ → Type 0
MarkStaysOrGoes birth p q t new x = (mark_at q x ≡ mark_at p x) ⊎ IsSetAside birth p q t new x

-- From pool p to pool q the tree t became the tree new, by nodes born at `birth`: so many keys went in, and so many out. Older nodes stay as they are; those that went out of the tree are set aside. What stands apart from t or is older means what it meant. A key in takes at most 257 nodes, a key out 192.
pub record Changes (cmp : Key → Key → Ordering) (birth : ℕ) (p q : Nodes) (root : Option ℕ) (added removed : ℕ) (t new : Tree) : Type 0 where
  pub set : IsSet cmp q root new
  pub births : Descends t → BirthAtMost birth t → Descends new × BirthAtMost birth new
  pub step : Step birth birth p q (occurrences t) (occurrences new)
  pub others : KeepsOthers birth p q t
  pub aside : (x : ℕ) → MarkStaysOrGoes birth p q t new x
  pub still : added + removed ≡ 0 → (root ≡ root_of t) × (q.nodes ≡ p.nodes) × (q.marks ≡ p.marks)
  pub counted : length (keys new) + removed ≡ length (keys t) + added
  pub copied : in_use q + older_count birth new + removed ≡ in_use p + older_count birth t + added
  pub exact : in_use q + aside_count p + removed ≡ in_use p + aside_count q + added
  pub retired : retired_count q ≡ retired_count p
  pub few : in_use q ≤ in_use p + 257 * added + 192 * removed

-- the set that a root meant became that of the new root
abbrev pub ChangesAt : (Key → Key → Ordering) → ℕ → Nodes → Nodes → Option ℕ → Option ℕ → ℕ → ℕ → Type 0
ChangesAt cmp birth p q root new added removed = Changes cmp birth p q new added removed (tree_at p root) (tree_at q new)

-- it became that of the new root, by some keys that went in
abbrev pub AddsSome : (Key → Key → Ordering) → ℕ → Nodes → Nodes → Option ℕ → Option ℕ → Type 0
AddsSome cmp birth p q root new = (added : ℕ) × ChangesAt cmp birth p q root new added 0

-- it became that of the new root, by some keys that went out
abbrev pub RemovesSome : (Key → Key → Ordering) → ℕ → Nodes → Nodes → Option ℕ → Option ℕ → Type 0
RemovesSome cmp birth p q root new = (removed : ℕ) × ChangesAt cmp birth p q root new 0 removed

-- the top is born before this commit
abbrev pub IsBornBefore : ℕ → Tree → Type 0
IsBornBefore birth leaf = Unit {0}
IsBornBefore birth (fork id b l k r) = b < birth

-- a tree before this commit: no node is born after its parent, and the top before the commit
pub record IsEarlier (birth : ℕ) (p : Nodes) (t : Tree) : Type 0 where
  pub stands : Stands p t
  pub descends : Descends t
  pub before : IsBornBefore birth t

-- a pool and a tree of it between two commits: no node is set aside, and a free number has no mark
pub record CanBegin (birth : ℕ) (p : Nodes) (t : Tree) : Type 0 where
  pub earlier : IsEarlier birth p t
  pub none_aside : aside_count p ≡ 0
  pub parted : IsParted p
