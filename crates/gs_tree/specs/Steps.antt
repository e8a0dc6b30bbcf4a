-- How a pool changes under trees.
use Rattle.std.specs.Prelude.{◌≡◌, ◌≢◌, ◌⊎◌, ℕ, ◌+◌, ◌<◌, ◌≤◌, max, Option, Some, None, IsSome, if◌then◌else◌, ◌==◌}
use Rattle.gs_pool.specs.declared.nodes.Key.{Key}
use Rattle.gs_pool.specs.declared.nodes.Node.{Node}
use Rattle.gs_pool.specs.Pool.{Nodes, NodeMark, plain, aside, replaced, retired, node_at, mark_at, in_use, aside_count, room}
use Rattle.gs_tree.specs.Tree.{height_at, older_birth}

-- 1 for a node in use that is plain
abbrev pub plain_mark : NodeMark → ℕ
plain_mark plain = 1
plain_mark (aside death whole) = 0
plain_mark (retired death whole) = 0

-- 1 for a node that is there and plain
abbrev pub plain_node : Option Node → NodeMark → ℕ
plain_node None m = 0
plain_node (Some n) m = plain_mark m

-- 1 at a number in use that is plain
abbrev pub plain_count : Nodes → ℕ → ℕ
plain_count p x = plain_node (node_at p x) (mark_at p x)

-- the room falls by no more than the nodes in use rise
abbrev pub SameTotal : Nodes → Nodes → Type 0
SameTotal p q = room p + in_use p ≤ room q + in_use q

-- the node of a number is older than `since`
abbrev pub IsOlder : ℕ → Nodes → ℕ → Type 0
IsOlder since p x = (n : Node) × (node_at p x ≡ Some n) × (n.birth < since)

-- every node of q is one that p has under the same number, or is born at `birth`
abbrev pub BornAt : ℕ → Nodes → Nodes → Type 0
BornAt birth p q = (x : ℕ) (n : Node) → node_at q x ≡ Some n → (node_at p x ≡ Some n) ⊎ (n.birth ≡ birth)

-- A pool goes from p to q. `before` and `after` say how often each number occurs in the trees that change. What does not occur in them stays, and so does what is older than `since`; a number that occurs anew was free; what is new or changed is born at `birth`.
pub record Step (since birth : ℕ) (p q : Nodes) (before after : ℕ → ℕ) : Type 0 where
  pub kept : (x : ℕ) (n : Node) → node_at p x ≡ Some n → (before x ≡ 0) ⊎ (n.birth < since) → node_at q x ≡ Some n
  pub balance : (x : ℕ) → after x + plain_count p x ≡ before x + plain_count q x
  pub older : (x : ℕ) (n : Node) → node_at q x ≡ Some n → n.birth < since → node_at p x ≡ Some n
  pub born : BornAt birth p q
  pub marks : (x : ℕ) → (mark_at q x ≡ mark_at p x) ⊎ (IsOlder since p x × (mark_at p x ≡ plain) × (mark_at q x ≡ replaced))

-- 1 at one number
abbrev pub one : ℕ → ℕ → ℕ
one id x = if id == x then 1 else 0

-- the node of a number is no older than `since`
abbrev pub IsRecent : ℕ → Nodes → ℕ → Type 0
IsRecent since p id = (n : Node) → node_at p id ≡ Some n → since ≤ n.birth

-- nothing changed, and `copy` is the node `id` itself
pub record IsSame (p q : Nodes) (id copy : ℕ) : Type 0 where
  pub same : copy ≡ id
  pub nodes : (x : ℕ) → node_at q x ≡ node_at p x
  pub marks : (x : ℕ) → mark_at q x ≡ mark_at p x

-- the node `id` is older than `since` and set aside, and `copy`, which was free, has a copy of it that is born at `birth`
pub record IsCopied (since birth : ℕ) (p q : Nodes) (id copy : ℕ) : Type 0 where
  pub was_free : node_at p copy ≡ None
  pub others : (x : ℕ) → x ≢ copy → node_at q x ≡ node_at p x
  pub was_plain : mark_at p id ≡ plain
  pub set_aside : mark_at q id ≡ replaced
  pub plain_now : mark_at q copy ≡ plain
  pub older : IsOlder since p id
  pub marks : (x : ℕ) → x ≢ id → mark_at q x ≡ mark_at p x
  pub born : (n : Node) → node_at q copy ≡ Some n → n.birth ≡ birth

-- the node `id` is no older than `since`, or was copied
pub record CopiesIfOlder (since birth : ℕ) (p q : Nodes) (id copy : ℕ) : Type 0 where
  pub cases : IsSame p q id copy ⊎ IsCopied since birth p q id copy
  pub used : IsSome (node_at q copy)
  pub recent : IsRecent since q copy
  pub total : SameTotal p q
  pub few : in_use q ≤ in_use p + (if Rattle.std.specs.Prelude.nat_lt 0 since then 1 else 0)
  pub copied : (n : Node) → node_at p id ≡ Some n → in_use q ≡ in_use p + older_birth since n.birth
  pub exact : in_use q + aside_count p ≡ in_use p + aside_count q

-- the node `id` has these sides and this key, and no other node changes
pub record Links (p q : Nodes) (id : ℕ) (left : Option ℕ) (key : Key) (right : Option ℕ) (birth : ℕ) : Type 0 where
  pub node : node_at q id ≡ Some record { key = key; left = left; right = right; height = max (height_at p left) (height_at p right) + 1; birth = birth }
  pub others : (x : ℕ) → x ≢ id → node_at q x ≡ node_at p x
  pub marks : q.marks ≡ p.marks
  pub total : room q ≡ room p
  pub same : in_use q ≡ in_use p

-- a node in use that a change may write
pub record IsWritable (since : ℕ) (p : Nodes) (id : ℕ) : Type 0 where
  pub used : IsSome (node_at p id)
  pub recent : IsRecent since p id
