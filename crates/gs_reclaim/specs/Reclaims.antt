-- What a reclaim asks of a pool, and what it makes of it.
use Rattle.std.specs.Prelude.{◌≡◌, ◌≢◌, ℕ, ◌+◌, Bool, true, false, List, length, Option, Some, None}
use Rattle.std.specs.List.{All, sum_by}
use Rattle.gs_pool.specs.declared.nodes.Node.{Node}
use Rattle.gs_pool.specs.declared.nodes.Retired.{Retired}
use Rattle.gs_pool.specs.Pool.{Nodes, NodeMark, plain, aside, node_at, mark_at, IsPlain, KeepsMarks, Marks, Updates}
use Rattle.gs_tree.specs.Tree.{Tree}
use Rattle.gs_versions.specs.Pins.{Pins, HasPinned, IsNeeded}
use Rattle.gs_event.specs.Waste.{Lifetime, is_needed}
use Rattle.gs_ledger.specs.Marks.{death_of, dead_at, waste_at}
use Rattle.gs_ledger.specs.Ledger.{IsLedger}
use Rattle.gs_ledger.specs.Changes.{RetiresSides}

-- some graphs, uploads and reads have a ledger of the pool, whose dead nodes are those that its marks say
pub record HasMarkedLedger (p : Nodes) (v : Pins) : Type 0 where
  pub graphs : List Tree
  pub uploads : List Tree
  pub reads : List (List Tree)
  pub ledger : IsLedger p v graphs uploads reads (dead_at p)

-- all graphs, uploads and reads that have a ledger of the pool have one still
abbrev pub KeepsLedgers : Pins → Nodes → Nodes → Type 0
KeepsLedgers v p q = (graphs uploads : List Tree) (reads : List (List Tree)) → IsLedger p v graphs uploads reads (dead_at p) → IsLedger q v graphs uploads reads (dead_at q)

-- a root can be retired: its node is plain
abbrev pub CanRetireRoot : Nodes → Option ℕ → Type 0
CanRetireRoot p None = Unit {0}
CanRetireRoot p (Some id) = IsPlain p id

-- a side of the node `id` can be retired, which leaves that node alone
abbrev pub IsSide : Nodes → ℕ → Option ℕ → Type 0
IsSide p id None = Unit {0}
IsSide p id (Some x) = IsPlain p x × (x ≢ id)

-- two roots do not mean the same node
abbrev pub AreApart : Option ℕ → Option ℕ → Type 0
AreApart None o = Unit {0}
AreApart (Some a) None = Unit {0}
AreApart (Some a) (Some b) = a ≢ b

-- both sides of the node `id` can be retired, where all below it died
abbrev pub AreSides : Bool → Nodes → ℕ → Node → Type 0
AreSides true p id n = IsSide p id n.left × IsSide p id n.right × AreApart n.left n.right
AreSides false p id n = Unit {0}

-- a plain node can be freed, and its sides retired where all below it died
pub record CanFree (p : Nodes) (id : ℕ) (whole : Bool) : Type 0 where
  pub node : Node
  pub found : node_at p id ≡ Some node
  pub plain_mark : mark_at p id ≡ plain
  pub sides : AreSides whole p id node

-- the number of a node is free, and its sides are retired where all below it died
pub record Unrolls (p q : Nodes) (id death : ℕ) (whole : Bool) : Type 0 where
  pub node : Node
  pub found : node_at p id ≡ Some node
  pub between : Nodes
  pub sides : RetiresSides whole p between node death
  pub updates : Updates between q id None
  pub marks : KeepsMarks between q

-- the pin of a seat needs a node that was taken off the list
pub record IsNeededFor (v : Pins) (p : Nodes) (seat : ℕ) (r : Retired) : Type 0 where
  pub node : Node
  pub found : node_at p r.id ≡ Some node
  pub pinned : HasPinned v.seats seat node.birth r.death

-- a node that was taken off the list, and that a version needs, is dead still: it is held, or set aside
pub record NodeStays (v : Pins) (p q : Nodes) (r : Retired) : Type 0 where
  pub node : Node
  pub found : node_at p r.id ≡ Some node
  pub needed : IsNeeded v node.birth r.death
  pub mark : NodeMark
  pub dead : death_of mark ≡ Some (r.death, r.whole)
  pub marks : Marks p q r.id mark

-- a node that was taken off the list is freed, where no version needs it, and else stays
abbrev pub SettlesNode : Pins → Nodes → Nodes → Retired → Bool → Type 0
SettlesNode v p q r true = (n : Node) × (node_at p r.id ≡ Some n) × (IsNeeded v n.birth r.death → ⊥) × Unrolls p q r.id r.death r.whole
SettlesNode v p q r false = NodeStays v p q r

-- So many nodes went from a pool, which no pin needed; what is set aside is needed; and ledgers go on.
pub record Reclaims (v : Pins) (p q : Nodes) (freed : ℕ) : Type 0 where
  pub ledgers : KeepsLedgers v p q
  pub gone : List Lifetime
  pub many : length gone ≡ freed
  pub same : (f : Lifetime → ℕ) → sum_by f (waste_at q) + sum_by f gone ≡ sum_by f (waste_at p)
  pub none_needed : All (λ l. is_needed v.seats l ≡ false) gone
  pub needed : (x death : ℕ) (whole : Bool) (n : Node) → mark_at q x ≡ aside death whole → node_at q x ≡ Some n → IsNeeded v n.birth death
