-- How the parts of a ledger change.
use Rattle.std.specs.Prelude.{◌≡◌, ◌≢◌, ◌⊎◌, ℕ, zero, suc, Bool, true, false, if◌then◌else◌, List, [], ◌∷◌, ◌++◌, length, Option, Some, None}
use Rattle.std.specs.List.{All, Contains, sum_by}
use Rattle.gs_pool.specs.declared.nodes.Node.{Node}
use Rattle.gs_pool.specs.Pool.{Nodes, plain, retired, is_aside, node_at, mark_at, retired_mark, KeepsNodes, Marks}
use Rattle.gs_tree.specs.Tree.{Tree, leaf}
use Rattle.gs_ledger.specs.Entries.{Dead, tops, sides_of}
use Rattle.gs_ledger.specs.Marks.{death_of}

-- the same trees, in any order; a leaf stands for no tree
pub record AreSameTrees (ts us : List Tree) : Type 0 where
  pub sums : (f : Tree → ℕ) → f leaf ≡ 0 → sum_by f us ≡ sum_by f ts
  pub each : All (λ t. (t ≡ leaf) ⊎ Contains ts t) us

-- the same dead nodes, in any order
pub record AreSameDead (ds es : List Dead) : Type 0 where
  pub sums : (f : Dead → ℕ) → sum_by f es ≡ sum_by f ds
  pub each : All (λ d. Contains ds d) es

-- the mark of a number says that this node died
abbrev pub IsMarked : Nodes → Dead → Type 0
IsMarked p d = death_of (mark_at p d.id) ≡ Some (d.death, d.whole)

-- these nodes are marked as dead now; no node changes, and no other mark
pub record Buries (p q : Nodes) (dead : List Dead) : Type 0 where
  pub nodes : KeepsNodes p q
  pub marked : All (IsMarked q) dead
  pub others : (x : ℕ) → tops dead x ≡ 0 → mark_at q x ≡ mark_at p x

-- what a root means is retired whole: its number has the mark, and no other mark changes; nothing changes where there is no root
abbrev pub RetiresRoot : Nodes → Nodes → Option ℕ → ℕ → Type 0
RetiresRoot p q None death = q ≡ p
RetiresRoot p q (Some id) death = Marks p q id (retired death true)

-- both sides of a node are retired whole, where all below it died
abbrev pub RetiresSides : Bool → Nodes → Nodes → Node → ℕ → Type 0
RetiresSides true p q n death = (m : Nodes) × RetiresRoot p m n.left death × RetiresRoot m q n.right death
RetiresSides false p q n death = q ≡ p

-- the number of a dead node is free, and its sides are marked as dead; no other node changes, and no other mark
pub record FreesTop (p q : Nodes) (d : Dead) : Type 0 where
  pub freed : node_at q d.id ≡ None
  pub others : (x : ℕ) → x ≢ d.id → node_at q x ≡ node_at p x
  pub plain_now : mark_at q d.id ≡ plain
  pub marked : All (IsMarked q) (sides_of d)
  pub marks : (x : ℕ) → tops (d ∷ sides_of d) x ≡ 0 → mark_at q x ≡ mark_at p x

-- each node that is set aside is retired alone, with this death; no node changes, and no other mark
pub record RetiresAside (p q : Nodes) (death : ℕ) : Type 0 where
  pub nodes : KeepsNodes p q
  pub marks : (x : ℕ) → mark_at q x ≡ retired_mark death (mark_at p x)

-- a number as a node that died alone, where it is set aside
abbrev pub alone_at : ℕ → ℕ → Option Node → Bool → List Dead
alone_at death x None is = []
alone_at death x (Some n) is =
    if is
    then record { id = x; birth = n.birth; death = death; whole = false; left = leaf; right = leaf } ∷ []
    else []

-- the nodes that are set aside, of the numbers below n, as nodes that died alone
abbrev pub alone_below : ℕ → ℕ → Nodes → List Dead
alone_below death zero p = []
alone_below death (suc n) p = alone_at death n (node_at p n) (is_aside (mark_at p n)) ++ alone_below death n p

-- all nodes that are set aside
abbrev pub aside_dead : ℕ → Nodes → List Dead
aside_dead death p = alone_below death (length p.nodes) p
