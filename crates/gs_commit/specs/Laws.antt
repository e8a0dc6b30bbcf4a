-- What keeps a ledger besides the end of a commit, which roots can be retired, and where a ledger begins: the statements of laws.
use Rattle.std.specs.Prelude.{◌≡◌, ◌↔◌, ℕ, ◌+◌, List, [], ◌∷◌, Option, None}
use Rattle.std.specs.List.{All}
use Rattle.gs_pool.specs.Pool.{Nodes}
use Rattle.gs_tree.specs.Tree.{Tree, leaf, root_of, occurrences, tree_at}
use Rattle.gs_tree.specs.Steps.{Step}
use Rattle.gs_versions.specs.Pins.{Pins}
use Rattle.gs_ledger.specs.Entries.{Dead}
use Rattle.gs_ledger.specs.Marks.{dead_at, waste_at}
use Rattle.gs_ledger.specs.Ledger.{IsTreeOf, IsLedger}
use Rattle.gs_reclaim.specs.Reclaims.{CanRetireRoot, KeepsLedgers}
use Rattle.gs_changes.specs.Endings.{Restores}

-- a pool that has a ledger over the dead nodes of another has the same dead nodes, in the same order
abbrev pub LedgersSayTheDead : Type 0
LedgersSayTheDead =
    (p q : Nodes) (v : Pins) (graphs uploads : List Tree) (reads : List (List Tree))
    → IsLedger q v graphs uploads reads (dead_at p) → dead_at q ≡ dead_at p

-- one pool has the ledgers of another, its dead nodes and its waste, and each root means what it meant
pub record IsSamePool (p q : Nodes) : Type 0 where
  pub ledgers : (v : Pins) → KeepsLedgers v p q
  pub dead : dead_at q ≡ dead_at p
  pub waste : waste_at q ≡ waste_at p
  pub roots : (root : Option ℕ) → tree_at q root ≡ tree_at p root

-- what was taken back is as it was
abbrev pub RestoredIsSame : Type 0
RestoredIsSame = (p q : Nodes) → Restores p q → IsSamePool p q

-- the upload at the head has the tree `new`, and nothing joined the waste
pub record GrowsUpload (v : Pins) (p q : Nodes) (new : Tree) (graphs uploads : List Tree) (reads : List (List Tree)) : Type 0 where
  pub ledger : IsLedger q v graphs (new ∷ uploads) reads (dead_at q)
  pub dead : dead_at q ≡ dead_at p
  pub waste : waste_at q ≡ waste_at p

-- a Stage, and a POST that frees its upload or makes it again: an upload goes from `old` to `new` by a step in place
abbrev pub StagingKeeps : Type 0
StagingKeeps =
    (p q : Nodes) (v : Pins) (birth : ℕ) (old new : Tree) (graphs uploads : List Tree) (reads : List (List Tree))
    → IsLedger p v graphs (old ∷ uploads) reads (dead_at p)
    → Step 0 birth p q (occurrences old) (occurrences new)
    → IsTreeOf q (v.commit + 1) new
    → GrowsUpload v p q new graphs uploads reads

-- the root of the tree can be retired, and it means the tree
pub record IsRetirable (p : Nodes) (t : Tree) : Type 0 where
  pub root : CanRetireRoot p (root_of t)
  pub means : tree_at p (root_of t) ≡ t

-- each tree of a current graph and of an open upload
pub record AreRetirable (p : Nodes) (graphs uploads : List Tree) : Type 0 where
  pub current : All (IsRetirable p) graphs
  pub staged : All (IsRetirable p) uploads

-- that is so in every ledger
abbrev pub LedgerIsRetirable : Type 0
LedgerIsRetirable =
    (p : Nodes) (v : Pins) (graphs uploads : List Tree) (reads : List (List Tree)) (dead : List Dead)
    → IsLedger p v graphs uploads reads dead → AreRetirable p graphs uploads

-- a pool with no node has a ledger of leaves, where no seat has pinned a version
abbrev pub EmptyHasLedger : Type 0
EmptyHasLedger =
    (p : Nodes) (v : Pins) (graphs uploads : List Tree) (reads : List (List Tree))
    → p.nodes ≡ [] → p.marks ≡ []
    → All (λ t. t ≡ leaf) graphs → All (λ t. t ≡ leaf) uploads → All (λ pin. pin ≡ None) v.seats
    → IsLedger p v graphs uploads reads []

-- and no dead node
abbrev pub EmptyHasNoDead : Type 0
EmptyHasNoDead = (p : Nodes) → p.nodes ≡ [] → dead_at p ≡ []

-- a leaf among the uploads stands for none
abbrev pub LeafIsNoUpload : Type 0
LeafIsNoUpload =
    (p : Nodes) (v : Pins) (graphs uploads : List Tree) (reads : List (List Tree)) (dead : List Dead)
    → IsLedger p v graphs uploads reads dead ↔ IsLedger p v graphs (leaf ∷ uploads) reads dead
