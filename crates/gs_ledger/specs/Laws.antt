-- What the laws say of any ledger.
use Rattle.std.specs.Prelude.{◌≡◌, ℕ, ◌+◌, List, [], ◌∷◌, ◌++◌, length, Some, None, slice_index_or}
use Rattle.std.specs.List.{All, sum_by}
use Rattle.gs_pool.specs.Pool.{Nodes, in_use, KeepsNodes}
use Rattle.gs_tree.specs.Tree.{Tree, root_of, Stands, tree_at}
use Rattle.gs_tree.specs.Steps.{BornAt}
use Rattle.gs_versions.specs.Pins.{Pins}
use Rattle.gs_event.specs.Waste.{Lifetime}
use Rattle.gs_event.specs.Born.{Renews, Leave}
use Rattle.gs_event.specs.Wasting.{Joins, EndsAt}
use Rattle.gs_ledger.specs.Entries.{Dead, keys_in, tree_births, sides_of, lives}
use Rattle.gs_ledger.specs.Marks.{waste_at}
use Rattle.gs_ledger.specs.Ledger.{IsLedger}

-- the lifetimes are those of the other list, in any order
abbrev pub SameLives : List Lifetime → List Lifetime → Type 0
SameLives old new = (f : Lifetime → ℕ) → sum_by f new ≡ sum_by f old

-- A Stage: where each node is one that was there, or is born at the next commit, and only an upload's tree changed, that is so of its births.
abbrev pub StageBirths : Type 0
StageBirths =
    (p q : Nodes) (v w : Pins) (old new : Tree) (graphs uploads : List Tree) (reads reads' : List (List Tree)) (dead dead' : List Dead)
    → IsLedger p v graphs (old ∷ uploads) reads dead → IsLedger q w graphs (new ∷ uploads) reads' dead'
    → BornAt (v.commit + 1) p q → SameLives (waste_at p) (waste_at q)
    → Renews v.commit (tree_births old) (tree_births new) [] []

-- A POST, and a PATCH: the same of a graph, some of whose nodes joined the waste by the commit.
abbrev pub CopyBirths : Type 0
CopyBirths =
    (p q : Nodes) (v w : Pins) (most : ℕ) (old new : Tree) (graphs uploads : List Tree) (reads reads' : List (List Tree)) (dead dead' : List Dead)
    → IsLedger p v (old ∷ graphs) uploads reads dead → IsLedger q w (new ∷ graphs) uploads reads' dead'
    → BornAt (v.commit + 1) p q → Joins (EndsAt (v.commit + 1)) most (waste_at p) (waste_at q)
    → Renews v.commit (tree_births old) (tree_births new) (waste_at p) (waste_at q)

-- A PUT and a Delete: where no node changes, the births of what the graph was join the waste.
abbrev pub PutBirths : Type 0
PutBirths =
    (p q : Nodes) (v w : Pins) (most : ℕ) (old new : Tree) (graphs uploads : List Tree) (reads reads' : List (List Tree)) (dead dead' : List Dead)
    → IsLedger p v (old ∷ graphs) (new ∷ uploads) reads dead → IsLedger q w (new ∷ graphs) uploads reads' dead'
    → KeepsNodes p q → Joins (EndsAt (v.commit + 1)) most (waste_at p) (waste_at q)
    → Leave v.commit (tree_births old) (waste_at p) (waste_at q)

-- The nodes in use are a node for each triple of a current graph, one for each of an open upload, and the waste; and the waste is what the marks say.
pub record Counts (p : Nodes) (graphs uploads : List Tree) (dead : List Dead) : Type 0 where
  pub nodes : in_use p ≡ keys_in graphs + keys_in uploads + length (waste_at p)
  pub waste : SameLives (lives dead) (waste_at p)

-- the tree stands as it stood, and its root means it
pub record IsUnchangedTree (p q : Nodes) (t : Tree) : Type 0 where
  pub stands : Stands q t
  pub means : tree_at q (root_of t) ≡ tree_at p (root_of t)

-- each current graph, each open upload and each tree that a seat reads is unchanged
pub record NeededStay (p q : Nodes) (v : Pins) (graphs uploads : List Tree) (reads : List (List Tree)) : Type 0 where
  pub current : All (IsUnchangedTree p q) graphs
  pub staged : All (IsUnchangedTree p q) uploads
  pub read : (s w : ℕ) → slice_index_or v.seats s None ≡ Some w → All (IsUnchangedTree p q) (slice_index_or reads s [])

-- the ledger goes on with the sides of the dead node in its place, one node fewer is in use, and its lifetime alone is out of the waste
pub record MayGo (p q : Nodes) (v : Pins) (graphs uploads : List Tree) (reads : List (List Tree)) (d : Dead) (dead : List Dead) : Type 0 where
  pub ledger : IsLedger q v graphs uploads reads (sides_of d ++ dead)
  pub fewer : in_use q + 1 ≡ in_use p
  pub waste : (f : Lifetime → ℕ) → sum_by f (waste_at q) + f (record { birth = d.birth; death = d.death }) ≡ sum_by f (waste_at p)
