-- The trees of a ledger, of a list by place, and among later terms: the statements of laws.
use Rattle.std.specs.Prelude.{◌≡◌, ℕ, ◌<◌, ◌≤◌, List, [], ◌∷◌, length, Some, None, slice_index_or, slice_set}
use Rattle.std.specs.List.{All}
use Rattle.gs_term.specs.declared.names.Target.{Target}
use Rattle.gs_pool.specs.Pool.{Nodes}
use Rattle.gs_tree.specs.Tree.{Tree, leaf, root_of, occurrences, Stands, tree_at}
use Rattle.gs_tree.specs.Steps.{plain_count}
use Rattle.gs_tree.specs.Reading.{IsReadableAt}
use Rattle.gs_tree.specs.Sets.{IsSetAt}
use Rattle.gs_keys.specs.Texts.{Terms, KeepTerms, key_cmp}
use Rattle.gs_catalogue.specs.Catalogues.{GraphVersions}
use Rattle.gs_versions.specs.Pins.{Pins}
use Rattle.gs_ledger.specs.Entries.{Dead}
use Rattle.gs_ledger.specs.Ledger.{IsLedger}
use Rattle.gs_ledger.specs.Changes.{AreSameTrees}
use Rattle.gs_datasets.specs.Standing.{all_versions, other_versions, graph_trees, other_trees, IsKeyed, tree_graph, IsVersion, AreSameIn}

-- the tree stands in the pool, and its root means it
pub record IsMeant (q : Nodes) (t : Tree) : Type 0 where
  pub stands : Stands q t
  pub means : tree_at q (root_of t) ≡ t

-- so it is, and each of its nodes is plain, and is in it once
pub record IsPlainTree (q : Nodes) (t : Tree) : Type 0 where
  pub stands : Stands q t
  pub means : tree_at q (root_of t) ≡ t
  pub apart : (x : ℕ) → occurrences t x ≤ plain_count q x

-- the trees of graphs and uploads are such, and each tree that a seat reads, where it has pinned a version, is there
pub record KeepsTrees (q : Nodes) (v : Pins) (graphs uploads : List Tree) (reads : List (List Tree)) : Type 0 where
  pub current : All (IsPlainTree q) graphs
  pub staged : All (IsPlainTree q) uploads
  pub read : (s w : ℕ) → slice_index_or v.seats s None ≡ Some w → All (IsMeant q) (slice_index_or reads s [])

-- where these trees are keyed, the root of a graph's or an upload's means a set that can be changed, and that of each that a seat reads one that can be read
pub record HasSets (terms : Terms) (q : Nodes) (v : Pins) (graphs uploads : List Tree) (reads : List (List Tree)) : Type 0 where
  pub current : All (λ t. IsKeyed terms t → IsSetAt (key_cmp terms) q (root_of t)) graphs
  pub staged : All (λ t. IsKeyed terms t → IsSetAt (key_cmp terms) q (root_of t)) uploads
  pub read : (s w : ℕ) → slice_index_or v.seats s None ≡ Some w
      → All (λ t. IsKeyed terms t → IsReadableAt (key_cmp terms) q (root_of t)) (slice_index_or reads s [])

-- a ledger keeps its trees
abbrev pub LedgerKeeps : Type 0
LedgerKeeps =
    (q : Nodes) (v : Pins) (graphs uploads : List Tree) (reads : List (List Tree)) (dead : List Dead)
    → IsLedger q v graphs uploads reads dead → KeepsTrees q v graphs uploads reads

-- and those that are keyed are sets
abbrev pub LedgerHasSets : Type 0
LedgerHasSets =
    (terms : Terms) (q : Nodes) (v : Pins) (graphs uploads : List Tree) (reads : List (List Tree)) (dead : List Dead)
    → IsLedger q v graphs uploads reads dead → HasSets terms q v graphs uploads reads

-- where the roots of the other trees of p mean them in q too, the other versions have the same trees in both
abbrev pub OthersStay : Type 0
OthersStay =
    (terms : Terms) (p q : Nodes) (g : GraphVersions) (t : Target)
    → All (IsVersion terms p) (all_versions g)
    → All (λ u. tree_at q (root_of u) ≡ u) (other_trees p g t)
    → AreSameIn p q (other_versions g t)

-- so it is where the graphs of a ledger of q are any tree and the other trees of p
abbrev pub OthersStayBeside : Type 0
OthersStayBeside =
    (terms : Terms) (p q : Nodes) (g : GraphVersions) (t : Target) (v : Pins) (new : Tree) (uploads : List Tree) (reads : List (List Tree)) (dead : List Dead)
    → All (IsVersion terms p) (all_versions g)
    → IsLedger q v (new ∷ other_trees p g t) uploads reads dead
    → AreSameIn p q (other_versions g t)

-- where the graphs of a ledger of q are the trees of p, all versions have the same trees in both
abbrev pub GraphsStay : Type 0
GraphsStay =
    (terms : Terms) (p q : Nodes) (g : GraphVersions) (v : Pins) (uploads : List Tree) (reads : List (List Tree)) (dead : List Dead)
    → All (IsVersion terms p) (all_versions g)
    → IsLedger q v (graph_trees p g) uploads reads dead
    → AreSameIn p q (all_versions g)

-- a list of trees is the tree at a place, and the list with a leaf there
abbrev pub PlaceIsEmptied : Type 0
PlaceIsEmptied = (ts : List Tree) (s : ℕ) → AreSameTrees ts (slice_index_or ts s leaf ∷ slice_set ts s leaf)

-- a new tree, and a list with a leaf at a place, are the list with the new tree there
abbrev pub PlaceIsFilled : Type 0
PlaceIsFilled = (ts : List Tree) (s : ℕ) (new : Tree) → s < length ts → AreSameTrees (new ∷ slice_set ts s leaf) (slice_set ts s new)

-- among the later terms the tree is keyed, and has the same graph
pub record Outlasts (terms later : Terms) (t : Tree) : Type 0 where
  pub keyed : IsKeyed later t
  pub same : tree_graph later t ≡ tree_graph terms t

-- what is keyed stays so where each number that has a term keeps it
abbrev pub KeysOutlast : Type 0
KeysOutlast = (terms later : Terms) → KeepTerms terms later → (t : Tree) → IsKeyed terms t → Outlasts terms later t
