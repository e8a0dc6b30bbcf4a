-- How a commit ends in the pool: what it makes of every ledger, and what joins the waste by it.
use Rattle.std.specs.Prelude.{◌≡◌, ℕ, ◌+◌, List, ◌∷◌, length, Option}
use Rattle.gs_pool.specs.Pool.{Nodes, aside_count}
use Rattle.gs_tree.specs.Tree.{Tree, keys, occurrences, tree_at}
use Rattle.gs_tree.specs.Steps.{Step}
use Rattle.gs_versions.specs.Pins.{Pins}
use Rattle.gs_event.specs.Wasting.{Joins, IsUnreached, EndsAt}
use Rattle.gs_ledger.specs.Marks.{dead_at, waste_at}
use Rattle.gs_ledger.specs.Ledger.{IsTreeOf, IsLedger}

-- The graph that had the tree `old` has `new`, which was an upload's. The nodes of `old` join the waste: a version had each, and this commit took it out.
pub record HandsOver (v w : Pins) (p q : Nodes) (old new : Tree) (graphs uploads : List Tree) (reads : List (List Tree)) : Type 0 where
  pub ledger : IsLedger q w (new ∷ graphs) uploads reads (dead_at q)
  pub waste : Joins (EndsAt (v.commit + 1)) (length (keys old)) (waste_at p) (waste_at q)

-- that is so in every ledger where the tree of the root is a graph's, whatever tree is the upload's
abbrev pub HandsOverAll : Pins → Pins → Nodes → Nodes → Option ℕ → Type 0
HandsOverAll v w p q root =
    (new : Tree) (graphs uploads : List Tree) (reads : List (List Tree))
    → IsLedger p v (tree_at p root ∷ graphs) (new ∷ uploads) reads (dead_at p)
    → HandsOver v w p q (tree_at p root) new graphs uploads reads

-- The upload that had the tree `old` is no more. The nodes of `old` join the waste, and no version had one of them.
pub record DropsUpload (v : Pins) (p q : Nodes) (old : Tree) (graphs uploads : List Tree) (reads : List (List Tree)) : Type 0 where
  pub ledger : IsLedger q v graphs uploads reads (dead_at q)
  pub waste : Joins IsUnreached (length (keys old)) (waste_at p) (waste_at q)

-- that is so in every ledger where the tree of the root is an upload's
abbrev pub DropsAll : Nodes → Nodes → Option ℕ → Type 0
DropsAll p q root =
    (v : Pins) (graphs uploads : List Tree) (reads : List (List Tree))
    → IsLedger p v graphs (tree_at p root ∷ uploads) reads (dead_at p)
    → DropsUpload v p q (tree_at p root) graphs uploads reads

-- The graph has its draft `new`. The nodes that are set aside in q join the waste: a version had each, and this commit took it out.
pub record KeepsDraft (v w : Pins) (p q r : Nodes) (new : Tree) (graphs uploads : List Tree) (reads : List (List Tree)) : Type 0 where
  pub ledger : IsLedger r w (new ∷ graphs) uploads reads (dead_at r)
  pub waste : Joins (EndsAt (v.commit + 1)) (aside_count q) (waste_at p) (waste_at r)

-- that is so from every pool p where the draft was begun
abbrev pub KeepsDraftAll : Pins → Pins → Nodes → Nodes → Type 0
KeepsDraftAll v w q r =
    (p : Nodes) (old new : Tree) (graphs uploads : List Tree) (reads : List (List Tree))
    → aside_count p ≡ 0
    → IsLedger p v (old ∷ graphs) uploads reads (dead_at p)
    → Step (v.commit + 1) (v.commit + 1) p q (occurrences old) (occurrences new)
    → IsTreeOf q (v.commit + 1) new
    → KeepsDraft v w p q r new graphs uploads reads
