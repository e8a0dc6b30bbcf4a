-- How each step of a store keeps the ledger, and what joins the waste by it: the statements of laws.
use Rattle.std.specs.Prelude.{◌≡◌, ℕ, ◌+◌, ◌<◌, false, List, ◌∷◌, ◌++◌, length, Some, None, slice_set}
use Rattle.std.specs.List.{All, Contains}
use Rattle.gs_pool.specs.Pool.{Nodes, is_aside, mark_at, aside_count}
use Rattle.gs_tree.specs.Tree.{Tree, keys, occurrences}
use Rattle.gs_tree.specs.Steps.{Step}
use Rattle.gs_versions.specs.Pins.{Pins, with_pin, at_commit}
use Rattle.gs_event.specs.Wasting.{Joins, IsUnreached, EndsAt}
use Rattle.gs_ledger.specs.Entries.{Dead, died_whole}
use Rattle.gs_ledger.specs.Marks.{waste_at}
use Rattle.gs_ledger.specs.Ledger.{IsTreeOf, IsLedger}
use Rattle.gs_ledger.specs.Changes.{AreSameTrees, AreSameDead, Buries, RetiresAside, aside_dead}

-- the ledger does not depend on the order of its parts, nor on leaves among graphs and uploads
abbrev pub OrderMeansNothing : Type 0
OrderMeansNothing =
    (p : Nodes) (v : Pins) (graphs graphs' uploads uploads' : List Tree) (reads : List (List Tree)) (dead dead' : List Dead)
    → AreSameTrees graphs graphs' → AreSameTrees uploads uploads' → AreSameDead dead dead'
    → IsLedger p v graphs uploads reads dead → IsLedger p v graphs' uploads' reads dead'

-- A PUT: the graph that was `old` is `new`, which was an upload; what it was is retired whole, and died at the commit. A Delete is a PUT of a leaf.
abbrev pub PutKeeps : Type 0
PutKeeps =
    (p q : Nodes) (v : Pins) (old new : Tree) (graphs uploads : List Tree) (reads : List (List Tree)) (dead : List Dead)
    → IsLedger p v (old ∷ graphs) (new ∷ uploads) reads dead
    → Buries p q (died_whole (v.commit + 1) old)
    → IsLedger q (at_commit v (v.commit + 1)) (new ∷ graphs) uploads reads (died_whole (v.commit + 1) old ++ dead)

-- A Cancel, an upload that comes too late, and a PUT or a new graph that is not stored: the upload is retired whole, with death 0, so no version needs it.
abbrev pub CancelKeeps : Type 0
CancelKeeps =
    (p q : Nodes) (v : Pins) (old : Tree) (graphs uploads : List Tree) (reads : List (List Tree)) (dead : List Dead)
    → IsLedger p v graphs (old ∷ uploads) reads dead
    → Buries p q (died_whole 0 old)
    → IsLedger q v graphs uploads reads (died_whole 0 old ++ dead)

-- A POST, and a PATCH: the graph goes from `old` to `new` by a step that copies, and each node that was replaced is retired alone, and died at the commit.
abbrev pub CopyKeeps : Type 0
CopyKeeps =
    (p q r : Nodes) (v : Pins) (birth : ℕ) (old new : Tree) (graphs uploads : List Tree) (reads : List (List Tree)) (dead : List Dead)
    → IsLedger p v (old ∷ graphs) uploads reads dead
    → ((x : ℕ) → is_aside (mark_at p x) ≡ false)
    → Step (v.commit + 1) birth p q (occurrences old) (occurrences new)
    → IsTreeOf q (v.commit + 1) new
    → RetiresAside q r (v.commit + 1)
    → IsLedger r (at_commit v (v.commit + 1)) (new ∷ graphs) uploads reads (aside_dead (v.commit + 1) q ++ dead)

-- A Stage: an upload goes from `old` to `new` by a step in place, since no version has it.
abbrev pub StageKeeps : Type 0
StageKeeps =
    (p q : Nodes) (v : Pins) (birth : ℕ) (old new : Tree) (graphs uploads : List Tree) (reads : List (List Tree)) (dead : List Dead)
    → IsLedger p v graphs (old ∷ uploads) reads dead
    → Step 0 birth p q (occurrences old) (occurrences new)
    → IsTreeOf q (v.commit + 1) new
    → IsLedger q v graphs (new ∷ uploads) reads dead

-- A Pin: a seat reads current graphs, at the version of the last commit.
abbrev pub PinKeeps : Type 0
PinKeeps =
    (p : Nodes) (v : Pins) (graphs uploads : List Tree) (reads : List (List Tree)) (dead : List Dead) (s : ℕ) (ts : List Tree)
    → IsLedger p v graphs uploads reads dead
    → s < length v.seats → s < length reads → All (Contains graphs) ts
    → IsLedger p (with_pin v s (Some v.commit)) graphs uploads (slice_set reads s ts) dead

-- the end of a read: its seat has pinned nothing
abbrev pub UnpinKeeps : Type 0
UnpinKeeps =
    (p : Nodes) (v : Pins) (graphs uploads : List Tree) (reads : List (List Tree)) (dead : List Dead) (s : ℕ)
    → IsLedger p v graphs uploads reads dead → s < length v.seats
    → IsLedger p (with_pin v s None) graphs uploads reads dead

-- by a PUT or a Delete no more nodes join the waste than the graph had triples, each of which a version had
abbrev pub PutJoins : Type 0
PutJoins =
    (p q : Nodes) (v : Pins) (old new : Tree) (graphs uploads : List Tree) (reads : List (List Tree)) (dead : List Dead)
    → IsLedger p v (old ∷ graphs) (new ∷ uploads) reads dead
    → Buries p q (died_whole (v.commit + 1) old)
    → Joins (EndsAt (v.commit + 1)) (length (keys old)) (waste_at p) (waste_at q)

-- by a Cancel no more than the upload had triples, none of which a version had
abbrev pub CancelJoins : Type 0
CancelJoins =
    (p q : Nodes) (v : Pins) (old : Tree) (graphs uploads : List Tree) (reads : List (List Tree)) (dead : List Dead)
    → IsLedger p v graphs (old ∷ uploads) reads dead
    → Buries p q (died_whole 0 old)
    → Joins IsUnreached (length (keys old)) (waste_at p) (waste_at q)

-- by a POST or a PATCH no more than were replaced, each of which a version had
abbrev pub CopyJoins : Type 0
CopyJoins =
    (p q r : Nodes) (v : Pins) (birth : ℕ) (old new : Tree) (graphs uploads : List Tree) (reads : List (List Tree)) (dead : List Dead)
    → IsLedger p v (old ∷ graphs) uploads reads dead
    → ((x : ℕ) → is_aside (mark_at p x) ≡ false)
    → Step (v.commit + 1) birth p q (occurrences old) (occurrences new)
    → IsTreeOf q (v.commit + 1) new
    → RetiresAside q r (v.commit + 1)
    → Joins (EndsAt (v.commit + 1)) (aside_count q) (waste_at p) (waste_at r)
