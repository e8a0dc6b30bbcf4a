-- One operation on the tree of a graph. No public clause cites this module.
use Rattle.std.specs.Prelude.{◌≡◌, ℕ, List, Option}
use Rattle.gs_model.specs.Triples.{RdfTriple}
use Rattle.gs_model.specs.Graphs.{Graph, with_triples}
use Rattle.gs_event.specs.declared.updates.Op.{Op}
use Rattle.gs_event.specs.Updates.{without_triples, operated, inserted_count}
use Rattle.gs_event.specs.Updates as event
use Rattle.gs_pool.specs.Pool.{Nodes}
use Rattle.gs_tree.specs.declared.unions.Merged.{Merged}
use Rattle.gs_changes.specs.declared.removals.Pruned.{Pruned}
use Rattle.gs_changes.specs.Changes.{ChangesAt}
use Rattle.gs_keys.specs.Texts.{Terms, key_cmp}
use Rattle.gs_keys.specs.Roots.{graph_of_root}
use Rattle.gs_staging.specs.Staging.{IsStaged}
use Rattle.gs_patch.specs.declared.operations.Operated.{Operated}

-- the tree of a root became that of the root new, whose graph is g: so many keys went in, and so many out
pub record BecomesGraph (birth : ℕ) (grown : Terms) (p q : Nodes) (root new : Option ℕ) (added removed : ℕ) (g : Graph) : Type 0 where
  pub changes : ChangesAt (key_cmp grown) birth p q root new added removed
  pub staged : IsStaged grown q new
  pub graph : graph_of_root grown q new ≡ g

-- it gained these triples, its terms being given numbers
abbrev pub GainsTriples : ℕ → Terms → Terms → Nodes → Nodes → Option ℕ → List RdfTriple → Merged → Type 0
GainsTriples birth terms grown p q root ts m = BecomesGraph birth grown p q root m.root m.added 0 (with_triples (graph_of_root terms p root) ts)

-- it lost these triples
abbrev pub LosesTriples : ℕ → Terms → Nodes → Nodes → Option ℕ → List RdfTriple → Pruned → Type 0
LosesTriples birth terms p q root ts m = BecomesGraph birth terms p q root m.root 0 m.removed (without_triples (graph_of_root terms p root) ts)

-- it became that of the root new, by some keys that went in and out
abbrev pub ChangesSome : ℕ → Terms → Nodes → Nodes → Option ℕ → Option ℕ → Type 0
ChangesSome birth grown p q root new = (added : ℕ) × (removed : ℕ) × ChangesAt (key_cmp grown) birth p q root new added removed

-- an operation was done: the keys that went in and out are the triples that came and went by it
pub record Operates (birth : ℕ) (terms grown : Terms) (p q : Nodes) (root : Option ℕ) (op : Op) (m : Operated) : Type 0 where
  pub becomes : BecomesGraph birth grown p q root m.root m.added m.removed (operated (graph_of_root terms p root) op)
  pub added : m.added ≡ inserted_count (graph_of_root terms p root) op
  pub removed : m.removed ≡ event.removed (graph_of_root terms p root) op
