-- What the operations of an update make of the tree of a graph.
use Rattle.std.specs.Prelude.{◌≡◌, ℕ, List, Option}
use Rattle.gs_event.specs.declared.updates.Op.{Op}
use Rattle.gs_event.specs.Updates.{updated, inserted_by, removed_by}
use Rattle.gs_pool.specs.Pool.{Nodes}
use Rattle.gs_changes.specs.Changes.{ChangesAt}
use Rattle.gs_keys.specs.Texts.{Terms, key_cmp}
use Rattle.gs_keys.specs.Roots.{graph_of_root}
use Rattle.gs_staging.specs.Staging.{IsStaged}
use Rattle.gs_patch.specs.declared.patches.Draft.{Draft}

-- The tree of a root became that of the draft, by one change: its graph is the update of the old one, and the draft counts the triples that came and went by each operation. The terms were `terms` before, and are `grown` now.
pub record Patches (birth : ℕ) (terms grown : Terms) (p q : Nodes) (root : Option ℕ) (ops : List Op) (d : Draft) : Type 0 where
  pub changes : ChangesAt (key_cmp grown) birth p q root d.root d.added d.removed
  pub staged : IsStaged grown q d.root
  pub graph : graph_of_root grown q d.root ≡ updated (graph_of_root terms p root) ops
  pub added : d.added ≡ inserted_by (graph_of_root terms p root) ops
  pub removed : d.removed ≡ removed_by (graph_of_root terms p root) ops
