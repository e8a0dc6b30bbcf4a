-- Roots of a pool, where two lists of terms say the same of the keys of all its nodes.
use Rattle.std.proofs.Common.{◌≡◌, ℕ, Option, ap}
use Rattle.gs_model.specs.Graphs.{graph_of}
use Rattle.gs_pool.specs.Pool.{Nodes}
use Rattle.gs_tree.specs.Keys.{AllKeys}
use Rattle.gs_tree.specs.Reading.{keys_at}
use Rattle.gs_keys.specs.Texts.{Terms, AgreeOn}
use Rattle.gs_keys.specs.Roots.{graph_of_root, IsGraphAt, AgreeOnNodes}
use Rattle.gs_keys.proofs.RootLemmas.{triples_same, graph_same}
use Rattle.gs_keys.proofs.MarkLemmas.{keys_in_use}

module _ (terms later : Terms) (p : Nodes) (nodes : AgreeOnNodes terms later p) where
  -- the lists agree on all keys of a root
  pub keys_agree : (root : Option ℕ) → AllKeys (AgreeOn terms later) (keys_at p root)
  keys_agree root = keys_in_use p (AgreeOn terms later) nodes root

  -- a root's graph is the same
  pub graph_of_root_same : (root : Option ℕ) → graph_of_root later p root ≡ graph_of_root terms p root
  graph_of_root_same root = ap graph_of (triples_same terms later (keys_at p root) (keys_agree root))

  -- a root of a graph is one still
  pub graph_at_same : (root : Option ℕ) → IsGraphAt terms p root → IsGraphAt later p root
  graph_at_same root h = (graph_same terms later p root h (keys_agree root)).graph
