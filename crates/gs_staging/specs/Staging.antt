-- The tree of an upload, and how a list of triples goes into it.
use Rattle.std.specs.Prelude.{◌≡◌, ℕ, ◌+◌, List, map, Option}
use Rattle.gs_model.specs.Triples.{RdfTriple}
use Rattle.gs_model.specs.Graphs.{graph_of, with_triples, size_of}
use Rattle.gs_pool.specs.declared.nodes.Key.{Key}
use Rattle.gs_pool.specs.Pool.{Nodes}
use Rattle.gs_tree.specs.declared.unions.Merged.{Merged}
use Rattle.gs_tree.specs.Keys.{AllKeys}
use Rattle.gs_tree.specs.Reading.{keys_at}
use Rattle.gs_tree.specs.Sets.{IsSetAt, UnitesAt}
use Rattle.gs_keys.specs.Texts.{Terms, triple_at, key_cmp, IsGiven}
use Rattle.gs_keys.specs.Roots.{graph_of_root}

-- a root means a set of keys that can be changed, whose numbers all have terms
pub record IsStaged (terms : Terms) (p : Nodes) (root : Option ℕ) : Type 0 where
  pub set : IsSetAt (key_cmp terms) p root
  pub given : AllKeys (IsGiven terms) (keys_at p root)

-- among later terms a root is still staged, and stands for the same graph
pub record IsStillStaged (terms later : Terms) (p : Nodes) (root : Option ℕ) : Type 0 where
  pub staged : IsStaged later p root
  pub same : graph_of_root later p root ≡ graph_of_root terms p root

-- The triples went into the tree of a root: their keys are a run that was united with its set, in place, so that as many nodes more are in use as triples were new.
pub record Stages (birth : ℕ) (terms grown : Terms) (p q : Nodes) (root : Option ℕ) (ts : List RdfTriple) (m : Merged) : Type 0 where
  pub run : List Key
  pub run_graph : graph_of (map (triple_at grown) run) ≡ graph_of ts
  pub unites : UnitesAt (key_cmp grown) 0 birth p q root run m
  pub staged : IsStaged grown q m.root
  pub graph : graph_of_root grown q m.root ≡ with_triples (graph_of_root terms p root) ts
  pub added : size_of (graph_of_root grown q m.root) ≡ size_of (graph_of_root terms p root) + m.added
