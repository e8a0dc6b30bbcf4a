-- The keys of the instances of patterns (SPARQL 1.1 Update, 21 March 2013, section 3.1.3.3).
use Rattle.std.specs.Prelude.{ℕ, List, Option}
use Rattle.std.specs.List.{filter}
use Rattle.gs_term.specs.declared.patterns.Pattern.{Pattern}
use Rattle.gs_event.specs.Solutions.{is_among, instances_of}
use Rattle.gs_pool.specs.declared.nodes.Key.{Key}
use Rattle.gs_pool.specs.Pool.{Nodes}
use Rattle.gs_tree.specs.Reading.{keys_at}
use Rattle.gs_keys.specs.Texts.{Terms, triple_at}
use Rattle.gs_keys.specs.Roots.{graph_of_root}

-- the keys of a root whose triples are instances of the patterns in its graph, in the root's order
abbrev pub instance_keys : Terms → Nodes → Option ℕ → List Pattern → List Key
instance_keys terms p root ps = filter (λ k. is_among (instances_of (graph_of_root terms p root) ps) (triple_at terms k)) (keys_at p root)
