-- The lines of keys in a graph.
use Rattle.std.specs.Prelude.{ℕ, List, map}
use Rattle.std.specs.List.{concat}
use Rattle.gs_model.specs.Triples.{RdfTriple, line_of}
use Rattle.gs_term.specs.declared.names.Target.{Target}
use Rattle.gs_term.specs.declared.names.Target.TheVariants.{Default, Named}
use Rattle.gs_term.specs.Names.{quad_line_of}
use Rattle.gs_pool.specs.declared.nodes.Key.{Key}
use Rattle.gs_keys.specs.Texts.{Terms, triple_at}

-- the line of a triple in a graph: with the graph's name before its dot, if it has one
abbrev pub line_for : Target → RdfTriple → List ℕ
line_for Default t = line_of t
line_for (Named name) t = quad_line_of name t

-- the line of a key in a graph
abbrev pub line_in : Terms → Target → Key → List ℕ
line_in terms graph k = line_for graph (triple_at terms k)

-- the bytes of the lines of keys in a graph, one after another
abbrev pub bytes_in : Terms → Target → List Key → List ℕ
bytes_in terms graph ks = concat (map (line_in terms graph) ks)
