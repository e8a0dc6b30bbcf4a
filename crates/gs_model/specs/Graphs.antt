-- Graphs (RDF 1.1 Concepts, section 3) as finite sets of triples, and their lines.
use Rattle.std.specs.Prelude.{ℕ, List, ◌++◌, length, map as map_each}
use Rattle.std.specs.FinMap as map
use Rattle.gs_model.specs.Triples.{RdfTriple, triple_cmp, line_of}

-- a finite set of triples: a finite map with nothing at each triple
abbrev pub Graph : Type 0
Graph = map.FinMap triple_cmp (Unit {0})

-- the graph without a triple
abbrev pub empty_graph : Graph
empty_graph = map.empty

-- a graph's triples, each once, in their order
abbrev pub triples_of : Graph → List RdfTriple
triples_of g = map.keys g

-- a triple as an entry of the map
abbrev pub as_entry : RdfTriple → RdfTriple × Unit {0}
as_entry t = (t, tt)

-- the graph of these triples, in any order and with repeats
abbrev pub graph_of : List RdfTriple → Graph
graph_of ts = map.from_entries (map_each as_entry ts)

-- the graph with these triples too
abbrev pub with_triples : Graph → List RdfTriple → Graph
with_triples g ts = graph_of (triples_of g ++ ts)

-- the lines of a graph, each once, in the order of their triples
abbrev pub lines_of : Graph → List (List ℕ)
lines_of g = map_each line_of (triples_of g)

-- how many triples a graph has
abbrev pub size_of : Graph → ℕ
size_of g = length (triples_of g)
