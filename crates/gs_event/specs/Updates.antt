-- What an update makes of a graph (SPARQL 1.1 Update, 21 March 2013, sections 3.1.1, 3.1.2 and 3.1.3.3).
use Rattle.std.specs.Prelude.{ℕ, ◌+◌, ◌-◌, not, List, [], ◌∷◌, Option, Some, None}
use Rattle.std.specs.List.{filter}
use Rattle.gs_model.specs.Triples.{RdfTriple}
use Rattle.gs_model.specs.Graphs.{Graph, empty_graph, graph_of, triples_of, with_triples, size_of}
use Rattle.gs_event.specs.declared.updates.Op.{Op}
use Rattle.gs_event.specs.declared.updates.Op.TheVariants.{Insert, DeleteData, DeleteWhere}
use Rattle.gs_event.specs.Solutions.{is_among, instances_of}

-- a graph without these triples; those that it does not have count for nothing
abbrev pub without_triples : Graph → List RdfTriple → Graph
without_triples g ts = graph_of (filter (λ t. not (is_among ts t)) (triples_of g))

-- what an operation makes of a graph: the union, the difference, or the graph without the instances of the patterns
-- under all their solutions
abbrev pub operated : Graph → Op → Graph
operated g (Insert ts) = with_triples g ts.items
operated g (DeleteData ts) = without_triples g ts.items
operated g (DeleteWhere ps) = without_triples g (instances_of g ps.items)

-- how many triples come to a graph by an operation
abbrev pub inserted_count : Graph → Op → ℕ
inserted_count g op = size_of (operated g op) - size_of g

-- how many triples go from a graph by an operation
abbrev pub removed : Graph → Op → ℕ
removed g op = size_of g - size_of (operated g op)

-- an update: its operations one after another, each on what the one before it left
abbrev pub updated : Graph → List Op → Graph
updated g [] = g
updated g (op ∷ ops) = updated (operated g op) ops

-- how many triples come to a graph by operations one after another, those too that go again
abbrev pub inserted_by : Graph → List Op → ℕ
inserted_by g [] = 0
inserted_by g (op ∷ ops) = inserted_count g op + inserted_by (operated g op) ops

-- how many triples go from a graph by operations one after another, those too that had come
abbrev pub removed_by : Graph → List Op → ℕ
removed_by g [] = 0
removed_by g (op ∷ ops) = removed g op + removed_by (operated g op) ops

-- an update of a graph that may be missing: an empty one then
abbrev pub patched : Option Graph → List Op → Graph
patched None ops = empty_graph
patched (Some g) ops = updated g ops
