-- Datasets (RDF 1.1 Concepts, section 4), and their lines (N-Quads, 25 February 2014, section 2).
use Rattle.std.specs.Prelude.{ℕ, ◌+◌, Bool, true, List, [], ◌++◌, length, map as each, nat_eq, if◌then◌else◌, Option, Some, None, is_some}
use Rattle.std.specs.List.{sum_by, flat_map}
use Rattle.std.specs.FinMap as map
use Rattle.gs_model.specs.Graphs.{Graph, empty_graph, triples_of, lines_of, size_of}
use Rattle.gs_term.specs.Names.{name_cmp, quad_line_of}
use Rattle.gs_term.specs.declared.names.Target.{Target}
use Rattle.gs_term.specs.declared.names.Target.TheVariants.{Default, Named}
use Rattle.gs_event.specs.declared.events.Scope.{Scope}
use Rattle.gs_event.specs.declared.events.Scope.TheVariants.{One, All}

-- a default graph, which is never missing, and a graph for each of finitely many names
pub record Dataset : Type 0 where
  pub unnamed : Graph
  pub named : map.FinMap name_cmp Graph

-- an empty default graph, and no graph with a name
abbrev pub empty_dataset : Dataset
empty_dataset = record { unnamed = empty_graph; named = map.empty }

-- a target's graph, where it is not missing
abbrev pub graph_at : Dataset → Target → Option Graph
graph_at m Default = Some m.unnamed
graph_at m (Named name) = map.get m.named name

-- whether the target has a graph; the default graph is always there
abbrev pub is_there : Dataset → Target → Bool
is_there m t = is_some (graph_at m t)

-- the dataset in which the target's graph is g
abbrev pub with_graph : Dataset → Target → Graph → Dataset
with_graph m Default g = record { unnamed = g; named = m.named }
with_graph m (Named name) g = record { unnamed = m.unnamed; named = map.insert m.named name g }

-- the dataset without the target's graph: a name is taken out, the default graph is emptied
abbrev pub without_graph : Dataset → Target → Dataset
without_graph m Default = record { unnamed = empty_graph; named = m.named }
without_graph m (Named name) = record { unnamed = m.unnamed; named = map.remove m.named name }

-- the lines of a graph, none where it is missing
abbrev pub lines_if : Option Graph → List (List ℕ)
lines_if None = []
lines_if (Some g) = lines_of g

-- the lines of a target's graph, none where it is missing
abbrev pub lines_at : Dataset → Target → List (List ℕ)
lines_at m t = lines_if (graph_at m t)

-- the lines of a graph with a name, which stands in each of them
abbrev pub named_lines : List ℕ × Graph → List (List ℕ)
named_lines e = each (quad_line_of e.0) (triples_of e.1)

-- the lines of the default graph, and then those of the graphs with names, in the order of these
abbrev pub quads_of : Dataset → List (List ℕ)
quads_of m = lines_of m.unnamed ++ flat_map named_lines (map.entries m.named)

-- whether a scope can be read: a graph that is not missing, or the whole dataset, which is always there
abbrev pub has : Dataset → Scope → Bool
has m (One t) = is_there m t
has m All = true

-- the lines of a scope: of a graph, or of the whole dataset
abbrev pub lines_in : Dataset → Scope → List (List ℕ)
lines_in m (One t) = lines_at m t
lines_in m All = quads_of m

-- how many triples a target's graph has, one for each of its lines: 0 where it is missing
abbrev pub size_at : Dataset → Target → ℕ
size_at m t = length (lines_at m t)

-- how many triples all graphs have
abbrev pub triples_in : Dataset → ℕ
triples_in m = size_of m.unnamed + sum_by (λ e. size_of e.1) (map.entries m.named)

-- how many graphs have names
abbrev pub names_in : Dataset → ℕ
names_in m = map.len m.named

-- 1 for a graph that has a triple, and else 0
abbrev pub some_of : Graph → ℕ
some_of g = if nat_eq (size_of g) 0 then 0 else 1

-- how many records a store keeps of these graphs: one for each name, and one for a default graph that has a triple
abbrev pub records_in : Dataset → ℕ
records_in m = names_in m + some_of m.unnamed

-- how many nodes and records it keeps of them: a node for each triple, and the records
abbrev pub kept_in : Dataset → ℕ
kept_in m = triples_in m + records_in m

-- how many records it keeps of this target's graph
abbrev pub records_at : Dataset → Target → ℕ
records_at m Default = some_of m.unnamed
records_at m (Named name) = if is_there m (Named name) then 1 else 0

-- how many records a write opened and does not use, where g is the target's graph after it
abbrev pub unused_for : Target → Graph → ℕ
unused_for Default g = if nat_eq (size_of g) 0 then 1 else 0
unused_for (Named name) g = 0
