-- How the lines of all graphs stand in a dataset's lines: in which order, and that nothing else is among them (N-Quads, 25 February 2014,
-- section 2, which leaves the order open).
use Rattle.std.specs.Prelude.{◌≡◌, ℕ, List, ◌++◌, length, map as each, Some}
use Rattle.std.specs.List.{All, Contains}
use Rattle.std.specs.declared.cmp.Ordering.TheVariants.{Less}
use Rattle.gs_model.specs.Triples.{RdfTriple}
use Rattle.gs_model.specs.Graphs.{Graph, triples_of, lines_of}
use Rattle.gs_term.specs.Names.{name_cmp, quad_line_of}
use Rattle.gs_term.specs.declared.names.Target.TheVariants.{Named}
use Rattle.gs_event.specs.Datasets.{Dataset, graph_at, quads_of, triples_in}

-- the line of a triple that a named graph of the dataset has
pub record IsNamedLine (m : Dataset) (line : List ℕ) : Type 0 where
  pub name : List ℕ
  pub graph : Graph
  pub triple : RdfTriple
  pub there : graph_at m (Named name) ≡ Some graph
  pub within : Contains (triples_of graph) triple
  pub written : line ≡ quad_line_of name triple

-- The default graph's lines are first, and all the rest are lines of named graphs.
pub record DefaultIsFirst (m : Dataset) : Type 0 where
  pub rest : List (List ℕ)
  pub whole : quads_of m ≡ lines_of m.unnamed ++ rest
  pub named : All (IsNamedLine m) rest

-- among the lines are those of a graph of the name a, in a row, and after them those of one of the name b, in a row
pub record StandInOrder (a b : List ℕ) (g h : Graph) (lines : List (List ℕ)) : Type 0 where
  pub front : List (List ℕ)
  pub between : List (List ℕ)
  pub back : List (List ℕ)
  pub whole : lines ≡ front ++ each (quad_line_of a) (triples_of g) ++ between ++ each (quad_line_of b) (triples_of h) ++ back

-- Named graphs stand in the order of the bytes of their names, with the brackets.
abbrev pub NamedAreInOrder : Type 0
NamedAreInOrder = (m : Dataset) (a b : List ℕ) (g h : Graph) → graph_at m (Named a) ≡ Some g → graph_at m (Named b) ≡ Some h
    → name_cmp a b ≡ Less → StandInOrder a b g h (quads_of m)

-- There are as many lines as triples.
abbrev pub LinesAreAsManyAsTriples : Type 0
LinesAreAsManyAsTriples = (m : Dataset) → length (quads_of m) ≡ triples_in m
