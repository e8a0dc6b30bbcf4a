-- When the nodes of graphs and uploads were born: what a store shows of it, by owners.
use Rattle.std.specs.Prelude.{ℕ, List, [], replicate, slice_index_or}
use Rattle.std.specs.Option.{unwrap_or}
use Rattle.std.specs.FinMap as map
use Rattle.gs_term.specs.Names.{name_cmp}
use Rattle.gs_term.specs.declared.names.Target.{Target}
use Rattle.gs_term.specs.declared.names.Target.TheVariants.{Default, Named}

-- the births of the nodes of the default graph, of each graph that has a name, and of each seat's upload, in any order
pub record NodeBirths : Type 0 where
  pub unnamed : List ℕ
  pub named : map.FinMap name_cmp (List ℕ)
  pub staged : List (List ℕ)

-- no graph has a node, and none of so many seats has an upload
abbrev pub no_births : ℕ → NodeBirths
no_births seats = record { unnamed = []; named = map.empty; staged = replicate seats [] }

-- the births of a target's graph, none where it is missing
abbrev pub births_at : NodeBirths → Target → List ℕ
births_at b Default = b.unnamed
births_at b (Named name) = unwrap_or (map.get b.named name) []

-- the births of a seat's upload, none where it has none
abbrev pub staged_births : NodeBirths → ℕ → List ℕ
staged_births b seat = slice_index_or b.staged seat []
