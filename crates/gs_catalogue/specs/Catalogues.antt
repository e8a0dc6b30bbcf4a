-- The versions of all graphs: that of the default graph, and one for each of finitely many names.
use Rattle.std.specs.Prelude.{ℕ, ◌+◌, List, Option, Some, None}
use Rattle.std.specs.List.{sum_by}
use Rattle.std.specs.FinMap as map
use Rattle.gs_term.specs.declared.names.Target.{Target}
use Rattle.gs_term.specs.declared.names.Target.TheVariants.{Default, Named}
use Rattle.gs_term.specs.Names.{name_cmp}
use Rattle.gs_catalogue.specs.declared.versions.GraphVersion.{GraphVersion}

-- the version of a graph with no triple: its tree has no node
abbrev pub empty_version : GraphVersion
empty_version = record { root = None; triples = 0 }

-- a version of the default graph, which is never missing, and one for each of finitely many names
pub record GraphVersions : Type 0 where
  pub unnamed : GraphVersion
  pub named : map.FinMap name_cmp GraphVersion

-- an empty default graph, and no graph with a name
abbrev pub no_versions : GraphVersions
no_versions = record { unnamed = empty_version; named = map.empty }

-- the version of a target's graph, where it is not missing
abbrev pub version_at : GraphVersions → Target → Option GraphVersion
version_at g Default = Some g.unnamed
version_at g (Named name) = map.get g.named name

-- the versions, with this one for the target
abbrev pub with_version : GraphVersions → Target → GraphVersion → GraphVersions
with_version g Default v = record { unnamed = v; named = g.named }
with_version g (Named name) v = record { unnamed = g.unnamed; named = map.insert g.named name v }

-- the versions without this name
abbrev pub without_name : GraphVersions → List ℕ → GraphVersions
without_name g name = record { unnamed = g.unnamed; named = map.remove g.named name }

-- how many names there are
abbrev pub name_count : GraphVersions → ℕ
name_count g = map.len g.named

-- how many triples all graphs have, by the count of each version
abbrev pub triple_count : GraphVersions → ℕ
triple_count g = g.unnamed.triples + sum_by (λ e. e.1.triples) (map.entries g.named)
