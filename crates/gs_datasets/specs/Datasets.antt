-- The versions of all graphs stand for a dataset: the statements of laws.
use Rattle.std.specs.Prelude.{◌≡◌, is_some}
use Rattle.std.specs.Option.{option_map}
use Rattle.std.specs.List.{All}
use Rattle.gs_term.specs.declared.names.Target.{Target}
use Rattle.gs_event.specs.Datasets.{empty_dataset, graph_at, is_there, size_at, triples_in, names_in}
use Rattle.gs_pool.specs.Pool.{Nodes}
use Rattle.gs_keys.specs.Texts.{Terms}
use Rattle.gs_catalogue.specs.Catalogues.{GraphVersions, no_versions, version_at, name_count, triple_count}
use Rattle.gs_datasets.specs.Standing.{version_graph, dataset_at, all_versions, count_at, IsVersion}

-- a target's graph is that of its version, and is missing where the version is
abbrev pub GraphsAreOfVersions : Type 0
GraphsAreOfVersions = (terms : Terms) (p : Nodes) (g : GraphVersions) (t : Target) → graph_at (dataset_at terms p g) t ≡ option_map (version_graph terms p) (version_at g t)

-- so a target has a graph where it has a version
abbrev pub NoneIsMissing : Type 0
NoneIsMissing = (terms : Terms) (p : Nodes) (g : GraphVersions) (t : Target) → is_there (dataset_at terms p g) t ≡ is_some (version_at g t)

-- a target's graph has as many triples as its version says
abbrev pub SizesAreCounts : Type 0
SizesAreCounts = (terms : Terms) (p : Nodes) (g : GraphVersions) (t : Target) → All (IsVersion terms p) (all_versions g) → size_at (dataset_at terms p g) t ≡ count_at g t

-- all graphs have as many triples as all versions say
abbrev pub TriplesAreCounted : Type 0
TriplesAreCounted = (terms : Terms) (p : Nodes) (g : GraphVersions) → All (IsVersion terms p) (all_versions g) → triples_in (dataset_at terms p g) ≡ triple_count g

-- there are as many names of graphs as of versions
abbrev pub NamesAreCounted : Type 0
NamesAreCounted = (terms : Terms) (p : Nodes) (g : GraphVersions) → names_in (dataset_at terms p g) ≡ name_count g

-- the versions of a new store stand for the empty dataset, and are versions
pub record IsEmpty (terms : Terms) (p : Nodes) : Type 0 where
  pub dataset : dataset_at terms p no_versions ≡ empty_dataset
  pub versions : All (IsVersion terms p) (all_versions no_versions)

-- that is so over any terms and in any pool
abbrev pub NoVersions : Type 0
NoVersions = (terms : Terms) (p : Nodes) → IsEmpty terms p
