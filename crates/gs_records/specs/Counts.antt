-- How many names and triples the graphs of now have, as they are counted beside the records. No public clause cites this module.
use Rattle.std.specs.Prelude.{◌≡◌, ℕ, List}
use Rattle.gs_term.specs.declared.names.Target.{Target}
use Rattle.gs_term.specs.declared.names.Target.TheVariants.{Default, Named}
use Rattle.gs_pool.specs.Pool.{Nodes, aside_count}
use Rattle.gs_catalogue.specs.Catalogues.{name_count, triple_count}
use Rattle.gs_index.specs.Indexes.{Indexed}
use Rattle.gs_records.specs.Records.{Record}
use Rattle.gs_records.specs.Graphs.{current}
use Rattle.gs_records.specs.Stored.{records_by, IsStored}
use Rattle.gs_records.specs.Versions.{AreVersions}

-- 1 for a graph with a name
abbrev pub named_one : Target → ℕ
named_one Default = 0
named_one (Named name) = 1

-- the names of now, and the triples
pub record AreCounted (rs : List Record) (names triples : ℕ) : Type 0 where
  pub names_are : names ≡ name_count (current rs)
  pub triples_are : triples ≡ triple_count (current rs)

-- records are stored and counted, each is of a version of a graph, and no node is set aside
pub record IsKept (x : Indexed) (p : Nodes) (opens latest names triples : ℕ) : Type 0 where
  pub stored : IsStored x p opens latest
  pub none_aside : aside_count p ≡ 0
  pub versions : AreVersions (records_by x p)
  pub counted : AreCounted (records_by x p) names triples
