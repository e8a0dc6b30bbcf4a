-- The graphs of a version of the dataset.
use Rattle.std.specs.Prelude.{ℕ, Bool, if◌then◌else◌, List, [], ◌∷◌}
use Rattle.gs_term.specs.declared.names.Target.{Target}
use Rattle.gs_term.specs.declared.names.Target.TheVariants.{Default, Named}
use Rattle.gs_catalogue.specs.Catalogues.{GraphVersions, empty_version, no_versions, with_version, without_name}
use Rattle.gs_index.specs.declared.entries.Entry.{Entry}
use Rattle.gs_records.specs.Records.{Record, free, opened, unused, kept, has_at, is_current}

-- the versions, with that of a record where it is one and passes the test
abbrev pub with_record : (Entry → Bool) → Record → GraphVersions → GraphVersions
with_record test free g = g
with_record test opened g = g
with_record test unused g = g
with_record test (kept e) g = if test e then with_version g e.target e.version else g

-- the versions of the records that pass the test
abbrev pub graphs_where : (Entry → Bool) → List Record → GraphVersions
graphs_where test [] = no_versions
graphs_where test (r ∷ rs) = with_record test r (graphs_where test rs)

-- the versions of the graphs of version v of the dataset
abbrev pub graphs_at : ℕ → List Record → GraphVersions
graphs_at v rs = graphs_where (has_at v) rs

-- those of the records that have not died
abbrev pub current : List Record → GraphVersions
current rs = graphs_where is_current rs

-- the versions without the target's: a name is taken out, the default graph is empty
abbrev pub without_version : GraphVersions → Target → GraphVersions
without_version g Default = with_version g Default empty_version
without_version g (Named name) = without_name g name
