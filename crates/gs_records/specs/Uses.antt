-- How many numbers of records are in use.
use Rattle.std.specs.Prelude.{◌≡◌, ℕ, ◌+◌, List, length, Some}
use Rattle.gs_term.specs.declared.names.Target.TheVariants.{Default}
use Rattle.gs_catalogue.specs.Catalogues.{GraphVersions, name_count}
use Rattle.gs_records.specs.Records.{Record}
use Rattle.gs_records.specs.Graphs.{current}
use Rattle.gs_records.specs.Waste.{waste_in, open_count, used_count}
use Rattle.gs_records.specs.Calls.{records_for}

-- how many records there are of these graphs: one for each name, and one for a default graph that is not empty
abbrev pub records_of_graphs : GraphVersions → ℕ
records_of_graphs g = name_count g + records_for Default (Some g.unnamed)

-- those of the graphs of now, the open ones, and the waste
abbrev pub AreUsed : List Record → Type 0
AreUsed rs = used_count rs ≡ records_of_graphs (current rs) + open_count rs + length (waste_in rs)
