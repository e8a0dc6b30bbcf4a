-- What a type says that names no cell and no store. Where one is named, the caller says which.
use Rattle.std.specs.Prelude.{[]}
use Rattle.atomic_table.specs.Seated.{TableId}
use Rattle.gs_event.specs.Histories.{Start, start_with}

-- the name of no cell
abbrev pub no_table : TableId
no_table = record { words = 0; slots = 0; views_name = 0; atom = 0; block = 0; offset = 0; slot_names = [] }

-- the beginning of a store that has no seat and holds nothing
abbrev pub no_start : Start
no_start = start_with 0 [] (record { triples = 0; names = 0 }) 0 0
