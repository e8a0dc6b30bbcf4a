-- What entries and pages show.
use Rattle.std.specs.Prelude.{List, map}
use Rattle.gs_chronicle.specs.declared.entries.Entry.{Entry}
use Rattle.gs_chronicle.specs.declared.requests.Request.{Request}
use Rattle.gs_chronicle.specs.Requests.{call_of}
use Rattle.gs_chronicle.specs.Pages.{Row}

-- an entry as it is seen
abbrev pub row_of : Entry → Row
row_of e = record { number = e.number; call = call_of e.seat e.request e.status }

-- what the store was asked by an entry's call, with all that it brought
abbrev pub entry_request : Entry → Request
entry_request e = e.request

-- entries as they are seen
abbrev pub rows_of : List Entry → List Row
rows_of es = map row_of es
