-- An upload, as a page stores it: what it was for, and what was staged to it.
use Rattle.std.specs.Prelude.{ℕ, List, Option}
use Rattle.gs_model.specs.Triples.{RdfTriple}
use Rattle.gs_model.specs.Graphs.{Graph, graph_of}
use Rattle.gs_event.specs.declared.events.UploadKind.{UploadKind}
use Rattle.gs_chronicle.specs.KeptLists.{all_triples}
use Rattle.gs_chronicle.specs.declared.uploads.Upload.{Upload}

-- what it did to its target
abbrev pub upload_kind : Upload → UploadKind
upload_kind u = u.kind

-- its request number
abbrev pub upload_request : Upload → ℕ
upload_request u = u.request

-- the number of the commit since which its target must not have been written, if there is one
abbrev pub upload_since : Upload → Option ℕ
upload_since u = u.since

-- the triples that were staged, in the order in which they came, with repeats
abbrev pub staged_triples : Upload → List RdfTriple
staged_triples u = all_triples u.lists.items

-- the graph of all that was staged
abbrev pub staged_graph : Upload → Graph
staged_graph u = graph_of (staged_triples u)
