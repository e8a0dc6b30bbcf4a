use Rattle.std.proofs.Common.{map, take}
use Rattle.httparse.specs.Spans.{header_bytes}
use Rattle.gs_http.specs.Fields.{KeepsFields}
use Rattle.gs_http.proofs.fields.keep_fields.Given as goal

abbrev pub invariant-loop-field : goal.invariant-loop-field
invariant-loop-field l = KeepsFields l.kept (map (header_bytes l.head) (take l.field-index l.fields))
