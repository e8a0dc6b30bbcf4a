use Rattle.std.proofs.Common.{◌∙◌, ap}
use Rattle.httparse.specs.Spans.{header_bytes}
use Rattle.http_header.specs.Token.{lowercase}
use Rattle.gs_http.proofs.FieldLemmas.{keep_next}
use Rattle.gs_http.proofs.fields.keep_fields.Goals as goal

pub loop-field-preserved : goal.loop-field-preserved
loop-field-preserved c =
    keep_next c.loop-field.kept c.add.new.kept (header_bytes c.args.head.now) c.args.fields.now c.loop-field.field-index (record { name = record { start = 0; end = 0 }; value = record { start = 0; end = 0 } }) c.in-Ok.name c.of-value.result c.in_ok-add.ensures c.loop-field-test.true c.loop-field.invariant (c.in-Ok.ensures.ok ∙ ap lowercase c.of.ensures) c.of-value.ensures
