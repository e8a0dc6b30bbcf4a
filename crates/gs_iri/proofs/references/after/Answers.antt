use Rattle.std.proofs.Common.{◌<◌, ◌∙◌, ap, sym, arith}
use Rattle.std.specs.Prelude.{slice_get}
use Rattle.gs_iri.proofs.ReferenceLemmas.{boundary_after_first}
use Rattle.gs_iri.proofs.references.after.Goals as goal

pub range_from-requires : goal.range_from-requires
range_from-requires c =
    let low : c.in-Some.first.now < 128 = omega (arith, c.if-first-mark.true) in
    λ _. boundary_after_first c.args.text.now c.in-Some.first.now c.utf8.text (sym (ap (λ z. slice_get z 0) c.as_bytes.ensures.value) ∙ sym c.in-Some.ensures.value) low
