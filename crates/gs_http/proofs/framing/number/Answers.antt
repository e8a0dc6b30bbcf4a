use Rattle.gs_http.proofs.NumberLemmas.{digit_at, digit_more}
use Rattle.gs_http.proofs.framing.number.Goals as goal

pub loop-c-preserved : goal.loop-c-preserved
loop-c-preserved c =
    let digit = digit_at c.args.value.now c.requires c.loop-c.c-index c.loop-c-test.true in
    digit_more c.args.value.now c.loop-c.c-index c.loop-c.n c.saturating_mul.result c.saturating_add-n.result c.loop-c-test.true digit.0 digit.1 c.loop-c.invariant c.saturating_mul.ensures c.saturating_add-n.ensures
