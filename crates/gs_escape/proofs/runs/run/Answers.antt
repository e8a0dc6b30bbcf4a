use Rattle.std.proofs.Common.{◌≡◌, ◌∙◌, ◌+◌, sym, ap, arith, true, false, get_or, drop}
use Rattle.gs_escape.specs.Meanings.{stands}
use Rattle.gs_escape.proofs.RunLemmas.{rest_whole, run_of-stops, run_of-goes, run_of-ends}
use Rattle.gs_escape.proofs.runs.run.Goals as goal

pub returns-then-not-stands-clause-value : goal.returns-then-not-stands-clause-value
returns-then-not-stands-clause-value c =
    let no : stands c.args.form (get_or c.args.bytes.now c.loop-i.i 0) (drop (c.loop-i.i + 1) c.args.bytes.now) ≡ false = sym (ap (stands c.args.form (get_or c.args.bytes.now c.loop-i.i 0)) (rest_whole c.args.bytes.now (c.loop-i.i + 1))) ∙ sym c.stands.ensures ∙ c.if-not-stands.true in
    omega (arith, c.loop-i.invariant, run_of-stops c.args.form c.args.bytes.now c.loop-i.i c.loop-i-test.true no)

pub loop-i-preserved : goal.loop-i-preserved
loop-i-preserved c =
    let yes : stands c.args.form (get_or c.args.bytes.now c.loop-i.i 0) (drop (c.loop-i.i + 1) c.args.bytes.now) ≡ true = sym (ap (stands c.args.form (get_or c.args.bytes.now c.loop-i.i 0)) (rest_whole c.args.bytes.now (c.loop-i.i + 1))) ∙ sym c.stands.ensures ∙ c.if-not-stands.false in
    omega (arith, c.loop-i.invariant, run_of-goes c.args.form c.args.bytes.now c.loop-i.i c.loop-i-test.true yes)

pub returns-clause-value : goal.returns-clause-value
returns-clause-value c = omega (arith, c.loop-i.invariant, run_of-ends c.args.form c.args.bytes.now c.loop-i.i c.loop-i-test.false)
