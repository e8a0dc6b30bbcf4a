use Rattle.std.proofs.Common.{sym, ◌∙◌}
use Rattle.gs_plain.proofs.RowLemmas.{newest_none, newest_step, newest_end, derived_eq}
use Rattle.gs_plain.proofs.books.newest.Goals as goal
use Rattle.gs_plain.proofs.books.newest.Goals.{then-eq+then-is_some, then-eq+else-is_some, else-eq}

pub loop-i-init : goal.loop-i-init
loop-i-init c = newest_none c.args.rows.now c.args.target.now

pub loop-i-preserved : goal.loop-i-preserved
loop-i-preserved c =
    let rows = c.args.rows.now in
    let row = c.index-rows-i.result in
    let same = sym (derived_eq row.target c.args.target.now) ∙ sym c.eq.ensures in
    let next = newest_step rows c.loop-i.i row c.args.target.now c.loop-i.found c.eq.result c.loop-i-test.true c.index-rows-i.is same c.loop-i.invariant in
    elim c.if-eq.branch [
      | then-eq+then-is_some w ↦ rw w.found-is (rw (w.if-eq.true, sym w.is_some.ensures ∙ w.if-is_some.true) at next)
      | then-eq+else-is_some w ↦ rw w.found-is (rw (w.if-eq.true, sym w.is_some.ensures ∙ w.if-is_some.false) at next)
      | else-eq w ↦ rw w.found-is (rw w.if-eq.false at next)
    ]

pub returns : goal.returns
returns c = newest_end c.args.rows.now c.loop-i.i c.args.target.now c.loop-i.found c.loop-i-test.false c.loop-i.invariant
