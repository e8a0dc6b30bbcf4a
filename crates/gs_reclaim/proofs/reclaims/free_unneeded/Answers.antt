use Rattle.std.proofs.Common.{refl, ap, subst, arith, ◌∙◌}
use Rattle.gs_reclaim.specs.Reclaims.{SettlesNode}
use Rattle.gs_reclaim.proofs.Freeing.{can_free}
use Rattle.gs_reclaim.proofs.Reclaiming.{reclaims_none, reclaims_kept, reclaims_freed, ledger_now, died_before, agrees_still, lists_still, unlisted_use, in_use_falls}
use Rattle.gs_reclaim.proofs.reclaims.free_unneeded.Goals as goal

pub loop-freed-init : goal.loop-freed-init
loop-freed-init c = record {
  reclaims = reclaims_none c.args.versions.now c.args.pool.now c.requires.none_aside;
  pins = refl;
  most = omega arith;
  least = omega arith;
  cost = omega arith;
  aside = λ lists. c.requires.none_aside;
}

pub settle-requires-clause-can : goal.settle-requires-clause-can
settle-requires-clause-can c = can_free c.loop-freed.pool c.next_retired.new.self c.args.versions.now c.in-Some.entry (ledger_now c.args.versions.now c.args.pool.now c.loop-freed.pool c.requires.ledger c.loop-freed.invariant.reclaims.ledgers) c.in-Some.ensures.takes

pub settle-requires-clause-died : goal.settle-requires-clause-died
settle-requires-clause-died c = died_before c.loop-freed.pool c.args.versions.now c.in-Some.entry.id c.in-Some.entry.death c.in-Some.entry.whole (ledger_now c.args.versions.now c.args.pool.now c.loop-freed.pool c.requires.ledger c.loop-freed.invariant.reclaims.ledgers) c.in-Some.ensures.takes.was

pub settle-requires-clause-agrees : goal.settle-requires-clause-agrees
settle-requires-clause-agrees c = agrees_still c.args.versions.now c.args.pool.now c.next_retired.new.self (c.in-Some.ensures.pins ∙ c.loop-freed.invariant.pins) c.requires.agrees

pub loop-freed-preserved-then-settle : goal.loop-freed-preserved-then-settle
loop-freed-preserved-then-settle c = record {
  reclaims = reclaims_freed c.args.versions.now c.args.pool.now c.loop-freed.pool c.next_retired.new.self c.settle.new.pool c.loop-freed.freed c.in-Some.entry c.requires.ledger c.loop-freed.invariant.reclaims c.in-Some.ensures.takes (subst (SettlesNode c.args.versions.now c.next_retired.new.self c.settle.new.pool c.in-Some.entry) c.if-settle.true c.settle.ensures.settles);
  pins = c.settle.ensures.pins ∙ c.in-Some.ensures.pins ∙ c.loop-freed.invariant.pins;
  cost = omega (arith, c.loop-freed.invariant.cost, c.settle.ensures.counted, c.in-Some.ensures.loose, unlisted_use c.loop-freed.pool c.next_retired.new.self c.in-Some.entry c.in-Some.ensures.takes, c.saturating_add-looked.ensures);
  aside = λ lists. c.settle.ensures.aside (lists_still c.args.versions.now c.args.pool.now c.next_retired.new.self (c.in-Some.ensures.pins ∙ c.loop-freed.invariant.pins) lists) ∙ c.in-Some.ensures.aside ∙ c.loop-freed.invariant.aside lists;
  most = omega (arith, c.loop-freed-test.true);
  least = omega (arith, c.loop-freed.invariant.least, c.loop-freed-test.true, c.ranges.n.fits, c.saturating_add-looked.ensures);
}

pub loop-freed-preserved : goal.loop-freed-preserved
loop-freed-preserved c = record {
  reclaims = reclaims_kept c.args.versions.now c.args.pool.now c.loop-freed.pool c.next_retired.new.self c.settle.new.pool c.loop-freed.freed c.in-Some.entry c.requires.ledger c.loop-freed.invariant.reclaims c.in-Some.ensures.takes (subst (SettlesNode c.args.versions.now c.next_retired.new.self c.settle.new.pool c.in-Some.entry) c.if-settle.false c.settle.ensures.settles);
  pins = c.settle.ensures.pins ∙ c.in-Some.ensures.pins ∙ c.loop-freed.invariant.pins;
  cost = omega (arith, c.loop-freed.invariant.cost, c.settle.ensures.counted, c.in-Some.ensures.loose, unlisted_use c.loop-freed.pool c.next_retired.new.self c.in-Some.entry c.in-Some.ensures.takes, c.saturating_add-looked.ensures);
  aside = λ lists. c.settle.ensures.aside (lists_still c.args.versions.now c.args.pool.now c.next_retired.new.self (c.in-Some.ensures.pins ∙ c.loop-freed.invariant.pins) lists) ∙ c.in-Some.ensures.aside ∙ c.loop-freed.invariant.aside lists;
  most = c.loop-freed.invariant.most;
  least = omega (arith, c.loop-freed.invariant.least, c.loop-freed.invariant.most, c.ranges.n.fits, c.saturating_add-looked.ensures);
}

pub returns-in_default-clause-cost : goal.returns-in_default-clause-cost
returns-in_default-clause-cost c =
    let same = rw c.in_default.is at c.next_retired.ensures.takes in
    omega (arith, ap (λ p. p.loose) same, c.loop-freed.invariant.cost, in_use_falls c.args.versions.now c.args.pool.now c.loop-freed.pool c.loop-freed.freed c.requires.ledger c.loop-freed.invariant.reclaims)

pub returns-clause-cost : goal.returns-clause-cost
returns-clause-cost c = omega (arith, c.loop-freed.invariant.cost, in_use_falls c.args.versions.now c.args.pool.now c.loop-freed.pool c.loop-freed.freed c.requires.ledger c.loop-freed.invariant.reclaims)
