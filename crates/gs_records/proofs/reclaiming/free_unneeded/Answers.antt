use Rattle.std.proofs.Common.{refl, subst, arith, ◌∙◌}
use Rattle.gs_pool.specs.Pool.{is_aside}
use Rattle.gs_reclaim.proofs.Freeing.{same_count}
use Rattle.gs_reclaim.proofs.Reclaiming.{agrees_still, lists_still}
use Rattle.gs_records.specs.Sweeps.{SettlesNumber}
use Rattle.gs_records.proofs.Keeping.{used_within}
use Rattle.gs_records.proofs.Sweeping.{sweeps_none, sweeps_settled, sweeps_stayed}
use Rattle.gs_records.proofs.reclaiming.free_unneeded.Goals as goal

pub loop-freed-init : goal.loop-freed-init
loop-freed-init c = record {
  sweeps = sweeps_none c.args.versions.now.seats c.args.index.now c.args.pool.now c.requires.none_aside;
  limit = refl;
  pins = refl;
  most = omega arith;
  least = omega arith;
  cost = omega arith;
  aside = λ lists. c.requires.none_aside;
}

pub settle-requires-clause-agrees : goal.settle-requires-clause-agrees
settle-requires-clause-agrees c = agrees_still c.args.versions.now c.args.pool.now c.next_retired.new.self (c.in-Some.ensures.pins ∙ c.loop-freed.invariant.pins) c.requires.agrees

pub settle-requires-clause-lists : goal.settle-requires-clause-lists
settle-requires-clause-lists c = (c.loop-freed.invariant.sweeps.stored c.requires.stored.opens c.requires.stored.latest c.requires.stored.stored).lists

pub settle-requires-clause-within : goal.settle-requires-clause-within
settle-requires-clause-within c =
    let now = c.loop-freed.invariant.sweeps.stored c.requires.stored.opens c.requires.stored.latest c.requires.stored.stored in
    let used = c.in-Some.ensures.takes.used in
    used_within c.loop-freed.pool c.loop-freed.index c.in-Some.entry.id used.0.birth now.many (record { node = used.0; found = used.1; birth_is = refl })

pub loop-freed-preserved-then-settle : goal.loop-freed-preserved-then-settle
loop-freed-preserved-then-settle c =
    let freed = subst (SettlesNumber c.args.versions.now.seats c.loop-freed.index c.settle.new.index c.next_retired.new.self c.settle.new.pool c.in-Some.entry) c.if-settle.true c.settle.ensures.settles in
    record {
      sweeps = sweeps_settled c.args.versions.now.seats c.loop-freed.freed c.args.index.now c.loop-freed.index c.settle.new.index c.args.pool.now c.loop-freed.pool c.next_retired.new.self c.settle.new.pool c.in-Some.entry c.requires.stored c.loop-freed.invariant.sweeps c.in-Some.ensures.takes freed;
      limit = c.settle.ensures.limit ∙ c.in-Some.ensures.takes.marks.limit ∙ c.loop-freed.invariant.limit;
      pins = c.settle.ensures.pins ∙ c.in-Some.ensures.pins ∙ c.loop-freed.invariant.pins;
      most = omega (arith, c.loop-freed-test.true);
      least = omega (arith, c.loop-freed.invariant.least, c.loop-freed-test.true, c.ranges.n.fits, c.saturating_add-looked.ensures);
      cost = omega (arith, c.loop-freed.invariant.cost, c.settle.ensures.loose, c.in-Some.ensures.loose, c.saturating_add-looked.ensures);
      aside = λ lists. same_count is_aside refl c.settle.new.pool.marks c.next_retired.new.self.marks freed.3.marks ∙ c.in-Some.ensures.aside ∙ c.loop-freed.invariant.aside lists;
    }

pub loop-freed-preserved : goal.loop-freed-preserved
loop-freed-preserved c = record {
  sweeps = sweeps_stayed c.args.versions.now.seats c.loop-freed.freed c.args.index.now c.loop-freed.index c.settle.new.index c.args.pool.now c.loop-freed.pool c.next_retired.new.self c.settle.new.pool c.in-Some.entry c.loop-freed.invariant.sweeps c.in-Some.ensures.takes (subst (SettlesNumber c.args.versions.now.seats c.loop-freed.index c.settle.new.index c.next_retired.new.self c.settle.new.pool c.in-Some.entry) c.if-settle.false c.settle.ensures.settles);
  limit = c.settle.ensures.limit ∙ c.in-Some.ensures.takes.marks.limit ∙ c.loop-freed.invariant.limit;
  pins = c.settle.ensures.pins ∙ c.in-Some.ensures.pins ∙ c.loop-freed.invariant.pins;
  most = c.loop-freed.invariant.most;
  least = omega (arith, c.loop-freed.invariant.least, c.loop-freed.invariant.most, c.ranges.n.fits, c.saturating_add-looked.ensures);
  cost = omega (arith, c.loop-freed.invariant.cost, c.settle.ensures.loose, c.in-Some.ensures.loose, c.saturating_add-looked.ensures);
  aside = λ lists. c.settle.ensures.aside (lists_still c.args.versions.now c.args.pool.now c.next_retired.new.self (c.in-Some.ensures.pins ∙ c.loop-freed.invariant.pins) lists) c.if-settle.false ∙ c.in-Some.ensures.aside ∙ c.loop-freed.invariant.aside lists;
}
