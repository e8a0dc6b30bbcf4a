use Rattle.std.proofs.Common.{◌∙◌}
use Rattle.gs_reclaim.proofs.Following.{dead_kept, aside_kept}
use Rattle.gs_reclaim.proofs.Reclaiming.{agrees_still}
use Rattle.gs_records.proofs.Sweeping.{dead_stored}
use Rattle.gs_records.proofs.Finishing.{swept}
use Rattle.gs_records.proofs.reclaiming.reclaim.Goals as goal

pub free_unneeded-sweep-requires-clause-stored : goal.free_unneeded-sweep-requires-clause-stored
free_unneeded-sweep-requires-clause-stored c =
    let first = dead_kept c.args.pool.now c.follow_pins.new.pool c.follow_pins.ensures.nodes c.follow_pins.ensures.marks in
    record { opens = c.requires.stored.opens; latest = c.requires.stored.latest; stored = dead_stored c.args.index.now c.args.pool.now c.follow_pins.new.pool first c.requires.stored.opens c.requires.stored.latest c.requires.stored.stored }

pub returns-clause-swept : goal.returns-clause-swept
returns-clause-swept c =
    let first = dead_kept c.args.pool.now c.follow_pins.new.pool c.follow_pins.ensures.nodes c.follow_pins.ensures.marks in
    let swept_to = c.free_unneeded-sweep in
    swept c.args.versions.now c.args.index.now swept_to.new.index c.args.pool.now c.follow_pins.new.pool swept_to.new.pool c.restore.new.pool c.args.n swept_to.result.freed c.has_retired-left.result c.requires.stored first swept_to.ensures.sweeps swept_to.ensures.most swept_to.ensures.all (agrees_still c.args.versions.now c.follow_pins.new.pool swept_to.new.pool swept_to.ensures.pins c.follow_pins.ensures.agrees) c.restore.ensures.dead c.restore.ensures.none_aside c.nodes_in_use-all.ensures.unmarked c.has_retired-left.ensures

pub free_unneeded-sweep-requires-clause-none_aside : goal.free_unneeded-sweep-requires-clause-none_aside
free_unneeded-sweep-requires-clause-none_aside c = aside_kept c.args.pool.now c.follow_pins.new.pool c.follow_pins.ensures.marks ∙ c.requires.none_aside
