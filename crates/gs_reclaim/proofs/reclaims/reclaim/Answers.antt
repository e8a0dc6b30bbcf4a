use Rattle.std.proofs.Common.{◌∙◌}
use Rattle.gs_reclaim.proofs.Following.{dead_kept, aside_kept}
use Rattle.gs_reclaim.proofs.Reclaiming.{reclaims_after, ledger_after, agrees_still}
use Rattle.gs_reclaim.proofs.Ending.{ended_ledgers, ended_waste, ended_in_use}
use Rattle.gs_reclaim.proofs.reclaims.reclaim.Goals as goal

pub free_unneeded-swept-requires-clause-ledger : goal.free_unneeded-swept-requires-clause-ledger
free_unneeded-swept-requires-clause-ledger c =
    let first = dead_kept c.args.pool.now c.follow_pins.new.pool c.follow_pins.ensures.nodes c.follow_pins.ensures.marks in
    ledger_after c.args.versions.now c.args.pool.now c.follow_pins.new.pool c.requires.ledger first

pub free_unneeded-swept-requires-clause-none_aside : goal.free_unneeded-swept-requires-clause-none_aside
free_unneeded-swept-requires-clause-none_aside c = aside_kept c.args.pool.now c.follow_pins.new.pool c.follow_pins.ensures.marks ∙ c.requires.none_aside

pub returns-clause-waste : goal.returns-clause-waste
returns-clause-waste c =
    let first = dead_kept c.args.pool.now c.follow_pins.new.pool c.follow_pins.ensures.nodes c.follow_pins.ensures.marks in
    ended_waste c.args.versions.now c.args.pool.now c.free_unneeded-swept.new.pool c.restore.new.pool c.args.n c.free_unneeded-swept.result.freed c.has_retired-left.result c.requires.ledger (reclaims_after c.args.versions.now c.args.pool.now c.follow_pins.new.pool c.free_unneeded-swept.new.pool c.free_unneeded-swept.result.freed c.requires.ledger first c.free_unneeded-swept.ensures.reclaims) c.free_unneeded-swept.ensures.most c.free_unneeded-swept.ensures.all (agrees_still c.args.versions.now c.follow_pins.new.pool c.free_unneeded-swept.new.pool c.free_unneeded-swept.ensures.pins c.follow_pins.ensures.agrees) c.restore.ensures.dead c.restore.ensures.none_aside c.has_retired-left.ensures

pub returns-clause-ledgers : goal.returns-clause-ledgers
returns-clause-ledgers c =
    let first = dead_kept c.args.pool.now c.follow_pins.new.pool c.follow_pins.ensures.nodes c.follow_pins.ensures.marks in
    ended_ledgers c.args.versions.now c.args.pool.now c.free_unneeded-swept.new.pool c.restore.new.pool c.args.n c.free_unneeded-swept.result.freed c.has_retired-left.result c.requires.ledger (reclaims_after c.args.versions.now c.args.pool.now c.follow_pins.new.pool c.free_unneeded-swept.new.pool c.free_unneeded-swept.result.freed c.requires.ledger first c.free_unneeded-swept.ensures.reclaims) c.free_unneeded-swept.ensures.most c.free_unneeded-swept.ensures.all (agrees_still c.args.versions.now c.follow_pins.new.pool c.free_unneeded-swept.new.pool c.free_unneeded-swept.ensures.pins c.follow_pins.ensures.agrees) c.restore.ensures.dead

pub returns-clause-in_use : goal.returns-clause-in_use
returns-clause-in_use c =
    let first = dead_kept c.args.pool.now c.follow_pins.new.pool c.follow_pins.ensures.nodes c.follow_pins.ensures.marks in
    ended_in_use c.args.versions.now c.args.pool.now c.free_unneeded-swept.new.pool c.restore.new.pool c.args.n c.free_unneeded-swept.result.freed c.has_retired-left.result c.requires.ledger (reclaims_after c.args.versions.now c.args.pool.now c.follow_pins.new.pool c.free_unneeded-swept.new.pool c.free_unneeded-swept.result.freed c.requires.ledger first c.free_unneeded-swept.ensures.reclaims) c.free_unneeded-swept.ensures.most c.free_unneeded-swept.ensures.all (agrees_still c.args.versions.now c.follow_pins.new.pool c.free_unneeded-swept.new.pool c.free_unneeded-swept.ensures.pins c.follow_pins.ensures.agrees) c.restore.ensures.dead
