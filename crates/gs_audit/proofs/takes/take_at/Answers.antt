use Rattle.std.proofs.Common.{sym, ◌∙◌}
use Rattle.gs_model.specs.declared.refusals.Refusal.TheVariants.{NoMemory}
use Rattle.gs_audit.specs.Slots.{slot_phase, slot_count}
use Rattle.gs_audit.proofs.TakeLemmas.{refused_count}
use Rattle.gs_audit.proofs.takes.take_at.Goals as goal

pub returns-then-not-make_room-clause-count : goal.returns-then-not-make_room-clause-count
returns-then-not-make_room-clause-count g c =
    let slot = c.args.slot.now in
    c.make_room.ensures.count ∙ sym (refused_count (slot_phase slot) (slot_count slot) c.args.event.now NoMemory)
