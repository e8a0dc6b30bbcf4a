use Rattle.std.proofs.Common.{◌≡◌}
use Rattle.std.specs.Prelude.{replicate}
use Rattle.gs_audit.specs.declared.slots.Slot.TheVariants.{Empty}
use Rattle.gs_audit.proofs.audited.empty_slots.Given as goal

abbrev pub invariant-loop : goal.invariant-loop
invariant-loop l = l.slots.items ≡ replicate l.counter Empty
