use Rattle.std.specs.Prelude.{◌≡◌, List, length, true}
use Rattle.std.specs.List.{All}
use Rattle.gs_event.specs.declared.answers.Answer.{Answer}
use Rattle.gs_gates.specs.Sweeps.{has_more, ReclaimsByEvents}
use Rattle.gs_gates.proofs.reclaimers.sweep.Given as goal

abbrev pub invariant-loop : goal.invariant-loop
invariant-loop g l =
    (answers : List Answer) × ReclaimsByEvents g.D.Door.Gives l.fn.door answers l.door × All (λ b. has_more b ≡ true) answers × (length answers ≡ l.counter)
