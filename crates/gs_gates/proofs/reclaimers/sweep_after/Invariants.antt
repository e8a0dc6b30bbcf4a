use Rattle.std.specs.Prelude.{ℕ}
use Rattle.gs_gates.specs.Sweeps.{SweepsMany}
use Rattle.gs_gates.proofs.reclaimers.sweep_after.Given as goal

abbrev pub invariant-loop : goal.invariant-loop
invariant-loop g l = (n : ℕ) × SweepsMany g.D.Door.Gives n l.fn.door l.door
