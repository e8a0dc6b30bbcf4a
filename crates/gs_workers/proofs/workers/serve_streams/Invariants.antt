use Rattle.std.specs.Prelude.{ℕ}
use Rattle.gs_workers.specs.Attends.{ServesMany}
use Rattle.gs_workers.proofs.workers.serve_streams.Given as goal

abbrev pub invariant-loop : goal.invariant-loop
invariant-loop g l =
    (n : ℕ) × ServesMany (record { base = l.fn.plan.base.now; piece = l.fn.plan.piece }) g.D.Door.Gives l.fn.seat n l.fn.door l.door
