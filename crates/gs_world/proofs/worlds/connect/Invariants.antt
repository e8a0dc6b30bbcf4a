use Rattle.std.proofs.Common.{◌≤◌}
use Rattle.gs_world.specs.Worlds.{AreFresh}
use Rattle.gs_world.proofs.worlds.connect.Given as goal

abbrev pub invariant-loop-seat : goal.invariant-loop-seat
invariant-loop-seat l = AreFresh (record { base = l.fn.base; piece = l.fn.piece }) l.seat l.list.items × (l.seat ≤ l.fn.count)
