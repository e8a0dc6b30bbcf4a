use Rattle.std.proofs.Common.{take}
use Rattle.gs_world.specs.Walks.{WalksAll}
use Rattle.gs_world.proofs.worlds.World.run.Given as goal

abbrev pub invariant-loop-step : goal.invariant-loop-step
invariant-loop-step l = WalksAll l.fn.self (take l.step-index l.fn.steps) l.self
