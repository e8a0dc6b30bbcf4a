use Rattle.std.proofs.Common.{refl}
use Rattle.gs_world.specs.Walks.{LeavesSeat}
use Rattle.gs_world.proofs.CallLemmas.{changes_there, changes_absent}
use Rattle.gs_world.proofs.worlds.World.leave.Goals as goal

pub returns-in-Some : goal.returns-in-Some
returns-in-Some c =
    changes_there c.args.connection c.args.self.now _ c.in-Some.it.now c.leave.new.self LeavesSeat c.in-Some.ensures.item.3.0 c.in-Some.ensures.value refl c.leave.ensures

pub returns-in_default : goal.returns-in_default
returns-in_default c = changes_absent c.args.connection c.args.self.now _ LeavesSeat c.in_default.ensures.item.3 refl
