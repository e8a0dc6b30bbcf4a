use Rattle.std.proofs.Common.{refl}
use Rattle.gs_world.specs.Walks.{Apart, InputEnds}
use Rattle.gs_world.proofs.CallLemmas.{changes_there, changes_absent}
use Rattle.gs_world.proofs.worlds.World.end.Goals as goal

pub returns-in-Some : goal.returns-in-Some
returns-in-Some c =
    changes_there c.args.connection c.args.self.now _ c.in-Some.it.now c.end.new.self (Apart InputEnds) c.in-Some.ensures.item.3.0 c.in-Some.ensures.value refl (c.end.ensures, refl)

pub returns-in_default : goal.returns-in_default
returns-in_default c = changes_absent c.args.connection c.args.self.now _ (Apart InputEnds) c.in_default.ensures.item.3 refl
