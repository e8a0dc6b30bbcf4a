use Rattle.std.proofs.Common.{refl, subst}
use Rattle.std.proofs.lemmas.Result.{IfOk-from_err}
use Rattle.gs_world.specs.declared.connections.Connection.{Connection}
use Rattle.gs_world.specs.Walks.{Apart, Gets, LeavesSeat, IsLive}
use Rattle.gs_world.proofs.CallLemmas.{changes_there, changes_absent, always_err, gives_up}
use Rattle.gs_world.proofs.worlds.World.give.Goals as goal

pub returns-in-Ok-clause-ok : goal.returns-in-Ok-clause-ok
returns-in-Ok-clause-ok c =
    changes_there c.args.connection c.args.self.now _ c.in-Some.it.now c.give.new.self (Apart (Gets c.args.bytes.now)) c.in-Some.ensures.item.3.0 c.in-Some.ensures.value refl
    (c.in-Ok.ensures.given, refl)

pub returns-in-Err-clause-ok : goal.returns-in-Err-clause-ok
returns-in-Err-clause-ok c = IfOk-from_err c.give_up.result _ c.give_up.ensures.err

pub returns-in-Err-clause-err : goal.returns-in-Err-clause-err
returns-in-Err-clause-err c =
    always_err c.give_up.result
    (gives_up c.args.connection c.args.self.now _ c.in-Some.it.now c.give_up.new.it IsLive c.in-Some.ensures.item.3.0 c.in-Some.ensures.value refl c.in-Err.ensures.live
    (subst (λ (k : Connection). LeavesSeat k c.args.self.now.store c.give_up.new.it c.give_up.new.store) c.in-Err.ensures.refused c.give_up.ensures.left))

pub returns-in-None-clause-ok : goal.returns-in-None-clause-ok
returns-in-None-clause-ok c = changes_absent c.args.connection c.args.self.now _ (Apart (Gets c.args.bytes.now)) c.in-None.ensures.item.3 refl
