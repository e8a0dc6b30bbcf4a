use Rattle.std.proofs.Common.{refl}
use Rattle.std.proofs.lemmas.Result.{IfOk-from_err}
use Rattle.gs_world.specs.Walks.{MovesOn, HasText}
use Rattle.gs_world.proofs.LeaveLemmas.{stops_leaves}
use Rattle.gs_world.proofs.CallLemmas.{changes_there, changes_absent, always_err, gives_up}
use Rattle.gs_world.proofs.worlds.World.turn.Goals as goal

pub returns-in-Ok-clause-ok : goal.returns-in-Ok-clause-ok
returns-in-Ok-clause-ok c =
    changes_there c.args.connection c.args.self.now _ c.in-Some.it.now c.turn.new.self MovesOn c.in-Some.ensures.item.3.0 c.in-Some.ensures.value refl c.in-Ok.ensures.moved

pub returns-in-Err-clause-ok : goal.returns-in-Err-clause-ok
returns-in-Err-clause-ok c = IfOk-from_err c.give_up.result _ c.give_up.ensures.err

pub returns-in-Err-clause-err : goal.returns-in-Err-clause-err
returns-in-Err-clause-err c =
    always_err c.give_up.result
    (gives_up c.args.connection c.args.self.now _ c.in-Some.it.now c.give_up.new.it HasText c.in-Some.ensures.item.3.0 c.in-Some.ensures.value refl
    (c.turn.new.self, c.turn.new.store, c.in-Err.ensures.refused)
    (stops_leaves c.in-Some.it.now c.turn.new.self c.give_up.new.it c.args.self.now.store c.turn.new.store c.give_up.new.store c.in-Err.ensures.refused c.give_up.ensures.left))

pub returns-in-None-clause-ok : goal.returns-in-None-clause-ok
returns-in-None-clause-ok c = changes_absent c.args.connection c.args.self.now _ MovesOn c.in-None.ensures.item.3 refl
