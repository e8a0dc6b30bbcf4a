use Rattle.std.proofs.Common.{refl, subst}
use Rattle.std.proofs.lemmas.Result.{on_ok_weaker}
use Rattle.gs_update_places.specs.Steps.{transition_at_place}
use Rattle.gs_update_places.specs.Places.{StepsBlock}
use Rattle.gs_update.proofs.PlaceLemmas.{moves_from}
use Rattle.gs_update.proofs.parser.UpdateParser.step.Goals as goal

pub returns-in-Some : goal.returns-in-Some
returns-in-Some c =
    let t = transition_at_place c.args.self.now.place c.args.symbol in
    let stepped = subst (λ o. StepsBlock c.args.self.now.place c.args.symbol o c.step_block.new.self) c.in-Some.is c.in_ok-turn.ensures in
    on_ok_weaker c.follow.result (moves_from c.args.self.now c.step_block.new.self c.follow.new.self t t refl) (c.follow.ensures t stepped)
