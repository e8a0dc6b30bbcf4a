use Rattle.std.proofs.lemmas.Result.{on_ok_weaker}
use Rattle.gs_update_places.specs.Steps.{transition_at_place}
use Rattle.gs_update.proofs.PlaceLemmas.{led_there}
use Rattle.gs_update.proofs.parser.UpdateParser.pass.Goals as goal

pub returns : goal.returns
returns c = on_ok_weaker c.pass.result (led_there c.args.self.now c.pass.new.self (transition_at_place c.args.self.now.place c.args.symbol)) c.pass.ensures
