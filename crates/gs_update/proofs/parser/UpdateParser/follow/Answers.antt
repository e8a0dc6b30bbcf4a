use Rattle.std.proofs.Common.{subst}
use Rattle.std.proofs.lemmas.Result.{on_ok_weaker}
use Rattle.gs_update_places.specs.Places.{Follows}
use Rattle.gs_update.specs.Steps.{Moves}
use Rattle.gs_update.proofs.PlaceLemmas.{led_there}
use Rattle.gs_update.proofs.parser.UpdateParser.follow.Goals as goal

pub returns-in-Takes : goal.returns-in-Takes
returns-in-Takes c = λ t h. led_there c.args.self.now c.args.self.now.place t (subst (λ u. Follows t u c.args.self.now.place) c.in-Takes.is h)

pub returns-in-Shuts : goal.returns-in-Shuts
returns-in-Shuts c = λ t h.
    on_ok_weaker c.shut.result (subst (Moves c.args.self.now c.shut.new.self) (subst (λ u. Follows t u c.args.self.now.place) c.in-Shuts.is h)) c.shut.ensures

pub returns-in-Stops : goal.returns-in-Stops
returns-in-Stops c = λ t h.
    on_ok_weaker c.stop.result (subst (Moves c.args.self.now c.stop.new.self) (subst (λ u. Follows t u c.args.self.now.place) c.in-Stops.is h)) c.stop.ensures
