use Rattle.gs_feeding.proofs.TextLemmas.{goes_on}
use Rattle.gs_feeding.proofs.texts.SeatText.go_on.Goals as goal

pub returns-in-Ok : goal.returns-in-Ok
returns-in-Ok c =
    goes_on c.args.self c.in-Fed.language c.in-Fed.reading c.feed_reading.new.reading c.args.text.now c.args.cut c.in-Ok.given.items c.in-Fed.is c.in-Ok.ensures
