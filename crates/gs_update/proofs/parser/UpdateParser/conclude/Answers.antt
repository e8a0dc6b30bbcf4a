use Rattle.std.proofs.lemmas.Result.{on_ok_weaker}
use Rattle.gs_update.proofs.PlaceLemmas.{adds_on}
use Rattle.gs_update.proofs.parser.UpdateParser.conclude.Goals as goal

pub returns : goal.returns
returns c =
    on_ok_weaker c.stand.result
    (adds_on c.args.self.now c.add.new.self c.stand.new.self c.args.scope c.args.operation c.args.end c.in_ok-add.ensures.operations c.in_ok-add.ensures.last)
    c.stand.ensures
