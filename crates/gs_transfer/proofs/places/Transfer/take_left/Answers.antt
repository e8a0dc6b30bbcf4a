use Rattle.std.proofs.Common.{◌≡◌, eqb, false, length, arith}
use Rattle.std.proofs.lemmas.Bool.{eqb-false}
use Rattle.gs_transfer.proofs.PartLemmas.{left-part}
use Rattle.gs_transfer.proofs.places.Transfer.take_left.Goals as goal

pub returns : goal.returns
returns c =
    let t = c.args.self.now in
    let x = c.args.bytes.now in
    let some : eqb (length x) 0 ≡ false = cc in
    left-part t.limit t.sum c.args.left c.at_hand-count.result x t.place c.requires (omega arith) (omega (arith, eqb-false (length x) 0 some)) c.at_hand-count.ensures
