use Rattle.std.proofs.Common.{◌≡◌, ◌<◌, eqb, false, length, subst, arith}
use Rattle.std.proofs.lemmas.Bool.{eqb-false}
use Rattle.gs_transfer.specs.Places.{HasByteRoom}
use Rattle.gs_transfer.specs.declared.places.Place.{Place}
use Rattle.gs_transfer.proofs.PartLemmas.{data-part}
use Rattle.gs_transfer.proofs.places.Transfer.take_data.Goals as goal

pub returns : goal.returns
returns c =
    let t = c.args.self.now in
    let x = c.args.bytes.now in
    let some : eqb (length x) 0 ≡ false = cc in
    let room : 0 < c.args.left = subst (λ (p : Place). HasByteRoom p) c.requires t.room in
    data-part t.limit t.sum c.args.left c.at_hand-count.result x t.place c.data_place-self.result c.requires room (omega (arith, eqb-false (length x) 0 some)) c.at_hand-count.ensures
    (c.data_place-self.ensures.place t.sum)
