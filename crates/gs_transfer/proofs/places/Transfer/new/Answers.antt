use Rattle.std.proofs.Common.{ap}
use Rattle.gs_transfer.specs.States.{TransferState}
use Rattle.gs_transfer.specs.Cuts.{cut_from, body_at}
use Rattle.gs_transfer.proofs.places.Transfer.new.Goals as goal

pub returns : goal.returns
unfolding body_at
returns c = λ x. ap (λ (s : TransferState). cut_from c.args.limit s x) c.first_place-place.ensures.place
