use Rattle.std.proofs.Common.{[], ◌∷◌}
use Rattle.gs_pass.proofs.ClaimLemmas.{stamp_of-words}
use Rattle.gs_pass.proofs.stamp_logs.words.Goals as goal

pub returns : goal.returns
returns c =
    stamp_of-words _ c.args.seat c.args.receipt (λ i. c.args.receipt.number ∷ c.from.ensures i ∷ c.code.ensures i ∷ c.from-2.ensures i ∷ [])
