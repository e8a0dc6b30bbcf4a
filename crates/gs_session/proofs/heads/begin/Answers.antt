use Rattle.std.proofs.Common.{inl, inr, refl, sym, ◌∙◌}
use Rattle.gs_session.proofs.heads.begin.Goals as goal

pub returns-in-Ok : goal.returns-in-Ok
returns-in-Ok c = inl (inr (sym c.opens.ensures ∙ c.if-opens.false, (c.transfer_of-transfer.result, (refl, c.in-Ok.ensures), c.transfer_of-transfer.ensures)))
