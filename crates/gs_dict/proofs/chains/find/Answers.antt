use Rattle.std.proofs.Common.{sym, ◌∙◌}
use Rattle.std.proofs.lemmas.Bool.{false≢true}
use Rattle.gs_dict.proofs.ChainLemmas.{along_more}
use Rattle.gs_dict.proofs.chains.find.Goals as goal

pub loop-link-preserved : goal.loop-link-preserved
loop-link-preserved c =
    along_more _ _ _ _ _ c.loop-link.link c.requires.linked c.loop-link.invariant c.loop-link-test.true
    (λ has. false≢true (sym c.if-has.false ∙ c.has.ensures.1 has))
