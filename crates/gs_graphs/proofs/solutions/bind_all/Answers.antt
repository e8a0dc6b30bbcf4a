use Rattle.gs_graphs.proofs.StepLemmas.{bind_next}
use Rattle.gs_graphs.proofs.solutions.bind_all.Goals as goal

pub loop-i-preserved : goal.loop-i-preserved
loop-i-preserved c =
    bind_next c.args.triples.now c.args.patterns.now c.args.choices.now c.loop-i.i c.loop-i.bound.items c.choose.new.bound.items _ _ c.in_ok-choose.field-0
    c.loop-i-test.true c.requires.few c.requires.chosen c.index-patterns-i.is c.index-triples-choice.is c.in_ok-choose.ensures c.loop-i.invariant
