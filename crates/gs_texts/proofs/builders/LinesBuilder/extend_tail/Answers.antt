use Rattle.gs_texts.proofs.BuildingLemmas.{holds_written, built_written}
use Rattle.gs_texts.proofs.builders.LinesBuilder.extend_tail.Goals as goal

pub invariant_of-self : goal.invariant_of-self
invariant_of-self c = holds_written c.push.result _ _ _ c.args.bytes.now _ _ _ _ c.push.ensures c.self.invariant

pub returns-clause-ok : goal.returns-clause-ok
returns-clause-ok c =
    rw (← c.self.view_is) (built_written c.push.result _ _ _ c.args.bytes.now _ _ c.push.ensures c.self.invariant.begun c.self.invariant.there)
