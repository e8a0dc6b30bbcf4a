use Rattle.gs_triple_parser.proofs.StackLemmas.{stack_none}
use Rattle.gs_triple_parser.proofs.stacks.Stack.pop.Goals as goal

pub returns-in-None-clause-none : goal.returns-in-None-clause-none
returns-in-None-clause-none g c =
    stack_none g.L.Language.language c.args.self.now c.pop.new.self.items _ c.in-None.ensures.cases.0 c.pop.ensures.rest c.in-None.ensures.items
