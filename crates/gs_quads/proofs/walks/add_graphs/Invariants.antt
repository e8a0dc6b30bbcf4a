-- the places of the graphs so far are added
use Rattle.std.proofs.Common.{take}
use Rattle.gs_quads.specs.Found.{all_graphs, FindsMore}
use Rattle.gs_quads.proofs.walks.add_graphs.Given as goal

abbrev pub invariant-loop-number : goal.invariant-loop-number
invariant-loop-number l = FindsMore l.source l.most l.fn.found l.found (all_graphs l.source (take l.number-index l.numbers))
