-- what is found so far is the term by the bindings that were looked at
use Rattle.std.proofs.Common.{◌≡◌, take, option_map}
use Rattle.gs_event.specs.Solutions.{term_for}
use Rattle.gs_graphs.specs.Solving.{bindings_of}
use Rattle.gs_graphs.proofs.solutions.term_for.Given as goal

abbrev pub invariant-loop-binding : goal.invariant-loop-binding
invariant-loop-binding l = option_map (λ t. t.now) l.found ≡ term_for (bindings_of (take l.binding-index l.bound)) l.name
