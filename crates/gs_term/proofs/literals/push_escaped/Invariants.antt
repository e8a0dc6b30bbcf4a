use Rattle.std.proofs.Common.{◌≡◌, ◌++◌, take}
use Rattle.gs_model.specs.Terms.{escaped}
use Rattle.gs_term.proofs.literals.push_escaped.Given as goal

abbrev pub invariant-loop-b : goal.invariant-loop-b
invariant-loop-b l = l.bytes.items ≡ l.fn.bytes.items ++ escaped (take l.b-index l.lexical)
