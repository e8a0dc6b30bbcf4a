use Rattle.std.proofs.Common.{arith}
use Rattle.gs_automaton.proofs.SymbolLemmas.{front-nothing}
use Rattle.gs_automaton.proofs.symbols.front.Goals as goal

pub returns-then-text-eq0 : goal.returns-then-text-eq0
returns-then-text-eq0 c = front-nothing c.args.text.now (omega arith)
