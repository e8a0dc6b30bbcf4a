use Rattle.gs_automaton.proofs.FrontLemmas.{last-ended}
use Rattle.gs_automaton.proofs.ways.ended.Goals as goal

pub returns : goal.returns
returns c = record { went = c.over_byte.ensures.went; last = λ _. last-ended c.args.text.now c.over_byte.result c.args.terminal c.over_byte.ensures.state }
