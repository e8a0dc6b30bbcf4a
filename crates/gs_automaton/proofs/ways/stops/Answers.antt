use Rattle.std.proofs.Common.{sym, ◌∙◌, arith}
use Rattle.gs_automaton.proofs.FrontLemmas.{last-stop}
use Rattle.gs_automaton.proofs.ways.stops.Goals as goal

pub returns-then-scan-text : goal.returns-then-scan-text
returns-then-scan-text c h = last-stop c.args.text.now c.args.scan (c.ends_at_stop.ensures c.if-ends_at_stop.true) (omega arith) (sym c.is_stop.ensures ∙ h)
