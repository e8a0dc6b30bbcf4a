use Rattle.std.proofs.Common.{ap, ◌∙◌, arith}
use Rattle.gs_automaton.proofs.TableLemmas.{has_bit, name_bit}
use Rattle.gs_automaton.proofs.runs.is_plain_name.Goals as goal

pub returns : goal.returns
returns c = ap (has_bit 1) c.from.ensures ∙ name_bit c.args.byte (omega arith)
