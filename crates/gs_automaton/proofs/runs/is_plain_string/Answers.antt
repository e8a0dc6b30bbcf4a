use Rattle.std.proofs.Common.{ap, ◌∙◌, arith}
use Rattle.gs_automaton.proofs.TableLemmas.{has_bit, string_bit}
use Rattle.gs_automaton.proofs.runs.is_plain_string.Goals as goal

pub returns : goal.returns
returns c = ap (has_bit 4) c.from.ensures ∙ string_bit c.args.byte (omega arith)
