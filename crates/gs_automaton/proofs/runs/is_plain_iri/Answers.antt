use Rattle.std.proofs.Common.{ap, ◌∙◌, arith}
use Rattle.gs_automaton.proofs.TableLemmas.{has_bit, iri_bit}
use Rattle.gs_automaton.proofs.runs.is_plain_iri.Goals as goal

pub returns : goal.returns
returns c = ap (has_bit 2) c.from.ensures ∙ iri_bit c.args.byte (omega arith)
