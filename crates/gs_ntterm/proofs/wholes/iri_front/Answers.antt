use Rattle.std.proofs.Common.{ap, arith}
use Rattle.gs_model.specs.Triples.{is_iri}
use Rattle.gs_ntterm.proofs.WholeLemmas.{iri_canonical, is_iri_front}
use Rattle.gs_ntterm.proofs.wholes.iri_front.Goals as goal

pub of_canonical-requires : goal.of_canonical-requires
of_canonical-requires c = iri_canonical c.args.piece.now c.iri_len-n.result (c.iri_len-n.ensures (omega arith))

pub invariant_of-result : goal.invariant_of-result
invariant_of-result c = record { iri = ap is_iri (is_iri_front c.args.piece.now c.iri_len-n.result c.in_ok-term.term (c.iri_len-n.ensures (omega arith)) c.in_ok-term.ensures).term }

pub returns : goal.returns
returns c = is_iri_front c.args.piece.now c.iri_len-n.result c.in_ok-term.term (c.iri_len-n.ensures (omega arith)) c.in_ok-term.ensures
