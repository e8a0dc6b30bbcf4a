use Rattle.std.proofs.Common.{take, refl, arith}
use Rattle.gs_model.specs.Texts.{term_of}
use Rattle.gs_ntterm.specs.Wholes.{IriFront, LabelFront}
use Rattle.gs_ntterm.proofs.WholeLemmas.{iri_canonical, is_iri_front}
use Rattle.gs_ntread.proofs.WholeRuns.{iri_subject}
use Rattle.gs_ntread.proofs.LineRuns.{label_subject, iri_kind}
use Rattle.gs_ntread.proofs.lines.subject_front.Goals as goal

pub returns-then-n-gt0 : goal.returns-then-n-gt0
returns-then-n-gt0 c =
    let x = c.args.piece.now in
    let n = c.iri_len-n.result in
    let f : IriFront x n = c.iri_len-n.ensures c.if-n-gt0.true in
    record { is = iri_canonical x n f; kind = iri_kind x n f; within = f.within; run = iri_subject x n (term_of (take n x)) (is_iri_front x n (term_of (take n x)) f refl) }

pub returns : goal.returns
returns c =
    let f : LabelFront c.args.piece.now c.in_ok-label.label.now = c.in_ok-label.ensures in
    record { is = tt; kind = tt; within = omega (arith, f.within); run = label_subject _ _ f }
