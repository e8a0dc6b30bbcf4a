use Rattle.std.proofs.Common.{take, refl}
use Rattle.gs_model.specs.Texts.{term_of}
use Rattle.gs_ntterm.specs.Wholes.{IriFront, IsLiteralText}
use Rattle.gs_ntterm.proofs.WholeLemmas.{iri_canonical, is_iri_front}
use Rattle.gs_ntread.proofs.WholeRuns.{iri_object, literal_object}
use Rattle.gs_ntread.proofs.LineRuns.{label_object}
use Rattle.gs_ntread.proofs.lines.object_token.Goals as goal

pub returns-then-n-gt0 : goal.returns-then-n-gt0
returns-then-n-gt0 c =
    let x = c.args.piece.now in
    let n = c.iri_len-n.result in
    let f : IriFront x n = c.iri_len-n.ensures c.if-n-gt0.true in
    record { is = iri_canonical x n f; token = iri_object x n (term_of (take n x)) (is_iri_front x n (term_of (take n x)) f refl) }

pub returns-in-Some : goal.returns-in-Some
returns-in-Some c =
    let x = c.args.piece.now in
    let f : IsLiteralText x c.in-Some.text c.in-Some.n = c.in-Some.ensures in
    record { is = f.canonical; token = literal_object x _ _ f.front }

pub returns : goal.returns
returns c = record { is = tt; token = label_object _ _ c.in_ok-label.ensures }
