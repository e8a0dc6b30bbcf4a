use Rattle.std.proofs.Common.{◌≡◌, ◌++◌, ◌<◌, length, take, drop, get_or, suc, ap, subst, ◌∙◌, arith}
use Rattle.std.specs.List.{flat_map}
use Rattle.std.proofs.lemmas.Result.{err_from_is_err_and}
use Rattle.gs_body.specs.Bodies.{Meaning, Reports}
use Rattle.gs_body.proofs.Cuttings.{cut_at}
use Rattle.gs_body.proofs.pieces.read_pieces.Goals as goal

pub returns-in_err-feed-clause-fault : goal.returns-in_err-feed-clause-fault
returns-in_err-feed-clause-fault g c =
    let p = err_from_is_err_and c.from_residual.result c.from_residual.ensures.1 in
    let xs = c.args.pieces.now in
    let i = c.loop-piece.piece-index in
    let v = c.piece-item.result in
    let h : i < length xs = omega arith in
    let front = flat_map (λ piece. piece.items) (take i xs) in
    let back = flat_map (λ piece. piece.items) (drop (suc i) xs) in
    let now : c.as_slice.result.now ≡ (get_or xs i v).items = c.as_slice.ensures.value ∙ ap (λ z. z.items) c.piece-item.is in
    let all : front ++ c.as_slice.result.now ++ back ≡ flat_map (λ piece. piece.items) xs =
    ap (λ z. front ++ z ++ back) now ∙ cut_at (λ piece. piece.items) xs i v h in
    rw (p.1, p.2) (subst (λ (z : Meaning). Reports c.in_err-feed.field-0.0 z) (ap (g.R.BodyReader.meaning_of c.loop-piece.reader) all ∙ c.loop-piece.invariant.same _)
    (c.in_err-feed.ensures.fault front c.loop-piece.triples.items c.loop-piece.invariant.leads back))
