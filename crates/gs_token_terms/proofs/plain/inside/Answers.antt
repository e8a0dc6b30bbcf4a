use Rattle.std.proofs.Common.{◌≡◌, ◌<◌, get_or, length, ap, arith, subst, ℕ, List}
use Rattle.std.proofs.lemmas.Str.{IsCharBoundary-after_ascii}
use Rattle.gs_token_terms.proofs.plain.inside.Goals as goal

pub range-requires-clause-start_boundary : goal.range-requires-clause-start_boundary
range-requires-clause-start_boundary c =
    let x = c.args.text.now in
    let same = c.as_bytes-bytes.ensures.value in
    let here : 0 < length x = omega (arith, ap length same) in
    let first : get_or x 0 0 ≡ c.args.front = subst (λ (z : List ℕ). get_or z 0 0 ≡ c.args.front) same c.if-bytes-front.false in
    let low : get_or x 0 0 < 128 = omega arith in
    let place = IsCharBoundary-after_ascii x 0 c.utf8.text here low in
    λ _. (place.0, place.1)
