use Rattle.std.proofs.Common.{◌≡◌, ◌∙◌, ◌+◌, ◌<◌, ap, sym, take, drop, List, ℕ}
use Rattle.std.specs.Prelude.{Some, None, option_map, position, ◌==◌, get_or}
use Rattle.std.proofs.lemmas.List.Quantifiers.{position-Some}
use Rattle.std.proofs.lemmas.Str.{IsCharBoundary-after_ascii, IsCharBoundary-before_ascii}
use Rattle.gs_token_terms.proofs.SymbolLemmas.{colon_low, slice_front}
use Rattle.gs_token_terms.proofs.contexts.parts.Goals as goal

pub range_from-requires : goal.range_from-requires
range_from-requires c =
    let found : position (λ c. c == 58) c.args.text.now ≡ Some c.in-Some.i = ap (position (λ c. c == 58)) (sym c.as_bytes.ensures.value) ∙ sym c.colon.ensures ∙ c.in-Some.is in
    let at = position-Some (λ c. c == 58) c.args.text.now c.in-Some.i 0 found in
    let low : get_or c.args.text.now c.in-Some.i 0 < 128 = colon_low (get_or c.args.text.now c.in-Some.i 0) at.1 in
    let place = IsCharBoundary-after_ascii c.args.text.now c.in-Some.i c.utf8.text at.0 low in
    λ _. (place.0, place.1)

pub range-requires-clause-end_boundary : goal.range-requires-clause-end_boundary
range-requires-clause-end_boundary c =
    let found : position (λ c. c == 58) c.args.text.now ≡ Some c.in-Some.i = ap (position (λ c. c == 58)) (sym c.as_bytes.ensures.value) ∙ sym c.colon.ensures ∙ c.in-Some.is in
    let at = position-Some (λ c. c == 58) c.args.text.now c.in-Some.i 0 found in
    let place = IsCharBoundary-before_ascii c.args.text.now c.in-Some.i at.0 (colon_low (get_or c.args.text.now c.in-Some.i 0) at.1) in
    (place.0, place.1)

pub returns-in-None : goal.returns-in-None
returns-in-None c =
    let found : position (λ c. c == 58) c.args.text.now ≡ None = ap (position (λ c. c == 58)) (sym c.as_bytes.ensures.value) ∙ sym c.colon.ensures ∙ c.in-None.is in
    ap (option_map (λ (i : ℕ). let p : List ℕ × List ℕ = (take i c.args.text.now, drop (i + 1) c.args.text.now) in p)) (sym found)

pub returns-in-Some : goal.returns-in-Some
returns-in-Some c =
    let found : position (λ c. c == 58) c.args.text.now ≡ Some c.in-Some.i = ap (position (λ c. c == 58)) (sym c.as_bytes.ensures.value) ∙ sym c.colon.ensures ∙ c.in-Some.is in
    let parts = λ (i : ℕ). let p : List ℕ × List ℕ = (take i c.args.text.now, drop (i + 1) c.args.text.now) in p in
    let made = λ (x y : List ℕ). let p : List ℕ × List ℕ = (x, y) in Some p in
    ap (λ x. made x c.range_from.result.now) c.range.ensures.value ∙ ap (λ x. made x c.range_from.result.now) (slice_front c.in-Some.i c.args.text.now) ∙ ap (λ y. made (take c.in-Some.i c.args.text.now) y) c.range_from.ensures.value ∙ ap (option_map parts) (sym found)
