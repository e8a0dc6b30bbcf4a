use Rattle.std.proofs.Common.{◌∙◌, ◌≤◌, ℕ, List, ap, sym, arith, length, take}
use Rattle.std.specs.Cmp.Lexicographic.{bytes_decides}
use Rattle.gs_token_terms.proofs.SymbolLemmas.{boundary_after}
use Rattle.gs_token_terms.proofs.terms.after.Goals as goal

pub range_from-requires : goal.range_from-requires
range_from-requires c =
    let x = c.as_bytes.ensures.value in
    let f = c.as_bytes-2.ensures.value in
    let same = (bytes_decides (take (length c.as_bytes-2.result.now) c.as_bytes.result.now) c.as_bytes-2.result.now).0 c.in-Some.ensures.cases.0 in
    let within : length c.args.front.now ≤ length c.args.text.now = omega (arith, c.in-Some.ensures.cases.2, ap length x, ap length f) in
    let front = ap (λ (y : List ℕ). take (length c.args.front.now) y) (sym x) ∙ ap (λ (y : List ℕ). take (length y) c.as_bytes.result.now) (sym f) ∙ same ∙ f in
    let place = boundary_after c.args.front.now c.args.text.now c.utf8.text c.utf8.front within front in
    λ _. (place.0, place.1)
