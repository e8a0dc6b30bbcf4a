use Rattle.std.proofs.Common.{◌≡◌, false, drop, get_or, sym, ap, ◌∙◌, arith}
use Rattle.std.specs.Prelude.{◌&&◌}
use Rattle.gs_model.specs.Iris.{is_scheme_char, is_scheme_rest}
use Rattle.gs_ntterm.proofs.WholeLemmas.{absolute_at, rest_ends}
use Rattle.gs_ntterm.proofs.wholes.has_scheme.Goals as goal
use Rattle.gs_ntterm.proofs.wholes.has_scheme.Goals.{then-loop-i-test+else-is_scheme_char, else-loop-i-test}

pub returns : goal.returns
returns c =
    let x = c.args.iri.now in
    let i = c.loop-i.i in
    let ends = λ (e : is_scheme_char (get_or x i 0) ≡ false).
    sym (absolute_at x (omega arith) ∙ ap (λ b. b && is_scheme_rest (drop 1 x)) (sym c.is_letter.ensures ∙ c.if-not-is_letter.false) ∙ c.loop-i.invariant.same ∙ rest_ends x i c.requires (omega arith) e) in
    elim c.loop-i-test.branch [ then-loop-i-test+else-is_scheme_char w ↦ ends (sym w.is_scheme_char.ensures ∙ w.if-is_scheme_char.false) | else-loop-i-test w ↦ absurd (omega arith) ]
