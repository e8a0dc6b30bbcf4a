use Rattle.std.proofs.Common.{◌≡◌, ◌∙◌, ◌∷◌, ◌+◌, sym, subst, arith}
use Rattle.std.specs.Str.{IsUtf8, IsCharBoundary}
use Rattle.gs_escape.proofs.EndLemmas.{escape_end, escape_boundary}
use Rattle.gs_escape.proofs.walks.cut_escape.Goals as goal

pub overflow_add-size : goal.overflow_add-size
overflow_add-size c =
    let ends = escape_end c.args.form c.in-Some-eq92-default.later.now (c.in-Some.c, c.in-Some.size) (sym c.escape.ensures ∙ c.in-Some.is) in
    omega (arith, ends.within, c.in-Some-eq92-default.ensures.cases.1)

pub range_from-requires : goal.range_from-requires
range_from-requires c =
    let e = c.in-Some-eq92-default.ensures.cases.0 in
    let whole : c.args.text.now ≡ c.in-Some-eq92-default.field-0-0.now ∷ c.in-Some-eq92-default.later.now = sym c.as_bytes.ensures.value ∙ e in
    let spelled = subst IsUtf8 whole c.utf8.text in
    λ _. subst (λ z. IsCharBoundary z (c.in-Some.size + 1)) (sym whole)
    (escape_boundary c.args.form c.in-Some-eq92-default.field-0-0.now c.in-Some-eq92-default.later.now (c.in-Some.c, c.in-Some.size) spelled (sym c.escape.ensures ∙ c.in-Some.is))
