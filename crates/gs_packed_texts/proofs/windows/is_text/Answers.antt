-- The spans are compared with the parts of the text, the second one first.
use Rattle.std.proofs.Common.{◌≡◌, sym, ◌∙◌, ap, true, false}
use Rattle.std.specs.Str.{bytes_eq}
use Rattle.gs_packed_texts.specs.Kept.{span_in}
use Rattle.gs_packed_texts.proofs.SpanLemmas.{parts_eq_by_front, parts_differ}
use Rattle.gs_packed_texts.proofs.windows.is_text.Goals as goal

pub returns-then-eq : goal.returns-then-eq
returns-then-eq c =
    let s = c.split_at.ensures in
    let rest : bytes_eq (span_in c.args.bytes.now c.args.parts.rest) c.split_at.result.1.now ≡ true =
    ap (λ x. bytes_eq x c.split_at.result.1.now) (sym c.bytes_at.ensures) ∙ (sym c.eq.ensures ∙ c.if-eq.true) in
    c.eq-then-eq.ensures
    ∙ (ap (λ x. bytes_eq x c.split_at.result.0.now) c.bytes_at-then-eq.ensures
    ∙ sym (parts_eq_by_front _ _ _ _ _ c.requires s.by_index.0 s.front_len rest))

pub returns-else-eq : goal.returns-else-eq
returns-else-eq c =
    let s = c.split_at.ensures in
    let rest : bytes_eq (span_in c.args.bytes.now c.args.parts.rest) c.split_at.result.1.now ≡ false =
    ap (λ x. bytes_eq x c.split_at.result.1.now) (sym c.bytes_at.ensures) ∙ (sym c.eq.ensures ∙ c.if-eq.false) in
    c.if-eq.false ∙ sym (parts_differ _ _ _ _ _ c.requires s.by_index.0 s.front_len rest)
