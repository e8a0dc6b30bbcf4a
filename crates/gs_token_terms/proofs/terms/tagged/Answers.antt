use Rattle.std.proofs.Common.{◌≡◌, ◌∙◌, Result, ap, sym, subst}
use Rattle.std.specs.Prelude.{IfOk}
use Rattle.gs_model.specs.Terms.{Term, Literal}
use Rattle.gs_model.specs.Texts.{kind_of}
use Rattle.gs_model.specs.declared.faults.Fault.{Fault}
use Rattle.gs_term.specs.Making.{made}
use Rattle.gs_token_terms.specs.Plain.{is_small_tag}
use Rattle.gs_token_terms.proofs.AfterLemmas.{small_after, small_tagged}
use Rattle.gs_token_terms.proofs.terms.tagged.Goals as goal

pub plain_literal-requires-clause-after : goal.plain_literal-requires-clause-after
plain_literal-requires-clause-after c =
    small_after c.as_bytes-in-Some.result.now
    (ap is_small_tag (c.as_bytes-in-Some.ensures.value ∙ sym c.as_bytes.ensures.value) ∙ sym c.is_small_tag.ensures ∙ c.if-is_small_tag.true)

pub returns-in-Some : goal.returns-in-Some
returns-in-Some c =
    let small = ap is_small_tag (sym c.as_bytes.ensures.value) ∙ sym c.is_small_tag.ensures ∙ c.if-is_small_tag.true in
    subst (λ (z : Result Term Fault). IfOk c.plain_literal.result (λ m. m ≡ z))
    (ap (λ z. made (Literal c.in-Some.form.now (kind_of z))) c.as_bytes-in-Some.ensures.value ∙ small_tagged c.args.text.now c.in-Some.form.now c.args.tag.now c.in-Some.ensures small)
    c.plain_literal.ensures
