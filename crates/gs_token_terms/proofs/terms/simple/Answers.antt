use Rattle.std.proofs.Common.{◌≡◌, ◌∙◌, ap, sym, subst, Result}
use Rattle.std.specs.Prelude.{IfOk, option_map}
use Rattle.gs_model.specs.Terms.{Term}
use Rattle.gs_model.specs.declared.faults.Fault.{Fault}
use Rattle.gs_token_terms.specs.Forms.{form_text}
use Rattle.gs_token_terms.proofs.ContextLemmas.{simple_is}
use Rattle.gs_token_terms.proofs.AfterLemmas.{nothing_after, plain_simple}
use Rattle.gs_token_terms.proofs.terms.simple.Goals as goal

pub plain_literal-requires-clause-after : goal.plain_literal-requires-clause-after
plain_literal-requires-clause-after c = nothing_after

pub returns-in-Some : goal.returns-in-Some
returns-in-Some c =
    subst (λ (z : Result Term Fault). IfOk c.plain_literal.result (λ m. m ≡ z)) (plain_simple c.args.text.now c.in-Some.form.now c.in-Some.ensures) c.plain_literal.ensures

pub returns-in-Some-2 : goal.returns-in-Some-2
returns-in-Some-2 c =
    subst (λ (z : Result Term Fault). IfOk c.made_literal.result (λ m. m ≡ z))
    (simple_is c.args.text.now (form_text c.in-Some-2.form) c.as_str.result.now (sym c.in_ok-decoded.ensures ∙ ap (option_map form_text) c.in-Some-2.is) c.as_str.ensures)
    c.made_literal.ensures
