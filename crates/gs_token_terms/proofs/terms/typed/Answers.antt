use Rattle.std.proofs.Common.{◌≡◌, ◌∙◌, Result, ap, sym, subst}
use Rattle.std.specs.Prelude.{IfOk}
use Rattle.gs_model.specs.Terms.{Term}
use Rattle.gs_model.specs.declared.faults.Fault.{Fault}
use Rattle.gs_token_terms.specs.Terms.{typed_of}
use Rattle.gs_token_terms.specs.Views.{token_at, context_of}
use Rattle.gs_token_terms.proofs.TypedLemmas.{typed_ok, typed_err}
use Rattle.gs_token_terms.proofs.terms.typed.Goals as goal

pub returns-in-Ok : goal.returns-in-Ok
returns-in-Ok c =
    let known = sym c.in-Ok.is ∙ c.in_ok-datatype.ensures.value in
    let value = typed_ok (context_of c.args.context.now) c.args.text.now c.in-Some.form.now (token_at c.in-Term.token) c.in-Some.ensures.meant c.in-Ok.datatype known in
    subst (λ (z : Result Term Fault). IfOk c.named_literal.result (λ m. m ≡ z)) (value ∙ ap (typed_of c.args.context.now c.args.text.now) (sym c.in-Term.is)) c.named_literal.ensures

pub returns-in-Err : goal.returns-in-Err
returns-in-Err c =
    let known = sym c.in-Err.is ∙ c.in_ok-datatype.ensures.value in
    typed_err (context_of c.args.context.now) c.args.text.now c.in-Some.form.now (token_at c.in-Term.token) c.in-Some.ensures.meant c.in-Err.fault known
    ∙ ap (typed_of c.args.context.now c.args.text.now) (sym c.in-Term.is)
