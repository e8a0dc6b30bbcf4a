use Rattle.std.proofs.Common.{◌≡◌, ◌∙◌, Result, subst, ap, sym}
use Rattle.std.specs.Prelude.{IfOk}
use Rattle.gs_model.specs.Terms.{Term, Literal, Typed}
use Rattle.gs_model.specs.declared.faults.Fault.{Fault}
use Rattle.gs_term.specs.Making.{made}
use Rattle.gs_token_terms.proofs.AfterLemmas.{nothing_after, string_named, named_after, named_kind}
use Rattle.gs_token_terms.proofs.buffers.named_literal.Goals as goal

pub plain_literal-requires-clause-after : goal.plain_literal-requires-clause-after
plain_literal-requires-clause-after c = nothing_after

pub returns-then-eq : goal.returns-then-eq
returns-then-eq c =
    let same = string_named c.args.datatype.now c.as_bytes-name.result.now c.requires.kind c.as_bytes-name.ensures.text (sym c.eq.ensures ∙ c.if-eq.true) in
    subst (λ (z : Result Term Fault). IfOk c.plain_literal.result (λ m. m ≡ z)) (ap (λ d. made (Literal c.args.form.now (Typed d))) same) c.plain_literal.ensures

pub plain_literal-requires-2-clause-after : goal.plain_literal-requires-2-clause-after
plain_literal-requires-2-clause-after c = named_after c.args.datatype.now c.as_bytes-name.result.now c.requires.kind c.as_bytes-name.ensures.text c.as_bytes-name.ensures.valid (sym c.eq.ensures ∙ c.if-eq.false)

pub returns : goal.returns
returns c =
    let kind = named_kind c.args.datatype.now c.as_bytes-name.result.now c.requires.kind c.as_bytes-name.ensures.text (sym c.eq.ensures ∙ c.if-eq.false) in
    subst (λ (z : Result Term Fault). IfOk c.plain_literal-2.result (λ m. m ≡ z)) (ap (λ k. made (Literal c.args.form.now k)) kind) c.plain_literal-2.ensures
