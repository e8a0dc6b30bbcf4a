use Rattle.std.proofs.Common.{◌≡◌, ◌∙◌, ◌++◌, ap, sym, false, List, ℕ, subst}
use mathlib.Core.Bool.{false≢true}
use Rattle.std.specs.Prelude.{Some, option_map, string_bytes, Err, Ok, Result, OnOk}
use Rattle.gs_model.specs.declared.refusals.Refusal.{Refusal}
use Rattle.gs_model.specs.declared.refusals.Refusal.TheVariants.{NoMemory}
use Rattle.gs_model.specs.Iris.{is_absolute}
use Rattle.gs_iri.specs.Resolving.{resolved, is_resolvable}
use Rattle.gs_escape.specs.Tokens.{iri_of}
use Rattle.gs_token_terms.proofs.ContextLemmas.{resolvable, absolute_still, unresolvable}
use Rattle.gs_token_terms.proofs.contexts.Context.resolve.Goals as goal

pub returns-in-Ok-clause-absolute : goal.returns-in-Ok-clause-absolute
returns-in-Ok-clause-absolute c =
    let reported : iri_of c.args.text.now ≡ Some (string_bytes c.in-Some.reference) = sym c.in_ok-reference.ensures ∙ ap (option_map string_bytes) c.in-Some.is in
    let is_ok : c.resolve_under.result ≡ Ok c.in-Ok.field-0 = sym c.in_ok-memory_apart.ensures.value ∙ c.in-Ok.is in
    let value : string_bytes c.resolve_under.new.resolved ≡ resolved (string_bytes c.args.self.now.base) (string_bytes c.in-Some.reference) =
    subst (λ (r : Result (Unit {0}) Refusal). OnOk r (string_bytes c.resolve_under.new.resolved ≡ string_bytes c.new-iri.result ++ resolved c.as_str.result.now c.as_str-2.result.now)) is_ok c.resolve_under.ensures.value
    ∙ ap (λ (x : List ℕ). x ++ resolved c.as_str.result.now c.as_str-2.result.now) c.new-iri.ensures.bytes
    ∙ ap (λ (x : List ℕ). resolved x c.as_str-2.result.now) c.as_str.ensures.value ∙ ap (resolved (string_bytes c.args.self.now.base)) c.as_str-2.ensures.value in
    ap is_absolute value ∙ absolute_still (string_bytes c.args.self.now.base) c.args.text.now (string_bytes c.in-Some.reference) c.args.self.now.absolute reported

pub returns-clause-value : goal.returns-clause-value
returns-clause-value c =
    let reported : iri_of c.args.text.now ≡ Some (string_bytes c.in-Some.reference) = sym c.in_ok-reference.ensures ∙ ap (option_map string_bytes) c.in-Some.is in
    let refused : c.resolve_under.result ≡ Err c.in-Err.field-0 = sym c.in_ok-memory_apart.ensures.value ∙ c.in-Err.is in
    let apart : c.resolve_under.result ≡ Err NoMemory → ⊥ = λ e. c.in_ok-memory_apart.ensures.apart (c.in_ok-memory_apart.ensures.value ∙ e) in
    let wrong : is_resolvable (string_bytes c.args.self.now.base) (string_bytes c.in-Some.reference) ≡ false =
    ap (λ (x : List ℕ). is_resolvable x (string_bytes c.in-Some.reference)) (sym c.as_str.ensures.value) ∙ ap (is_resolvable c.as_str.result.now) (sym c.as_str-2.ensures.value)
    ∙ unresolvable c.as_str.result.now c.as_str-2.result.now c.resolve_under.result c.in-Err.field-0 refused apart c.resolve_under.ensures.refused in
    absurd (false≢true (sym wrong ∙ resolvable (string_bytes c.args.self.now.base) c.args.text.now (string_bytes c.in-Some.reference) c.args.self.now.absolute reported))
