use Rattle.std.proofs.Common.{◌≡◌, ap, sym, Bool, Result, List, ℕ, subst, string_bytes}
use Rattle.std.specs.Prelude.{IfOk}
use Rattle.gs_model.specs.Terms.{Term, Literal, Typed, xsd_string}
use Rattle.gs_model.specs.declared.faults.Fault.{Fault}
use Rattle.gs_term.specs.Making.{Makes, made}
use Rattle.gs_ntterm.specs.Tokens.{plain_held}
use Rattle.gs_ntterm.specs.Views.{held_of, held_form}
use Rattle.gs_ntterm.proofs.terms.plain.Goals as goal

pub returns : goal.returns
returns c =
    let bytes = string_bytes c.args.lexical.now.text in
    let is : made (Literal bytes (Typed xsd_string)) ≡ plain_held (held_of c.args.lexical.now) = ap (λ (b : Bool). plain_held (held_form b c.args.lexical.now.form bytes)) (sym c.if-lexical.false) in
    subst (λ (z : Result Term Fault). IfOk c.checked.result (λ r. r ≡ z)) is
    (c.checked.ensures (Literal bytes (Typed xsd_string)) (subst (λ (b : List ℕ). Makes (Literal b (Typed xsd_string)) c.literal.result) c.as_str.ensures.value c.literal.ensures))
