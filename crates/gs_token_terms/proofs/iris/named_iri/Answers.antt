use Rattle.std.proofs.Common.{◌≡◌, ◌++◌, ◌∙◌, ℕ, List, Result, ap, sym, subst}
use Rattle.std.specs.Prelude.{IfOk, option_map, string_bytes}
use Rattle.std.specs.List.{list_all}
use Rattle.gs_model.specs.Characters.{is_iri_char}
use Rattle.gs_model.specs.Terms.{Term}
use Rattle.gs_model.specs.declared.faults.Fault.{Fault}
use Rattle.gs_escape.specs.Tokens.{local_of}
use Rattle.gs_token_terms.proofs.IriLemmas.{joined_is, no_text}
use Rattle.gs_token_terms.proofs.iris.named_iri.Goals as goal

pub returns-then-are_iri_bytes-clause-value : goal.returns-then-are_iri_bytes-clause-value
returns-then-are_iri_bytes-clause-value c =
    let characters = ap (list_all is_iri_char) (sym c.as_bytes.ensures.value) ∙ sym c.are_iri_bytes.ensures ∙ c.if-are_iri_bytes.true in
    subst (λ (z : Result Term Fault). IfOk c.joined_iri.result (λ m. m ≡ z)) (joined_is c.args.front.now c.args.local.now characters c.utf8.local) c.joined_iri.ensures.value

pub returns-in-None-clause-value : goal.returns-in-None-clause-value
returns-in-None-clause-value c =
    no_text (option_map (λ (l : List ℕ). c.args.front.now ++ l) (local_of c.args.local.now)) (sym (ap (option_map string_bytes) c.in-None.is) ∙ c.in_ok-expanded.ensures)
