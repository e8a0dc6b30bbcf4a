use Rattle.std.proofs.Common.{◌≡◌, ◌∙◌, ap, sym}
use Rattle.std.specs.Prelude.{Some, option_map, string_bytes}
use Rattle.std.specs.List.{list_all}
use Rattle.gs_model.specs.Characters.{is_iri_char}
use Rattle.gs_escape.specs.Tokens.{iri_of}
use Rattle.gs_escape.proofs.CharacterLemmas.{iri_of-characters}
use Rattle.gs_token_terms.proofs.contexts.Context.reference_term.Goals as goal

pub resolved_iri-requires-in-Some-2-clause-characters : goal.resolved_iri-requires-in-Some-2-clause-characters
resolved_iri-requires-in-Some-2-clause-characters c =
    let reported : iri_of c.args.text.now ≡ Some (string_bytes c.in-Some-2.iri) = sym c.in_ok-reference.ensures ∙ ap (option_map string_bytes) c.in-Some-2.is in
    ap (list_all is_iri_char) c.as_str-in-Some-2-2.ensures.value ∙ iri_of-characters c.args.text.now (string_bytes c.in-Some-2.iri) reported
