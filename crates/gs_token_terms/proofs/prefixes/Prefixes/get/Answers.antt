use Rattle.std.proofs.Common.{ap, sym, ◌∙◌, Some}
use Rattle.std.specs.Prelude.{option_map, option_copied, string_bytes}
use Rattle.std.specs.FinMap as finite
use Rattle.gs_triples.specs.Prefixes.{Prefixes}
use Rattle.gs_token_terms.proofs.PrefixLemmas.{get-texts}
use Rattle.gs_token_terms.proofs.prefixes.Prefixes.get.Goals as goal

pub returns-in-None-clause-value : goal.returns-in-None-clause-value
returns-in-None-clause-value c =
    ap (λ o. option_map (λ v. string_bytes v.text) (option_copied o)) (sym c.in-None.is) ∙ ap (option_map (λ v. string_bytes v.text)) c.get.ensures.value
    ∙ sym (get-texts c.self.inside.iris c.args.prefix.now)
    ∙ ap (λ (u : Prefixes). finite.get u c.args.prefix.now) c.self.view_is

pub returns-in-Some-clause-value : goal.returns-in-Some-clause-value
returns-in-Some-clause-value c =
    ap Some c.as_str.ensures.value
    ∙ ap (λ o. option_map (λ v. string_bytes v.text) (option_copied o)) (sym c.in-Some.is) ∙ ap (option_map (λ v. string_bytes v.text)) c.get.ensures.value
    ∙ sym (get-texts c.self.inside.iris c.args.prefix.now)
    ∙ ap (λ (u : Prefixes). finite.get u c.args.prefix.now) c.self.view_is
