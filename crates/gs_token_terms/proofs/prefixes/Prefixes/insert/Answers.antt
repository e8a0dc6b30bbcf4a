use Rattle.std.proofs.Common.{◌≡◌, ℕ, List, ap, ◌∙◌, string_bytes}
use Rattle.std.specs.FinMap as finite
use Rattle.std.proofs.lemmas.Result.{IfOk-at_ok}
use Rattle.gs_triples.specs.Prefixes.{Prefixes}
use Rattle.gs_token_terms.specs.Prefixes.{prefix_texts}
use Rattle.gs_token_terms.proofs.PrefixLemmas.{texts-insert}
use Rattle.gs_token_terms.proofs.prefixes.Prefixes.insert.Goals as goal

pub returns : goal.returns
returns c =
    let key_is : string_bytes c.in_ok-prefix.prefix ≡ c.args.prefix.now = IfOk-at_ok (λ s. string_bytes s ≡ c.args.prefix.now) c.in_ok-prefix.was c.from_str.ensures.ok in
    texts-insert c.self.inside.iris c.insert.new.self (string_bytes c.in_ok-prefix.prefix) _ c.in_ok-insert.ensures.updates
    ∙ ap (λ (t : List ℕ). finite.insert (prefix_texts c.self.inside.iris) t (string_bytes c.args.iri)) key_is
    ∙ ap (λ (u : Prefixes). finite.insert u c.args.prefix.now (string_bytes c.args.iri)) c.self.view_is
