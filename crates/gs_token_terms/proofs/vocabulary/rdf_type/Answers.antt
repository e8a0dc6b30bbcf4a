use Rattle.std.proofs.Common.{◌≡◌, subst}
use Rattle.std.specs.Prelude.{IfOk}
use Rattle.gs_model.specs.Terms.{Term}
use Rattle.gs_token_terms.proofs.VocabularyLemmas.{type_text, type_term}
use Rattle.gs_token_terms.proofs.vocabulary.rdf_type.Goals as goal

pub of_canonical-requires : goal.of_canonical-requires
of_canonical-requires c = type_text

pub returns : goal.returns
returns c = subst (λ (z : Term). IfOk c.of_canonical.result (λ t. t ≡ z)) type_term c.of_canonical.ensures
