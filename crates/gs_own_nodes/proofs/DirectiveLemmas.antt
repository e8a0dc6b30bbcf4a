-- Directives: a base or a prefix leaves the request of a context and its language.
use Rattle.std.proofs.Common.{ℕ, List}
use Rattle.std.specs.Option.{IfSome}
use Rattle.gs_escape.specs.Tokens.{iri_of, split_at_colon}
use Rattle.gs_triples.specs.Languages.{Language}
use Rattle.gs_triples.specs.Meanings.{Context}
use Rattle.gs_triples.specs.Directives.{with_prefix, with_base}
use Rattle.gs_own_nodes.proofs.AnswerLemmas.{mapped, chained}

module _ {Value Triple : Type 0} (P : ℕ → Language Value Triple → Type 0) (env : Context Value Triple) (so : P env.request env.language) where
  -- what is so of them is so of the next context's, after a base
  pub base_keeps : (x : List ℕ) → IfSome (with_base env x) (λ next. P next.request next.language)
  unfolding with_base
  base_keeps x = mapped (λ (next : Context Value Triple). P next.request next.language) _ (λ i. so) (iri_of x)

  -- and after a prefix
  pub prefix_keeps : (p x : List ℕ) → IfSome (with_prefix env p x) (λ next. P next.request next.language)
  unfolding with_prefix
  prefix_keeps p x =
      let C : Context Value Triple → Type 0 = λ next. P next.request next.language in
      chained C _ (λ q. mapped C _ (λ i. so) (iri_of x)) (split_at_colon p)
