-- What the directives of Turtle (25 February 2014, sections 2.4 and 6.3), and those of an update's prologue, leave.
use Rattle.std.specs.Prelude.{ℕ, List, Option, option_map, option_and_then}
use Rattle.std.specs.FinMap as finite
use Rattle.gs_iri.specs.Resolving.{resolved}
use Rattle.gs_escape.specs.Tokens.{iri_of, split_at_colon}
use Rattle.gs_triples.specs.Languages.{Language}
use Rattle.gs_triples.specs.Meanings.{Context}

module _ {Value Triple : Type 0} where
  -- under this base and in this request no prefix is declared
  abbrev pub without_prefixes : Language Value Triple → List ℕ → ℕ → Context Value Triple
  without_prefixes l b r = record { base = b; prefixes = finite.empty; request = r; language = l }

  -- the context from the next statement on; a prefix's text ends in its colon
  unfoldable pub with_prefix : Context Value Triple → List ℕ → List ℕ → Option (Context Value Triple)
  with_prefix env p x =
      option_and_then (λ q. option_map (λ i. record env { prefixes = finite.insert env.prefixes q.0 (resolved env.base i) }) (iri_of x)) (split_at_colon p)

  -- the base is resolved against the one before it
  unfoldable pub with_base : Context Value Triple → List ℕ → Option (Context Value Triple)
  with_base env x = option_map (λ i. record env { base = resolved env.base i }) (iri_of x)
