-- The terms of the code's tokens, in the code's context.
use Rattle.std.specs.Prelude.{ℕ, List, Result}
use Rattle.gs_model.specs.Terms.{Term}
use Rattle.gs_triples.specs.Meanings.{Fault}
use Rattle.gs_triples.specs.Meanings as meaning
use Rattle.gs_token_terms.specs.Views.{symbol_at, context_of}
use Rattle.gs_token_terms.specs.declared.contexts.Context.{Context}
use Rattle.gs_token_terms.specs.declared.symbols.Symbol.{Symbol}

-- a string with its datatype
abbrev pub typed_of : Context → List ℕ → Symbol → Result Term Fault
typed_of env x t = meaning.typed (context_of env) x (symbol_at t)
