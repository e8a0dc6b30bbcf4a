-- What a symbol counts for the base, before it is taken.
use Rattle.std.specs.Prelude.{◌≡◌, Result, IsOk, string_bytes}
use Rattle.gs_triple_values.specs.Contexts.{CountsBase}
use Rattle.gs_token_terms.specs.declared.budgets.Budget.{Budget}
use Rattle.gs_token_terms.specs.declared.contexts.Context.{Context}
use Rattle.gs_token_terms.specs.declared.symbols.Symbol.{Symbol}
use Rattle.gs_token_terms.specs.declared.symbols.Symbol.TheVariants as symbol
use Rattle.gs_token_terms.specs.declared.symbols.TermToken.TheVariants as token

-- a reference counts as `CountsBase` says, and another symbol nothing
abbrev pub CountsSymbol : {E : Type 0} → Result (Unit {0}) E → Context → Symbol → (old new : Budget) → Type 0
CountsSymbol r c (symbol.Term (token.Reference x e)) old new = CountsBase r (string_bytes c.base) x.now old new
CountsSymbol r c s old new = (IsOk r) × (new ≡ old)
