-- What tokens, symbols and contexts of the code stand for.
use Rattle.std.specs.Prelude.{string_bytes}
use Rattle.gs_triples.specs.Symbols as grammar
use Rattle.gs_triples.specs.Languages.{Language, of_terms}
use Rattle.gs_triples.specs.Meanings.{Context}
use Rattle.gs_token_terms.specs.Contexts.{TermContext}
use Rattle.gs_token_terms.specs.Datatypes.{datatype_iri}
use Rattle.gs_token_terms.specs.declared.contexts.Context.{Context as Known}
use Rattle.gs_token_terms.specs.declared.symbols.TermToken.{TermToken}
use Rattle.gs_token_terms.specs.declared.symbols.TermToken.TheVariants as token
use Rattle.gs_token_terms.specs.declared.symbols.Symbol.{Symbol}
use Rattle.gs_token_terms.specs.declared.symbols.Symbol.TheVariants as symbol

-- a token that is a term by itself, as the grammar has it
abbrev pub token_at : TermToken → grammar.TermToken
token_at (token.Reference x e) = grammar.Reference x.now e
token_at (token.Namespace x) = grammar.Namespace x.now
token_at (token.Name x) = grammar.Name x.now
token_at (token.Label x) = grammar.Label x.now
token_at (token.Plain x d) = grammar.Plain x.now (datatype_iri d)
token_at (token.Variable x) = grammar.Variable x.now

-- a symbol of the code, as one of the grammar
abbrev pub symbol_at : Symbol → grammar.Symbol
symbol_at (symbol.Term w) = grammar.ATerm (token_at w)
symbol_at (symbol.Text x) = grammar.Text x.now
symbol_at (symbol.At x) = grammar.At x.now
symbol_at symbol.Carets = grammar.Carets
symbol_at symbol.A = grammar.A
symbol_at symbol.Open = grammar.Open
symbol_at symbol.Close = grammar.Close
symbol_at symbol.OpenList = grammar.OpenList
symbol_at symbol.CloseList = grammar.CloseList
symbol_at symbol.Semicolon = grammar.Semicolon
symbol_at symbol.Comma = grammar.Comma
symbol_at (symbol.Dot n) = grammar.Dot n
symbol_at symbol.Prefix = grammar.PrefixWord
symbol_at symbol.Base = grammar.BaseWord
symbol_at (symbol.Foreign k e) = grammar.Foreign k e

-- the base, the prefixes and the request of a context of the code, for triples of a language
abbrev pub context_in : {Value Triple : Type 0} → Language Value Triple → Known → Context Value Triple
context_in l c = record { base = string_bytes c.base; prefixes = c.prefixes; request = c.request; language = l }

-- and for triples of terms
abbrev pub context_of : Known → TermContext
context_of c = context_in of_terms c
