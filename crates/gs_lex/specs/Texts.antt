-- What a lexer of a text that is at hand whole has given of it.
use Rattle.std.specs.Prelude.{ℕ, Bool, List}
use Rattle.std.specs.Borrow.{Bor}
use Rattle.gs_lex.specs.Tokens.{Lexeme}
use Rattle.gs_lex.specs.Cutting.{HasCutOff, CutsNext, TakesSome}
use Rattle.gs_lex.specs.declared.texts.Next.{Next}
use Rattle.gs_lex.specs.declared.texts.TextLexer.{TextLexer}

-- the text that a lexer cuts into tokens
abbrev pub lexed_text : TextLexer → Bor (List ℕ)
lexed_text l = l.text

-- the lexer has given these tokens of its text
abbrev pub HasGivenTokens : Bool → TextLexer → List Lexeme → Type 0
HasGivenTokens updates l ts = HasCutOff updates l.at l.text.now ts

-- after the tokens that it had given a lexer gives what stands next; where that is a token, fewer bytes are left
abbrev pub Continues : TextLexer → TextLexer → Next → Type 0
Continues old new n = CutsNext old.text.now old.at new.at n × TakesSome old.text.now old.at new.at n
