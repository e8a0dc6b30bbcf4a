-- The tokens that code hands out, as the definition has them.
use Rattle.std.specs.Prelude.{List, map}
use Rattle.gs_lex.specs.Tokens.{Lexeme}
use Rattle.gs_lex.specs.declared.tokens.Token.{Token}
use Rattle.gs_lex.specs.declared.tokens.BorrowedToken.{BorrowedToken}

-- a token, as the definition has it
abbrev pub lexeme_of : Token → Lexeme
lexeme_of t = record { kind = t.kind; text = t.text.items; start = t.start; «end» = t.«end» }

-- a list of tokens, as the definition has them
abbrev pub lexemes_of : List Token → List Lexeme
lexemes_of ts = map lexeme_of ts

-- a token that borrows from its text, as the definition has it
abbrev pub lexeme_of_borrowed : BorrowedToken → Lexeme
lexeme_of_borrowed t = record { kind = t.kind; text = t.text.now; start = t.start; «end» = t.«end» }
