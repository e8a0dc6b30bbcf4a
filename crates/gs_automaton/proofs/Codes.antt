-- Numbers keep sets of characters apart, and terminals.
use Rattle.std.proofs.Common.{◌≡◌, ℕ, true, refl, sym, ap, ◌∙◌}
use Rattle.std.proofs.lemmas.Bool.{eqb-true}
use Rattle.std.specs.Prelude.{◌==◌, if◌then◌else◌}
use Rattle.gs_automaton.specs.Terminals.{Chars, Less, Greater, Quote, Apostrophe, Backslash, Colon, Underscore, AtSign, Dash, Dot, Percent, Caret, Semicolon, Comma, OpenBracket, CloseBracket, OpenParenthesis, CloseParenthesis, OpenBrace, CloseBrace, VariableMark, SmallU, BigU, IriChar, ShortQuoteChar, ShortApostropheChar, LongQuoteChar, LongApostropheChar, Echar, Hex, Digit, Sign, ExponentLetter, Alpha, Alphanumeric, Base, NameChar, LabelStart, LocalStart, LocalChar, LocalEscape, VariableChar}
use Rattle.gs_automaton.specs.declared.terminals.Terminal.{Terminal}
use Rattle.gs_automaton.specs.declared.terminals.Terminal.TheVariants as kind
use Rattle.gs_automaton.proofs.Residuals.{code}
use Rattle.gs_automaton.proofs.Checks.{set_code}

set_of : ℕ → Chars
set_of n = if n == 0 then Less else if n == 1 then Greater else if n == 2 then Quote else if n == 3 then Apostrophe else if n == 4 then Backslash else if n == 5 then Colon else if n == 6 then Underscore else if n == 7 then AtSign else if n == 8 then Dash else if n == 9 then Dot else if n == 10 then Percent else if n == 11 then Caret else if n == 12 then Semicolon else if n == 13 then Comma else if n == 14 then OpenBracket else if n == 15 then CloseBracket else if n == 16 then OpenParenthesis else if n == 17 then CloseParenthesis else if n == 18 then OpenBrace else if n == 19 then CloseBrace else if n == 20 then VariableMark else if n == 21 then SmallU else if n == 22 then BigU else if n == 23 then IriChar else if n == 24 then ShortQuoteChar else if n == 25 then ShortApostropheChar else if n == 26 then LongQuoteChar else if n == 27 then LongApostropheChar else if n == 28 then Echar else if n == 29 then Hex else if n == 30 then Digit else if n == 31 then Sign else if n == 32 then ExponentLetter else if n == 33 then Alpha else if n == 34 then Alphanumeric else if n == 35 then Base else if n == 36 then NameChar else if n == 37 then LabelStart else if n == 38 then LocalStart else if n == 39 then LocalChar else if n == 40 then LocalEscape else if n == 41 then VariableChar else Less

set_back : (s : Chars) → set_of (set_code s) ≡ s
unfolding set_of
set_back Less = refl
set_back Greater = refl
set_back Quote = refl
set_back Apostrophe = refl
set_back Backslash = refl
set_back Colon = refl
set_back Underscore = refl
set_back AtSign = refl
set_back Dash = refl
set_back Dot = refl
set_back Percent = refl
set_back Caret = refl
set_back Semicolon = refl
set_back Comma = refl
set_back OpenBracket = refl
set_back CloseBracket = refl
set_back OpenParenthesis = refl
set_back CloseParenthesis = refl
set_back OpenBrace = refl
set_back CloseBrace = refl
set_back VariableMark = refl
set_back SmallU = refl
set_back BigU = refl
set_back IriChar = refl
set_back ShortQuoteChar = refl
set_back ShortApostropheChar = refl
set_back LongQuoteChar = refl
set_back LongApostropheChar = refl
set_back Echar = refl
set_back Hex = refl
set_back Digit = refl
set_back Sign = refl
set_back ExponentLetter = refl
set_back Alpha = refl
set_back Alphanumeric = refl
set_back Base = refl
set_back NameChar = refl
set_back LabelStart = refl
set_back LocalStart = refl
set_back LocalChar = refl
set_back LocalEscape = refl
set_back VariableChar = refl

pub set-one : (m n : Chars) → (set_code m == set_code n) ≡ true → m ≡ n
set-one m n e = sym (set_back m) ∙ ap set_of (eqb-true (set_code m) (set_code n) e) ∙ set_back n

kind_of : ℕ → Terminal
kind_of n = if n == 0 then kind.IriRef else if n == 1 then kind.PnameNs else if n == 2 then kind.PnameLn else if n == 3 then kind.BlankNodeLabel else if n == 4 then kind.LangTag else if n == 5 then kind.Integer else if n == 6 then kind.Decimal else if n == 7 then kind.Double else if n == 8 then kind.StringLiteralQuote else if n == 9 then kind.StringLiteralSingleQuote else if n == 10 then kind.StringLiteralLongQuote else if n == 11 then kind.StringLiteralLongSingleQuote else if n == 12 then kind.Var else if n == 13 then kind.Word else if n == 14 then kind.Opening else if n == 15 then kind.Dot else if n == 16 then kind.Semicolon else if n == 17 then kind.Comma else if n == 18 then kind.OpenBracket else if n == 19 then kind.CloseBracket else if n == 20 then kind.OpenParenthesis else if n == 21 then kind.CloseParenthesis else if n == 22 then kind.Carets else if n == 23 then kind.OpenBrace else if n == 24 then kind.CloseBrace else kind.IriRef

kind_back : (s : Terminal) → kind_of (code s) ≡ s
unfolding kind_of
kind_back kind.IriRef = refl
kind_back kind.PnameNs = refl
kind_back kind.PnameLn = refl
kind_back kind.BlankNodeLabel = refl
kind_back kind.LangTag = refl
kind_back kind.Integer = refl
kind_back kind.Decimal = refl
kind_back kind.Double = refl
kind_back kind.StringLiteralQuote = refl
kind_back kind.StringLiteralSingleQuote = refl
kind_back kind.StringLiteralLongQuote = refl
kind_back kind.StringLiteralLongSingleQuote = refl
kind_back kind.Var = refl
kind_back kind.Word = refl
kind_back kind.Opening = refl
kind_back kind.Dot = refl
kind_back kind.Semicolon = refl
kind_back kind.Comma = refl
kind_back kind.OpenBracket = refl
kind_back kind.CloseBracket = refl
kind_back kind.OpenParenthesis = refl
kind_back kind.CloseParenthesis = refl
kind_back kind.Carets = refl
kind_back kind.OpenBrace = refl
kind_back kind.CloseBrace = refl

pub kind-one : (j k : Terminal) → code j ≡ code k → j ≡ k
kind-one j k e = sym (kind_back j) ∙ ap kind_of e ∙ kind_back k
