-- The check that what is left of each terminal follows the automaton.
use Rattle.std.proofs.Common.{ℕ, Bool, true, false, List, [], ◌∷◌, Option, Some, None}
use Rattle.std.specs.Prelude.{◌==◌, ◌&&◌}
use Rattle.gs_automaton.specs.Regexes.{Never, Empty, One, Then, Or, Many}
use Rattle.gs_automaton.specs.Terminals.{Chars, Pattern, has_char, Less, Greater, Quote, Apostrophe, Backslash, Colon, Underscore, AtSign, Dash, Dot, Percent, Caret, Semicolon, Comma, OpenBracket, CloseBracket, OpenParenthesis, CloseParenthesis, OpenBrace, CloseBrace, VariableMark, SmallU, BigU, IriChar, ShortQuoteChar, ShortApostropheChar, LongQuoteChar, LongApostropheChar, Echar, Hex, Digit, Sign, ExponentLetter, Alpha, Alphanumeric, Base, NameChar, LabelStart, LocalStart, LocalChar, LocalEscape, VariableChar}
use Rattle.gs_automaton.specs.States.{state_after, accepts}
use Rattle.gs_automaton.specs.declared.terminals.Terminal.{Terminal}
use Rattle.gs_automaton.specs.declared.terminals.Terminal.TheVariants as kind
use Rattle.gs_automaton.specs.declared.states.State.{State}
use Rattle.gs_automaton.proofs.Derivatives.{nullable, derive}
use Rattle.gs_automaton.proofs.Residuals.{code, residual}
use Rattle.gs_automaton.proofs.AlikeLemmas.{boundaries}

-- each terminal once
abbrev pub kinds : List Terminal
kinds = kind.IriRef ∷ kind.PnameNs ∷ kind.PnameLn ∷ kind.BlankNodeLabel ∷ kind.LangTag ∷ kind.Integer ∷ kind.Decimal ∷ kind.Double ∷ kind.StringLiteralQuote ∷ kind.StringLiteralSingleQuote ∷ kind.StringLiteralLongQuote ∷ kind.StringLiteralLongSingleQuote ∷ kind.Var ∷ kind.Word ∷ kind.Opening ∷ kind.Dot ∷ kind.Semicolon ∷ kind.Comma ∷ kind.OpenBracket ∷ kind.CloseBracket ∷ kind.OpenParenthesis ∷ kind.CloseParenthesis ∷ kind.Carets ∷ kind.OpenBrace ∷ kind.CloseBrace ∷ []

-- a number for each set of characters
abbrev pub set_code : Chars → ℕ
set_code Less = 0
set_code Greater = 1
set_code Quote = 2
set_code Apostrophe = 3
set_code Backslash = 4
set_code Colon = 5
set_code Underscore = 6
set_code AtSign = 7
set_code Dash = 8
set_code Dot = 9
set_code Percent = 10
set_code Caret = 11
set_code Semicolon = 12
set_code Comma = 13
set_code OpenBracket = 14
set_code CloseBracket = 15
set_code OpenParenthesis = 16
set_code CloseParenthesis = 17
set_code OpenBrace = 18
set_code CloseBrace = 19
set_code VariableMark = 20
set_code SmallU = 21
set_code BigU = 22
set_code IriChar = 23
set_code ShortQuoteChar = 24
set_code ShortApostropheChar = 25
set_code LongQuoteChar = 26
set_code LongApostropheChar = 27
set_code Echar = 28
set_code Hex = 29
set_code Digit = 30
set_code Sign = 31
set_code ExponentLetter = 32
set_code Alpha = 33
set_code Alphanumeric = 34
set_code Base = 35
set_code NameChar = 36
set_code LabelStart = 37
set_code LocalStart = 38
set_code LocalChar = 39
set_code LocalEscape = 40
set_code VariableChar = 41

-- the same expression, sign by sign
abbrev pub same : Pattern → Pattern → Bool
same Never Never = true
same Empty Empty = true
same (One m) (One n) = set_code m == set_code n
same (Then r s) (Then t u) = same r t && same s u
same (Or r s) (Or t u) = same r t && same s u
same (Many r) (Many s) = same r s
same _ _ = false

-- what is to be left after a character
abbrev pub target : Option State → Terminal → Pattern
target None k = Never
target (Some q) k = residual q k

-- After the character c, what is left of each of these terminals is what is left in the state o.
abbrev pub follows : State → ℕ → Option State → List Terminal → Bool
follows q c o [] = true
follows q c o (k ∷ ks) = same (derive has_char c (residual q k)) (target o k) && follows q c o ks

-- the same for each of these characters
abbrev pub follows_all : State → List ℕ → Bool
follows_all q [] = true
follows_all q (c ∷ cs) = follows q c (state_after q c) kinds && follows_all q cs

-- the state ends a token of this kind
abbrev pub is_kind : Option Terminal → Terminal → Bool
is_kind None k = false
is_kind (Some j) k = code j == code k

-- both, or neither
abbrev pub same_answer : Bool → Bool → Bool
same_answer true b = b
same_answer false true = false
same_answer false false = true

-- The state ends a token of just those kinds of which nothing need be left.
abbrev pub ends : State → List Terminal → Bool
ends q [] = true
ends q (k ∷ ks) = same_answer (is_kind (accepts q) k) (nullable (residual q k)) && ends q ks

-- the state is right: by one character between each two boundaries of classes
abbrev pub check : State → Bool
check q = ends q kinds && follows_all q boundaries
