-- The moves of the automaton that several of its states share.
use Rattle.std.specs.Prelude.{ℕ, Bool, true, false, ◌==◌, ◌||◌, if◌then◌else◌, Option, Some, None}
use Rattle.gs_model.specs.Characters.{quote, dot, colon, less_than, greater_than, at_sign, left_bracket, right_bracket, backslash, caret, underscore, is_iri_char}
use Rattle.gs_model.specs.Ascii.{big_u, small_u}
use Rattle.gs_model.specs.Punctuation.{dollar, percent, apostrophe, left_parenthesis, right_parenthesis, comma, semicolon, question_mark, left_brace, right_brace}
use Rattle.gs_automaton.specs.Classes as is
use Rattle.gs_automaton.specs.declared.terminals.Terminal.{Terminal}
use Rattle.gs_automaton.specs.declared.terminals.Terminal.TheVariants as kind
use Rattle.gs_automaton.specs.declared.states.State.{State}
use Rattle.gs_automaton.specs.declared.states.State.TheVariants as at
use Rattle.gs_automaton.specs.declared.states.Mark.{Mark}
use Rattle.gs_automaton.specs.declared.states.Mark.TheVariants as mark
use Rattle.gs_automaton.specs.declared.states.Text.{Text}
use Rattle.gs_automaton.specs.declared.states.Text.TheVariants as text
use Rattle.gs_automaton.specs.declared.states.Left.{Left}
use Rattle.gs_automaton.specs.declared.states.Left.TheVariants as left

-- the character of a quote
abbrev pub character_of : Mark → ℕ
character_of mark.Quote = quote
character_of mark.Apostrophe = apostrophe

-- the string between two such quotes
abbrev pub short_of : Mark → Terminal
short_of mark.Quote = kind.StringLiteralQuote
short_of mark.Apostrophe = kind.StringLiteralSingleQuote

-- and between three and three
abbrev pub long_of : Mark → Terminal
long_of mark.Quote = kind.StringLiteralLongQuote
long_of mark.Apostrophe = kind.StringLiteralLongSingleQuote

-- a token of one character
abbrev pub punctuation : ℕ → Option State
punctuation c =
    if c == semicolon then Some (at.Ended kind.Semicolon)
    else if c == comma then Some (at.Ended kind.Comma)
    else if c == left_bracket then Some (at.Ended kind.OpenBracket)
    else if c == right_bracket then Some (at.Ended kind.CloseBracket)
    else if c == left_parenthesis then Some (at.Ended kind.OpenParenthesis)
    else if c == right_parenthesis then Some (at.Ended kind.CloseParenthesis)
    else None

-- the first character of a token of Turtle
abbrev pub at_start : ℕ → Option State
at_start c =
    if c == less_than then Some (at.Inside text.Iri)
    else if c == quote then Some (at.First mark.Quote)
    else if c == apostrophe then Some (at.First mark.Apostrophe)
    else if c == colon then Some at.Namespace
    else if c == underscore then Some at.Underscore
    else if c == at_sign then Some at.AtSign
    else if c == dot then Some at.Dot
    else if c == caret then Some at.Caret
    else if is.is_sign c then Some at.Sign
    else if is.is_digit c then Some at.Integer
    else if is.is_prefix_start c then Some at.Word
    else punctuation c

-- and of a token of updates
abbrev pub at_update_start : ℕ → Option State
at_update_start c =
    if c == left_brace then Some (at.Ended kind.OpenBrace)
    else if c == right_brace then Some (at.Ended kind.CloseBrace)
    else if c == question_mark || c == dollar then Some at.VariableMark
    else at_start c

-- in an IRI or a string
abbrev pub inside : Text → ℕ → Option State
inside text.Iri c =
    if c == greater_than then Some (at.Ended kind.IriRef)
    else if c == backslash then Some (at.Escape text.Iri)
    else if is_iri_char c then Some (at.Inside text.Iri)
    else None
inside (text.Short m) c =
    if c == character_of m then Some (at.Ended (short_of m))
    else if c == backslash then Some (at.Escape (text.Short m))
    else if is.is_line_end c then None
    else Some (at.Inside (text.Short m))
inside (text.Long m) c =
    if c == character_of m then Some (at.OneMark m)
    else if c == backslash then Some (at.Escape (text.Long m))
    else Some (at.Inside (text.Long m))

-- whether ECHAR may stand there
abbrev pub has_echar : Text → Bool
has_echar text.Iri = false
has_echar (text.Short m) = true
has_echar (text.Long m) = true

-- after a backslash there
abbrev pub after_backslash : Text → ℕ → Option State
after_backslash t c =
    if c == small_u then Some (at.Hex t left.Four)
    else if c == big_u then Some (at.Hex t left.Eight)
    else if has_echar t then (if is.is_echar c then Some (at.Inside t) else None)
    else None

-- after one hexadecimal digit more of a UCHAR
abbrev pub after_hex : Text → Left → State
after_hex t left.One = at.Inside t
after_hex t left.Two = at.Hex t left.One
after_hex t left.Three = at.Hex t left.Two
after_hex t left.Four = at.Hex t left.Three
after_hex t left.Five = at.Hex t left.Four
after_hex t left.Six = at.Hex t left.Five
after_hex t left.Seven = at.Hex t left.Six
after_hex t left.Eight = at.Hex t left.Seven

-- in a local name
abbrev pub local : ℕ → Option State
local c =
    if is.is_local c then Some at.Local
    else if c == dot then Some at.LocalDots
    else if c == percent then Some at.Percent
    else if c == backslash then Some at.LocalEscape
    else None
