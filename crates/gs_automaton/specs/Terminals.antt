-- The terminals of Turtle (section 6.5), with the numbers of their productions, and those that SPARQL Update has
-- besides (SPARQL 1.1 Query, section 19.8). They say which form a token has: "\U00110000" (a value outside Unicode),
-- <\uD800> (a surrogate) and <a\u0020> (a character that no IRI has) are tokens. That these stand for no text is a rule of
-- gs_escape, which finds what escapes mean.
use Rattle.std.specs.Prelude.{ℕ, Bool, true, false, List}
use Rattle.gs_automaton.specs.Regexes.{Regex, Never, Empty, One, Then, Or, Many, Matches}
use Rattle.gs_automaton.specs.declared.terminals.Terminal.{Terminal}
use Rattle.gs_automaton.specs.declared.terminals.Terminal.TheVariants as kind
pub use Rattle.gs_automaton.specs.Chars.{Chars, Less, Greater, Quote, Apostrophe, Backslash, Colon, Underscore, AtSign, Dash, Dot, Percent, Caret, Semicolon, Comma, OpenBracket, CloseBracket, OpenParenthesis, CloseParenthesis, OpenBrace, CloseBrace, VariableMark, SmallU, BigU, IriChar, ShortQuoteChar, ShortApostropheChar, LongQuoteChar, LongApostropheChar, Echar, Hex, Digit, Sign, ExponentLetter, Alpha, Alphanumeric, Base, NameChar, LabelStart, LocalStart, LocalChar, LocalEscape, VariableChar, has_char}

-- a regular expression over those sets
abbrev pub Pattern : Type 0
Pattern = Regex Chars

infixr 6 ◌·◌
-- one after the other
abbrev pub ◌·◌ : Pattern → Pattern → Pattern
r · s = Then r s

infixr 5 ◌∣◌
-- one or the other
abbrev pub ◌∣◌ : Pattern → Pattern → Pattern
r ∣ s = Or r s

-- one or more
abbrev pub some : Pattern → Pattern
some r = r · Many r

-- one or none
abbrev pub maybe : Pattern → Pattern
maybe r = r ∣ Empty

-- a hexadecimal digit
abbrev pub hex : Pattern
hex = One Hex

-- [26] UCHAR
abbrev pub uchar : Pattern
uchar = (One Backslash · One SmallU · hex · hex · hex · hex) ∣ (One Backslash · One BigU · hex · hex · hex · hex · hex · hex · hex · hex)

-- [159s] ECHAR
abbrev pub echar : Pattern
echar = One Backslash · One Echar

-- [169s] PLX
abbrev pub plx : Pattern
plx = (One Percent · hex · hex) ∣ (One Backslash · One LocalEscape)

-- [167s] PN_PREFIX
abbrev pub prefix : Pattern
prefix = One Base · maybe (Many (One NameChar ∣ One Dot) · One NameChar)

-- [139s] PNAME_NS
abbrev pub namespace : Pattern
namespace = maybe prefix · One Colon

-- [168s] PN_LOCAL
abbrev pub local : Pattern
local = (One LocalStart ∣ plx) · maybe (Many (One LocalChar ∣ One Dot ∣ plx) · (One LocalChar ∣ plx))

-- digits, at least one
abbrev pub digits : Pattern
digits = some (One Digit)

-- a sign, or none
abbrev pub sign : Pattern
sign = maybe (One Sign)

-- [154s] EXPONENT
abbrev pub exponent : Pattern
exponent = One ExponentLetter · maybe (One Sign) · digits

-- [22] and [23], between quotes of one kind, of these characters and escapes
abbrev pub short_string : Chars → Chars → Pattern
short_string quote inner = One quote · Many (One inner ∣ echar ∣ uchar) · One quote

-- [24] and [25]
abbrev pub long_string : Chars → Chars → Pattern
long_string quote inner =
    One quote · One quote · One quote · Many (maybe (One quote ∣ (One quote · One quote)) · (One inner ∣ echar ∣ uchar))
    · One quote · One quote · One quote

-- in updates alone
abbrev pub if_updates : Bool → Pattern → Pattern
if_updates true r = r
if_updates false r = Never

-- the regular expression of each terminal
abbrev pub rule : Bool → Terminal → Pattern
-- [18] IRIREF
rule updates kind.IriRef = One Less · Many (One IriChar ∣ uchar) · One Greater
rule updates kind.PnameNs = namespace
-- [140s] PNAME_LN
rule updates kind.PnameLn = namespace · local
-- [141s] BLANK_NODE_LABEL
rule updates kind.BlankNodeLabel = One Underscore · One Colon · One LabelStart · maybe (Many (One NameChar ∣ One Dot) · One NameChar)
-- [144s] LANGTAG
rule updates kind.LangTag = One AtSign · some (One Alpha) · Many (One Dash · some (One Alphanumeric))
-- [19] INTEGER, [20] DECIMAL, [21] DOUBLE
rule updates kind.Integer = sign · digits
rule updates kind.Decimal = sign · Many (One Digit) · One Dot · digits
rule updates kind.Double = sign · ((digits · One Dot · Many (One Digit) · exponent) ∣ (One Dot · digits · exponent) ∣ (digits · exponent))
rule updates kind.StringLiteralQuote = short_string Quote ShortQuoteChar
rule updates kind.StringLiteralSingleQuote = short_string Apostrophe ShortApostropheChar
rule updates kind.StringLiteralLongQuote = long_string Quote LongQuoteChar
rule updates kind.StringLiteralLongSingleQuote = long_string Apostrophe LongApostropheChar
-- [143] VAR of SPARQL
rule updates kind.Var = if_updates updates (One VariableMark · One LabelStart · Many (One VariableChar))
-- a word of the grammar, whichever it is
rule updates kind.Word = One Base · Many (One NameChar)
-- three quotes open a long string, whether or not it ends
rule updates kind.Opening = (One Quote · One Quote · One Quote) ∣ (One Apostrophe · One Apostrophe · One Apostrophe)
rule updates kind.Dot = One Dot
rule updates kind.Semicolon = One Semicolon
rule updates kind.Comma = One Comma
rule updates kind.OpenBracket = One OpenBracket
rule updates kind.CloseBracket = One CloseBracket
rule updates kind.OpenParenthesis = One OpenParenthesis
rule updates kind.CloseParenthesis = One CloseParenthesis
rule updates kind.Carets = One Caret · One Caret
rule updates kind.OpenBrace = if_updates updates (One OpenBrace)
rule updates kind.CloseBrace = if_updates updates (One CloseBrace)

-- these characters are this terminal
abbrev pub IsTerminal : Bool → Terminal → List ℕ → Type 0
IsTerminal updates t w = Matches has_char (rule updates t) w
