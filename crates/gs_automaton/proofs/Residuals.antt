-- What is left of each terminal where the automaton stands.
use Rattle.std.specs.Prelude.{ℕ, true, false, ◌==◌, if◌then◌else◌}
use Rattle.gs_automaton.specs.Regexes.{Never, Empty, One, Many}
use Rattle.gs_automaton.specs.Terminals.{Pattern, ◌·◌, ◌∣◌, plx, local, digits, exponent, uchar, echar, hex, rule, Greater, Quote, Apostrophe, Colon, Dash, Dot, Caret, SmallU, BigU, IriChar, ShortQuoteChar, ShortApostropheChar, LongQuoteChar, LongApostropheChar, Echar, Digit, Sign, Alpha, Alphanumeric, NameChar, LabelStart, LocalChar, LocalEscape, VariableChar}
use Rattle.gs_automaton.specs.declared.terminals.Terminal.{Terminal}
use Rattle.gs_automaton.specs.declared.terminals.Terminal.TheVariants as kind
use Rattle.gs_automaton.specs.declared.states.State.{State}
use Rattle.gs_automaton.specs.declared.states.State.TheVariants as at
use Rattle.gs_automaton.specs.declared.states.Mark.TheVariants as mark
use Rattle.gs_automaton.specs.declared.states.Text.TheVariants as text
use Rattle.gs_automaton.specs.declared.states.Left.TheVariants as left

abbrev pub code : Terminal → ℕ
code kind.IriRef = 0
code kind.PnameNs = 1
code kind.PnameLn = 2
code kind.BlankNodeLabel = 3
code kind.LangTag = 4
code kind.Integer = 5
code kind.Decimal = 6
code kind.Double = 7
code kind.StringLiteralQuote = 8
code kind.StringLiteralSingleQuote = 9
code kind.StringLiteralLongQuote = 10
code kind.StringLiteralLongSingleQuote = 11
code kind.Var = 12
code kind.Word = 13
code kind.Opening = 14
code kind.Dot = 15
code kind.Semicolon = 16
code kind.Comma = 17
code kind.OpenBracket = 18
code kind.CloseBracket = 19
code kind.OpenParenthesis = 20
code kind.CloseParenthesis = 21
code kind.Carets = 22
code kind.OpenBrace = 23
code kind.CloseBrace = 24

abbrev pub none : Terminal → Pattern
none j = Never

-- this for one terminal, and for the others as before
abbrev pub pick : Terminal → Pattern → (Terminal → Pattern) → Terminal → Pattern
pick k r f j = if code k == code j then r else f j

abbrev pub iri_rest : Pattern
iri_rest = Many (One IriChar ∣ uchar) · One Greater

abbrev pub dotted_names : Pattern
dotted_names = Many (One NameChar ∣ One Dot) · One NameChar ∣ Empty

abbrev pub dotted_locals : Pattern
dotted_locals = Many (One LocalChar ∣ One Dot ∣ plx) · (One LocalChar ∣ plx) ∣ Empty

abbrev pub quote_rest : Pattern
quote_rest = Many (One ShortQuoteChar ∣ echar ∣ uchar) · One Quote

abbrev pub long_quote_part : Pattern
long_quote_part = Many (((One Quote ∣ One Quote · One Quote) ∣ Empty) · (One LongQuoteChar ∣ echar ∣ uchar))

abbrev pub long_quote_rest : Pattern
long_quote_rest = long_quote_part · One Quote · One Quote · One Quote

abbrev pub apostrophe_rest : Pattern
apostrophe_rest = Many (One ShortApostropheChar ∣ echar ∣ uchar) · One Apostrophe

abbrev pub long_apostrophe_part : Pattern
long_apostrophe_part = Many (((One Apostrophe ∣ One Apostrophe · One Apostrophe) ∣ Empty) · (One LongApostropheChar ∣ echar ∣ uchar))

abbrev pub long_apostrophe_rest : Pattern
long_apostrophe_rest = long_apostrophe_part · One Apostrophe · One Apostrophe · One Apostrophe

abbrev pub hex2 : Pattern
hex2 = hex · hex

abbrev pub hex3 : Pattern
hex3 = hex · hex2

abbrev pub hex4 : Pattern
hex4 = hex · hex3

abbrev pub hex5 : Pattern
hex5 = hex · hex4

abbrev pub hex6 : Pattern
hex6 = hex · hex5

abbrev pub hex7 : Pattern
hex7 = hex · hex6

abbrev pub hex8 : Pattern
hex8 = hex · hex7

abbrev pub residual : State → Terminal → Pattern
residual at.Start = rule false
residual at.UpdateStart = rule true
residual (at.Ended k) = pick k Empty none
residual at.AtSign = pick kind.LangTag ((One Alpha · Many (One Alpha)) · Many (One Dash · One Alphanumeric · Many (One Alphanumeric))) none
residual at.Caret = pick kind.Carets (One Caret) none
residual at.Dot = pick kind.Decimal digits (pick kind.Double (digits · exponent) (pick kind.Dot Empty none))
residual (at.Empty mark.Apostrophe) = pick kind.StringLiteralSingleQuote Empty (pick kind.StringLiteralLongSingleQuote (One Apostrophe · long_apostrophe_rest) (pick kind.Opening (One Apostrophe) none))
residual (at.Empty mark.Quote) = pick kind.StringLiteralQuote Empty (pick kind.StringLiteralLongQuote (One Quote · long_quote_rest) (pick kind.Opening (One Quote) none))
residual (at.Escape text.Iri) = pick kind.IriRef (((One SmallU · hex4 ∣ One BigU · hex8) · Many (One IriChar ∣ uchar)) · One Greater) none
residual (at.Escape (text.Long mark.Apostrophe)) = pick kind.StringLiteralLongSingleQuote (((One Echar ∣ One SmallU · hex4 ∣ One BigU · hex8) · long_apostrophe_part) · One Apostrophe · One Apostrophe · One Apostrophe) none
residual (at.Escape (text.Long mark.Quote)) = pick kind.StringLiteralLongQuote (((One Echar ∣ One SmallU · hex4 ∣ One BigU · hex8) · long_quote_part) · One Quote · One Quote · One Quote) none
residual (at.Escape (text.Short mark.Apostrophe)) = pick kind.StringLiteralSingleQuote (((One Echar ∣ One SmallU · hex4 ∣ One BigU · hex8) · Many (One ShortApostropheChar ∣ echar ∣ uchar)) · One Apostrophe) none
residual (at.Escape (text.Short mark.Quote)) = pick kind.StringLiteralQuote (((One Echar ∣ One SmallU · hex4 ∣ One BigU · hex8) · Many (One ShortQuoteChar ∣ echar ∣ uchar)) · One Quote) none
residual at.Exponent = pick kind.Double ((One Sign ∣ Empty) · digits) none
residual at.ExponentDigits = pick kind.Double (Many (One Digit)) none
residual at.ExponentSign = pick kind.Double digits none
residual (at.First mark.Apostrophe) = pick kind.StringLiteralSingleQuote apostrophe_rest (pick kind.StringLiteralLongSingleQuote (One Apostrophe · One Apostrophe · long_apostrophe_rest) (pick kind.Opening (One Apostrophe · One Apostrophe) none))
residual (at.First mark.Quote) = pick kind.StringLiteralQuote quote_rest (pick kind.StringLiteralLongQuote (One Quote · One Quote · long_quote_rest) (pick kind.Opening (One Quote · One Quote) none))
residual at.FirstEscape = pick kind.PnameLn (One LocalEscape · dotted_locals) none
residual at.FirstPercent = pick kind.PnameLn (hex2 · dotted_locals) none
residual at.FirstPercentOne = pick kind.PnameLn (hex · dotted_locals) none
residual at.Fraction = pick kind.Decimal (Many (One Digit)) (pick kind.Double (Many (One Digit) · exponent) none)
residual (at.Hex text.Iri left.Eight) = pick kind.IriRef ((hex8 · Many (One IriChar ∣ uchar)) · One Greater) none
residual (at.Hex text.Iri left.Five) = pick kind.IriRef ((hex5 · Many (One IriChar ∣ uchar)) · One Greater) none
residual (at.Hex text.Iri left.Four) = pick kind.IriRef ((hex4 · Many (One IriChar ∣ uchar)) · One Greater) none
residual (at.Hex text.Iri left.One) = pick kind.IriRef ((hex · Many (One IriChar ∣ uchar)) · One Greater) none
residual (at.Hex text.Iri left.Seven) = pick kind.IriRef ((hex7 · Many (One IriChar ∣ uchar)) · One Greater) none
residual (at.Hex text.Iri left.Six) = pick kind.IriRef ((hex6 · Many (One IriChar ∣ uchar)) · One Greater) none
residual (at.Hex text.Iri left.Three) = pick kind.IriRef ((hex3 · Many (One IriChar ∣ uchar)) · One Greater) none
residual (at.Hex text.Iri left.Two) = pick kind.IriRef ((hex2 · Many (One IriChar ∣ uchar)) · One Greater) none
residual (at.Hex (text.Long mark.Apostrophe) left.Eight) = pick kind.StringLiteralLongSingleQuote ((hex8 · long_apostrophe_part) · One Apostrophe · One Apostrophe · One Apostrophe) none
residual (at.Hex (text.Long mark.Apostrophe) left.Five) = pick kind.StringLiteralLongSingleQuote ((hex5 · long_apostrophe_part) · One Apostrophe · One Apostrophe · One Apostrophe) none
residual (at.Hex (text.Long mark.Apostrophe) left.Four) = pick kind.StringLiteralLongSingleQuote ((hex4 · long_apostrophe_part) · One Apostrophe · One Apostrophe · One Apostrophe) none
residual (at.Hex (text.Long mark.Apostrophe) left.One) = pick kind.StringLiteralLongSingleQuote ((hex · long_apostrophe_part) · One Apostrophe · One Apostrophe · One Apostrophe) none
residual (at.Hex (text.Long mark.Apostrophe) left.Seven) = pick kind.StringLiteralLongSingleQuote ((hex7 · long_apostrophe_part) · One Apostrophe · One Apostrophe · One Apostrophe) none
residual (at.Hex (text.Long mark.Apostrophe) left.Six) = pick kind.StringLiteralLongSingleQuote ((hex6 · long_apostrophe_part) · One Apostrophe · One Apostrophe · One Apostrophe) none
residual (at.Hex (text.Long mark.Apostrophe) left.Three) = pick kind.StringLiteralLongSingleQuote ((hex3 · long_apostrophe_part) · One Apostrophe · One Apostrophe · One Apostrophe) none
residual (at.Hex (text.Long mark.Apostrophe) left.Two) = pick kind.StringLiteralLongSingleQuote ((hex2 · long_apostrophe_part) · One Apostrophe · One Apostrophe · One Apostrophe) none
residual (at.Hex (text.Long mark.Quote) left.Eight) = pick kind.StringLiteralLongQuote ((hex8 · long_quote_part) · One Quote · One Quote · One Quote) none
residual (at.Hex (text.Long mark.Quote) left.Five) = pick kind.StringLiteralLongQuote ((hex5 · long_quote_part) · One Quote · One Quote · One Quote) none
residual (at.Hex (text.Long mark.Quote) left.Four) = pick kind.StringLiteralLongQuote ((hex4 · long_quote_part) · One Quote · One Quote · One Quote) none
residual (at.Hex (text.Long mark.Quote) left.One) = pick kind.StringLiteralLongQuote ((hex · long_quote_part) · One Quote · One Quote · One Quote) none
residual (at.Hex (text.Long mark.Quote) left.Seven) = pick kind.StringLiteralLongQuote ((hex7 · long_quote_part) · One Quote · One Quote · One Quote) none
residual (at.Hex (text.Long mark.Quote) left.Six) = pick kind.StringLiteralLongQuote ((hex6 · long_quote_part) · One Quote · One Quote · One Quote) none
residual (at.Hex (text.Long mark.Quote) left.Three) = pick kind.StringLiteralLongQuote ((hex3 · long_quote_part) · One Quote · One Quote · One Quote) none
residual (at.Hex (text.Long mark.Quote) left.Two) = pick kind.StringLiteralLongQuote ((hex2 · long_quote_part) · One Quote · One Quote · One Quote) none
residual (at.Hex (text.Short mark.Apostrophe) left.Eight) = pick kind.StringLiteralSingleQuote ((hex8 · Many (One ShortApostropheChar ∣ echar ∣ uchar)) · One Apostrophe) none
residual (at.Hex (text.Short mark.Apostrophe) left.Five) = pick kind.StringLiteralSingleQuote ((hex5 · Many (One ShortApostropheChar ∣ echar ∣ uchar)) · One Apostrophe) none
residual (at.Hex (text.Short mark.Apostrophe) left.Four) = pick kind.StringLiteralSingleQuote ((hex4 · Many (One ShortApostropheChar ∣ echar ∣ uchar)) · One Apostrophe) none
residual (at.Hex (text.Short mark.Apostrophe) left.One) = pick kind.StringLiteralSingleQuote ((hex · Many (One ShortApostropheChar ∣ echar ∣ uchar)) · One Apostrophe) none
residual (at.Hex (text.Short mark.Apostrophe) left.Seven) = pick kind.StringLiteralSingleQuote ((hex7 · Many (One ShortApostropheChar ∣ echar ∣ uchar)) · One Apostrophe) none
residual (at.Hex (text.Short mark.Apostrophe) left.Six) = pick kind.StringLiteralSingleQuote ((hex6 · Many (One ShortApostropheChar ∣ echar ∣ uchar)) · One Apostrophe) none
residual (at.Hex (text.Short mark.Apostrophe) left.Three) = pick kind.StringLiteralSingleQuote ((hex3 · Many (One ShortApostropheChar ∣ echar ∣ uchar)) · One Apostrophe) none
residual (at.Hex (text.Short mark.Apostrophe) left.Two) = pick kind.StringLiteralSingleQuote ((hex2 · Many (One ShortApostropheChar ∣ echar ∣ uchar)) · One Apostrophe) none
residual (at.Hex (text.Short mark.Quote) left.Eight) = pick kind.StringLiteralQuote ((hex8 · Many (One ShortQuoteChar ∣ echar ∣ uchar)) · One Quote) none
residual (at.Hex (text.Short mark.Quote) left.Five) = pick kind.StringLiteralQuote ((hex5 · Many (One ShortQuoteChar ∣ echar ∣ uchar)) · One Quote) none
residual (at.Hex (text.Short mark.Quote) left.Four) = pick kind.StringLiteralQuote ((hex4 · Many (One ShortQuoteChar ∣ echar ∣ uchar)) · One Quote) none
residual (at.Hex (text.Short mark.Quote) left.One) = pick kind.StringLiteralQuote ((hex · Many (One ShortQuoteChar ∣ echar ∣ uchar)) · One Quote) none
residual (at.Hex (text.Short mark.Quote) left.Seven) = pick kind.StringLiteralQuote ((hex7 · Many (One ShortQuoteChar ∣ echar ∣ uchar)) · One Quote) none
residual (at.Hex (text.Short mark.Quote) left.Six) = pick kind.StringLiteralQuote ((hex6 · Many (One ShortQuoteChar ∣ echar ∣ uchar)) · One Quote) none
residual (at.Hex (text.Short mark.Quote) left.Three) = pick kind.StringLiteralQuote ((hex3 · Many (One ShortQuoteChar ∣ echar ∣ uchar)) · One Quote) none
residual (at.Hex (text.Short mark.Quote) left.Two) = pick kind.StringLiteralQuote ((hex2 · Many (One ShortQuoteChar ∣ echar ∣ uchar)) · One Quote) none
residual (at.Inside text.Iri) = pick kind.IriRef iri_rest none
residual (at.Inside (text.Long mark.Apostrophe)) = pick kind.StringLiteralLongSingleQuote long_apostrophe_rest none
residual (at.Inside (text.Long mark.Quote)) = pick kind.StringLiteralLongQuote long_quote_rest none
residual (at.Inside (text.Short mark.Apostrophe)) = pick kind.StringLiteralSingleQuote apostrophe_rest none
residual (at.Inside (text.Short mark.Quote)) = pick kind.StringLiteralQuote quote_rest none
residual at.Integer = pick kind.Integer (Many (One Digit)) (pick kind.Decimal (Many (One Digit) · One Dot · digits) (pick kind.Double (Many (One Digit) · One Dot · Many (One Digit) · exponent ∣ Many (One Digit) · exponent) none))
residual at.IntegerDot = pick kind.Decimal digits (pick kind.Double (Many (One Digit) · exponent) none)
residual at.IntegerFraction = pick kind.Decimal (Many (One Digit)) (pick kind.Double (Many (One Digit) · exponent) none)
residual at.Label = pick kind.BlankNodeLabel dotted_names none
residual at.LabelColon = pick kind.BlankNodeLabel (One LabelStart · dotted_names) none
residual at.LabelDots = pick kind.BlankNodeLabel (Many (One NameChar ∣ One Dot) · One NameChar) none
residual at.Local = pick kind.PnameLn dotted_locals none
residual at.LocalDots = pick kind.PnameLn (Many (One LocalChar ∣ One Dot ∣ plx) · (One LocalChar ∣ plx)) none
residual at.LocalEscape = pick kind.PnameLn ((One LocalEscape · Many (One LocalChar ∣ One Dot ∣ plx)) · (One LocalChar ∣ plx) ∣ One LocalEscape) none
residual at.Namespace = pick kind.PnameNs Empty (pick kind.PnameLn local none)
residual (at.OneMark mark.Apostrophe) = pick kind.StringLiteralLongSingleQuote ((((Empty ∣ One Apostrophe) · (One LongApostropheChar ∣ echar ∣ uchar)) · long_apostrophe_part) · One Apostrophe · One Apostrophe · One Apostrophe ∣ One Apostrophe · One Apostrophe) none
residual (at.OneMark mark.Quote) = pick kind.StringLiteralLongQuote ((((Empty ∣ One Quote) · (One LongQuoteChar ∣ echar ∣ uchar)) · long_quote_part) · One Quote · One Quote · One Quote ∣ One Quote · One Quote) none
residual (at.Opened mark.Apostrophe) = pick kind.StringLiteralLongSingleQuote long_apostrophe_rest (pick kind.Opening Empty none)
residual (at.Opened mark.Quote) = pick kind.StringLiteralLongQuote long_quote_rest (pick kind.Opening Empty none)
residual at.Percent = pick kind.PnameLn ((hex2 · Many (One LocalChar ∣ One Dot ∣ plx)) · (One LocalChar ∣ plx) ∣ hex2) none
residual at.PercentOne = pick kind.PnameLn ((hex · Many (One LocalChar ∣ One Dot ∣ plx)) · (One LocalChar ∣ plx) ∣ hex) none
residual at.Sign = pick kind.Integer digits (pick kind.Decimal (Many (One Digit) · One Dot · digits) (pick kind.Double (digits · One Dot · Many (One Digit) · exponent ∣ One Dot · digits · exponent ∣ digits · exponent) none))
residual at.SignDot = pick kind.Decimal digits (pick kind.Double (digits · exponent) none)
residual at.Tag = pick kind.LangTag (Many (One Alpha) · Many (One Dash · One Alphanumeric · Many (One Alphanumeric))) none
residual at.TagDash = pick kind.LangTag ((One Alphanumeric · Many (One Alphanumeric)) · Many (One Dash · One Alphanumeric · Many (One Alphanumeric))) none
residual at.TagPart = pick kind.LangTag (Many (One Alphanumeric) · Many (One Dash · One Alphanumeric · Many (One Alphanumeric))) none
residual (at.TwoMarks mark.Apostrophe) = pick kind.StringLiteralLongSingleQuote (((One LongApostropheChar ∣ echar ∣ uchar) · long_apostrophe_part) · One Apostrophe · One Apostrophe · One Apostrophe ∣ One Apostrophe) none
residual (at.TwoMarks mark.Quote) = pick kind.StringLiteralLongQuote (((One LongQuoteChar ∣ echar ∣ uchar) · long_quote_part) · One Quote · One Quote · One Quote ∣ One Quote) none
residual at.Underscore = pick kind.BlankNodeLabel (One Colon · One LabelStart · dotted_names) none
residual at.Variable = pick kind.Var (Many (One VariableChar)) none
residual at.VariableMark = pick kind.Var (One LabelStart · Many (One VariableChar)) none
residual at.Word = pick kind.PnameNs (dotted_names · One Colon) (pick kind.PnameLn ((dotted_names · One Colon) · local) (pick kind.Word (Many (One NameChar)) none))
residual at.WordDots = pick kind.PnameNs ((Many (One NameChar ∣ One Dot) · One NameChar) · One Colon) (pick kind.PnameLn (((Many (One NameChar ∣ One Dot) · One NameChar) · One Colon) · local) none)
residual at.WordMore = pick kind.PnameNs (dotted_names · One Colon) (pick kind.PnameLn ((dotted_names · One Colon) · local) none)
