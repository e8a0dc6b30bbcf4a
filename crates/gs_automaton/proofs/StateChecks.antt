-- Each state of the automaton is right: what is left of each terminal follows it. By computation, state by state.
use Rattle.std.proofs.Common.{◌≡◌, true, refl}
use Rattle.gs_automaton.specs.declared.terminals.Terminal.{Terminal}
use Rattle.gs_automaton.specs.declared.terminals.Terminal.TheVariants as kind
use Rattle.gs_automaton.specs.declared.states.State.{State}
use Rattle.gs_automaton.specs.declared.states.State.TheVariants as at
use Rattle.gs_automaton.specs.declared.states.Mark.{Mark}
use Rattle.gs_automaton.specs.declared.states.Mark.TheVariants as mark
use Rattle.gs_automaton.specs.declared.states.Text.{Text}
use Rattle.gs_automaton.specs.declared.states.Text.TheVariants as text
use Rattle.gs_automaton.specs.declared.states.Left.{Left}
use Rattle.gs_automaton.specs.declared.states.Left.TheVariants as left
use Rattle.gs_automaton.proofs.Checks.{check}

-- in an IRI or a string
right-inside : (t : Text) → check (at.Inside t) ≡ true
right-inside text.Iri = refl
right-inside (text.Short mark.Quote) = refl
right-inside (text.Short mark.Apostrophe) = refl
right-inside (text.Long mark.Quote) = refl
right-inside (text.Long mark.Apostrophe) = refl

-- after a backslash in one
right-escape : (t : Text) → check (at.Escape t) ≡ true
right-escape text.Iri = refl
right-escape (text.Short mark.Quote) = refl
right-escape (text.Short mark.Apostrophe) = refl
right-escape (text.Long mark.Quote) = refl
right-escape (text.Long mark.Apostrophe) = refl

-- in the digits of an escape
right-hex : (t : Text) (n : Left) → check (at.Hex t n) ≡ true
right-hex text.Iri left.One = refl
right-hex text.Iri left.Two = refl
right-hex text.Iri left.Three = refl
right-hex text.Iri left.Four = refl
right-hex text.Iri left.Five = refl
right-hex text.Iri left.Six = refl
right-hex text.Iri left.Seven = refl
right-hex text.Iri left.Eight = refl
right-hex (text.Short mark.Quote) left.One = refl
right-hex (text.Short mark.Quote) left.Two = refl
right-hex (text.Short mark.Quote) left.Three = refl
right-hex (text.Short mark.Quote) left.Four = refl
right-hex (text.Short mark.Quote) left.Five = refl
right-hex (text.Short mark.Quote) left.Six = refl
right-hex (text.Short mark.Quote) left.Seven = refl
right-hex (text.Short mark.Quote) left.Eight = refl
right-hex (text.Short mark.Apostrophe) left.One = refl
right-hex (text.Short mark.Apostrophe) left.Two = refl
right-hex (text.Short mark.Apostrophe) left.Three = refl
right-hex (text.Short mark.Apostrophe) left.Four = refl
right-hex (text.Short mark.Apostrophe) left.Five = refl
right-hex (text.Short mark.Apostrophe) left.Six = refl
right-hex (text.Short mark.Apostrophe) left.Seven = refl
right-hex (text.Short mark.Apostrophe) left.Eight = refl
right-hex (text.Long mark.Quote) left.One = refl
right-hex (text.Long mark.Quote) left.Two = refl
right-hex (text.Long mark.Quote) left.Three = refl
right-hex (text.Long mark.Quote) left.Four = refl
right-hex (text.Long mark.Quote) left.Five = refl
right-hex (text.Long mark.Quote) left.Six = refl
right-hex (text.Long mark.Quote) left.Seven = refl
right-hex (text.Long mark.Quote) left.Eight = refl
right-hex (text.Long mark.Apostrophe) left.One = refl
right-hex (text.Long mark.Apostrophe) left.Two = refl
right-hex (text.Long mark.Apostrophe) left.Three = refl
right-hex (text.Long mark.Apostrophe) left.Four = refl
right-hex (text.Long mark.Apostrophe) left.Five = refl
right-hex (text.Long mark.Apostrophe) left.Six = refl
right-hex (text.Long mark.Apostrophe) left.Seven = refl
right-hex (text.Long mark.Apostrophe) left.Eight = refl

-- after a quote that opens a string
right-first : (m : Mark) → check (at.First m) ≡ true
right-first mark.Quote = refl
right-first mark.Apostrophe = refl

-- after two
right-empty : (m : Mark) → check (at.Empty m) ≡ true
right-empty mark.Quote = refl
right-empty mark.Apostrophe = refl

-- after three
right-opened : (m : Mark) → check (at.Opened m) ≡ true
right-opened mark.Quote = refl
right-opened mark.Apostrophe = refl

-- after one quote in a long string
right-one-mark : (m : Mark) → check (at.OneMark m) ≡ true
right-one-mark mark.Quote = refl
right-one-mark mark.Apostrophe = refl

-- after two in a long string
right-two-marks : (m : Mark) → check (at.TwoMarks m) ≡ true
right-two-marks mark.Quote = refl
right-two-marks mark.Apostrophe = refl

-- after a token that no character goes on with
right-ended : (k : Terminal) → check (at.Ended k) ≡ true
right-ended kind.IriRef = refl
right-ended kind.PnameNs = refl
right-ended kind.PnameLn = refl
right-ended kind.BlankNodeLabel = refl
right-ended kind.LangTag = refl
right-ended kind.Integer = refl
right-ended kind.Decimal = refl
right-ended kind.Double = refl
right-ended kind.StringLiteralQuote = refl
right-ended kind.StringLiteralSingleQuote = refl
right-ended kind.StringLiteralLongQuote = refl
right-ended kind.StringLiteralLongSingleQuote = refl
right-ended kind.Var = refl
right-ended kind.Word = refl
right-ended kind.Opening = refl
right-ended kind.Dot = refl
right-ended kind.Semicolon = refl
right-ended kind.Comma = refl
right-ended kind.OpenBracket = refl
right-ended kind.CloseBracket = refl
right-ended kind.OpenParenthesis = refl
right-ended kind.CloseParenthesis = refl
right-ended kind.Carets = refl
right-ended kind.OpenBrace = refl
right-ended kind.CloseBrace = refl

-- each state is right
pub right : (q : State) → check q ≡ true
right (at.Inside t) = right-inside t
right (at.Escape t) = right-escape t
right (at.Hex t n) = right-hex t n
right (at.First m) = right-first m
right (at.Empty m) = right-empty m
right (at.Opened m) = right-opened m
right (at.OneMark m) = right-one-mark m
right (at.TwoMarks m) = right-two-marks m
right (at.Ended k) = right-ended k
right at.UpdateStart = refl
right at.Start = refl
right at.Underscore = refl
right at.LabelColon = refl
right at.Label = refl
right at.LabelDots = refl
right at.AtSign = refl
right at.Tag = refl
right at.TagDash = refl
right at.TagPart = refl
right at.Sign = refl
right at.SignDot = refl
right at.Dot = refl
right at.Integer = refl
right at.IntegerDot = refl
right at.IntegerFraction = refl
right at.Fraction = refl
right at.Exponent = refl
right at.ExponentSign = refl
right at.ExponentDigits = refl
right at.Word = refl
right at.WordDots = refl
right at.WordMore = refl
right at.Namespace = refl
right at.FirstPercent = refl
right at.FirstPercentOne = refl
right at.FirstEscape = refl
right at.Local = refl
right at.LocalDots = refl
right at.Percent = refl
right at.PercentOne = refl
right at.LocalEscape = refl
right at.VariableMark = refl
right at.Variable = refl
right at.Caret = refl
