-- The automaton that finds the tokens.
use Rattle.std.specs.Prelude.{ℕ, Bool, true, false, ◌==◌, if◌then◌else◌, Option, Some, None}
use Rattle.gs_model.specs.Characters.{hyphen, dot, colon, backslash, caret}
use Rattle.gs_model.specs.Punctuation.{percent}
use Rattle.gs_automaton.specs.Classes as is
use Rattle.gs_automaton.specs.Automata.{Automaton}
use Rattle.gs_automaton.specs.declared.terminals.Terminal.{Terminal}
use Rattle.gs_automaton.specs.declared.terminals.Terminal.TheVariants as kind
use Rattle.gs_automaton.specs.declared.states.State.{State}
use Rattle.gs_automaton.specs.declared.states.State.TheVariants as at
use Rattle.gs_automaton.specs.declared.states.Text.TheVariants as text
pub use Rattle.gs_automaton.specs.Moves.{character_of, short_of, long_of, punctuation, at_start, at_update_start, inside, has_echar, after_backslash, after_hex, local}

-- the state after a character; none where no token goes on so
abbrev pub state_after : State → ℕ → Option State
state_after at.Start c = at_start c
state_after at.UpdateStart c = at_update_start c
state_after (at.Inside t) c = inside t c
state_after (at.Escape t) c = after_backslash t c
state_after (at.Hex t n) c = if is.is_hex c then Some (after_hex t n) else None
state_after (at.Ended k) c = None
state_after (at.First m) c = if c == character_of m then Some (at.Empty m) else inside (text.Short m) c
state_after (at.Empty m) c = if c == character_of m then Some (at.Opened m) else None
state_after (at.Opened m) c = inside (text.Long m) c
state_after (at.OneMark m) c = if c == character_of m then Some (at.TwoMarks m) else inside (text.Long m) c
state_after (at.TwoMarks m) c = if c == character_of m then Some (at.Ended (long_of m)) else inside (text.Long m) c
state_after at.Underscore c = if c == colon then Some at.LabelColon else None
state_after at.LabelColon c = if is.is_label_start c then Some at.Label else None
state_after at.Label c = if is.is_name_char c then Some at.Label else if c == dot then Some at.LabelDots else None
state_after at.LabelDots c = if is.is_name_char c then Some at.Label else if c == dot then Some at.LabelDots else None
state_after at.AtSign c = if is.is_alpha c then Some at.Tag else None
state_after at.Tag c = if is.is_alpha c then Some at.Tag else if c == hyphen then Some at.TagDash else None
state_after at.TagDash c = if is.is_alphanumeric c then Some at.TagPart else None
state_after at.TagPart c = if is.is_alphanumeric c then Some at.TagPart else if c == hyphen then Some at.TagDash else None
state_after at.Sign c = if is.is_digit c then Some at.Integer else if c == dot then Some at.SignDot else None
state_after at.SignDot c = if is.is_digit c then Some at.Fraction else None
state_after at.Dot c = if is.is_digit c then Some at.Fraction else None
state_after at.Integer c = if is.is_digit c then Some at.Integer else if c == dot then Some at.IntegerDot else if is.is_exponent c then Some at.Exponent else None
state_after at.IntegerDot c = if is.is_digit c then Some at.IntegerFraction else if is.is_exponent c then Some at.Exponent else None
state_after at.IntegerFraction c = if is.is_digit c then Some at.IntegerFraction else if is.is_exponent c then Some at.Exponent else None
state_after at.Fraction c = if is.is_digit c then Some at.Fraction else if is.is_exponent c then Some at.Exponent else None
state_after at.Exponent c = if is.is_digit c then Some at.ExponentDigits else if is.is_sign c then Some at.ExponentSign else None
state_after at.ExponentSign c = if is.is_digit c then Some at.ExponentDigits else None
state_after at.ExponentDigits c = if is.is_digit c then Some at.ExponentDigits else None
state_after at.Word c = if is.is_name_char c then Some at.Word else if c == dot then Some at.WordDots else if c == colon then Some at.Namespace else None
state_after at.WordDots c = if is.is_name_char c then Some at.WordMore else if c == dot then Some at.WordDots else None
state_after at.WordMore c = if is.is_name_char c then Some at.WordMore else if c == dot then Some at.WordDots else if c == colon then Some at.Namespace else None
state_after at.Namespace c = if is.is_local_start c then Some at.Local else if c == percent then Some at.FirstPercent else if c == backslash then Some at.FirstEscape else None
state_after at.FirstPercent c = if is.is_hex c then Some at.FirstPercentOne else None
state_after at.FirstPercentOne c = if is.is_hex c then Some at.Local else None
state_after at.FirstEscape c = if is.is_local_escape c then Some at.Local else None
state_after at.Local c = local c
state_after at.LocalDots c = local c
state_after at.Percent c = if is.is_hex c then Some at.PercentOne else None
state_after at.PercentOne c = if is.is_hex c then Some at.Local else None
state_after at.LocalEscape c = if is.is_local_escape c then Some at.Local else None
state_after at.VariableMark c = if is.is_label_start c then Some at.Variable else None
state_after at.Variable c = if is.is_variable c then Some at.Variable else None
state_after at.Caret c = if c == caret then Some (at.Ended kind.Carets) else None

-- what the text so far is
abbrev pub accepts : State → Option Terminal
accepts (at.Ended k) = Some k
accepts (at.Empty m) = Some (short_of m)
accepts (at.Opened m) = Some kind.Opening
accepts at.Label = Some kind.BlankNodeLabel
accepts at.Tag = Some kind.LangTag
accepts at.TagPart = Some kind.LangTag
accepts at.Dot = Some kind.Dot
accepts at.Integer = Some kind.Integer
accepts at.IntegerFraction = Some kind.Decimal
accepts at.Fraction = Some kind.Decimal
accepts at.ExponentDigits = Some kind.Double
accepts at.Word = Some kind.Word
accepts at.Namespace = Some kind.PnameNs
accepts at.Local = Some kind.PnameLn
accepts at.Variable = Some kind.Var
accepts _ = None

-- where a token begins
abbrev pub start_of : Bool → State
start_of false = at.Start
start_of true = at.UpdateStart

-- of the tokens of Turtle, or of updates too
abbrev pub tokens : Bool → Automaton State Terminal ℕ
tokens updates = record { start = start_of updates; next = state_after; accepts = accepts }

-- after quotes that open a string, or that may close a long one
abbrev pub IsQuoted : State → Type 0
IsQuoted (at.First m) = Unit {0}
IsQuoted (at.Empty m) = Unit {0}
IsQuoted (at.Opened m) = Unit {0}
IsQuoted (at.OneMark m) = Unit {0}
IsQuoted (at.TwoMarks m) = Unit {0}
IsQuoted _ = ⊥

-- in a blank node's label
abbrev pub IsInLabel : State → Type 0
IsInLabel at.Underscore = Unit {0}
IsInLabel at.LabelColon = Unit {0}
IsInLabel at.Label = Unit {0}
IsInLabel at.LabelDots = Unit {0}
IsInLabel _ = ⊥

-- in a language tag
abbrev pub IsInTag : State → Type 0
IsInTag at.AtSign = Unit {0}
IsInTag at.Tag = Unit {0}
IsInTag at.TagDash = Unit {0}
IsInTag at.TagPart = Unit {0}
IsInTag _ = ⊥

-- in a number
abbrev pub IsInNumber : State → Type 0
IsInNumber at.Sign = Unit {0}
IsInNumber at.SignDot = Unit {0}
IsInNumber at.Dot = Unit {0}
IsInNumber at.Integer = Unit {0}
IsInNumber at.IntegerDot = Unit {0}
IsInNumber at.IntegerFraction = Unit {0}
IsInNumber at.Fraction = Unit {0}
IsInNumber at.Exponent = Unit {0}
IsInNumber at.ExponentSign = Unit {0}
IsInNumber at.ExponentDigits = Unit {0}
IsInNumber _ = ⊥

-- in a word, or in a prefix
abbrev pub IsInWord : State → Type 0
IsInWord at.Word = Unit {0}
IsInWord at.WordDots = Unit {0}
IsInWord at.WordMore = Unit {0}
IsInWord _ = ⊥

-- in a local name, after the colon of its prefix
abbrev pub IsInLocal : State → Type 0
IsInLocal at.Namespace = Unit {0}
IsInLocal at.FirstPercent = Unit {0}
IsInLocal at.FirstPercentOne = Unit {0}
IsInLocal at.FirstEscape = Unit {0}
IsInLocal at.Local = Unit {0}
IsInLocal at.LocalDots = Unit {0}
IsInLocal at.Percent = Unit {0}
IsInLocal at.PercentOne = Unit {0}
IsInLocal at.LocalEscape = Unit {0}
IsInLocal _ = ⊥
