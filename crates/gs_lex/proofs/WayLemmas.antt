-- Ways on from a token that has begun: from each state that no token has ended in, two texts lead to tokens that differ.
use Rattle.std.proofs.Common.{◌≡◌, ℕ, ◌<◌, Bool, true, List, [], ◌∷◌, refl, ap, ◌∙◌, arith, length, Some}
use Rattle.std.proofs.lemmas.Bool.{and_from}
use Rattle.std.specs.Str.{all_scalars}
use lib.Utf8.{scalar}
use Rattle.gs_automaton.specs.Automata.{run_from, kind_at}
use Rattle.gs_automaton.specs.States.{tokens, state_after}
use Rattle.gs_lex.specs.Tokens.{token_kind, has_text}
use Rattle.gs_lex.specs.declared.kinds.TokenKind.{TokenKind}
use Rattle.gs_lex.specs.declared.kinds.TokenKind.TheVariants as token
use Rattle.gs_automaton.specs.declared.terminals.Terminal.{Terminal}
use Rattle.gs_automaton.specs.declared.terminals.Terminal.TheVariants as kind
use Rattle.gs_automaton.specs.declared.states.State.{State}
use Rattle.gs_automaton.specs.declared.states.State.TheVariants as at
use Rattle.gs_automaton.specs.declared.states.Mark.{Mark}
use Rattle.gs_automaton.specs.declared.states.Mark.TheVariants as mark
use Rattle.gs_automaton.specs.declared.states.Text.{Text}
use Rattle.gs_automaton.specs.declared.states.Text.TheVariants as text
use Rattle.gs_automaton.specs.declared.states.Left.{Left}
use Rattle.gs_automaton.specs.declared.states.Left.TheVariants as left

-- two texts that lead on to tokens of one kind, whose bytes a token holds, the second with more characters
pub record Ways (q : State) : Type 0 where
  pub one : List ℕ
  pub other : List ℕ
  pub terminal : Terminal
  pub kind : TokenKind
  pub to_one : (u : Bool) → kind_at (tokens u) (run_from (tokens u) (Some q) one) ≡ Some terminal
  pub to_other : (u : Bool) → kind_at (tokens u) (run_from (tokens u) (Some q) other) ≡ Some terminal
  pub is_kind : (u : Bool) (x : List ℕ) → token_kind u terminal x ≡ Some kind
  pub holds_text : has_text kind ≡ true
  pub scalars_one : all_scalars one ≡ true
  pub scalars_other : all_scalars other ≡ true
  pub longer : length one < length other

ways_to : (q : State) (one other : List ℕ) (t : Terminal) (k : TokenKind) → ((u : Bool) → kind_at (tokens u) (run_from (tokens u) (Some q) one) ≡ Some t)
    → ((u : Bool) → kind_at (tokens u) (run_from (tokens u) (Some q) other) ≡ Some t) → ((u : Bool) (x : List ℕ) → token_kind u t x ≡ Some k) → has_text k ≡ true
    → all_scalars one ≡ true → all_scalars other ≡ true → length one < length other → Ways q
ways_to q one other t k a b c h i j l = record {
  one = one;
  other = other;
  terminal = t;
  kind = k;
  to_one = a;
  to_other = b;
  is_kind = c;
  holds_text = h;
  scalars_one = i;
  scalars_other = j;
  longer = l;
}

-- after one character
ways_after : (q p : State) (c : ℕ) → state_after q c ≡ Some p → scalar c ≡ true → Ways p → Ways q
ways_after q p c e s w = record {
  one = c ∷ w.one;
  other = c ∷ w.other;
  terminal = w.terminal;
  kind = w.kind;
  to_one = λ u. ap (λ o. kind_at (tokens u) (run_from (tokens u) o w.one)) e ∙ w.to_one u;
  to_other = λ u. ap (λ o. kind_at (tokens u) (run_from (tokens u) o w.other)) e ∙ w.to_other u;
  is_kind = w.is_kind;
  holds_text = w.holds_text;
  scalars_one = and_from (scalar c) (all_scalars w.one) s w.scalars_one;
  scalars_other = and_from (scalar c) (all_scalars w.other) s w.scalars_other;
  longer = omega (arith, w.longer);
}

to_label : Ways at.Label
to_label = ways_to at.Label (97 ∷ []) (97 ∷ 97 ∷ []) kind.BlankNodeLabel token.BlankNodeLabel (λ u. refl) (λ u. refl) (λ u x. refl) refl refl refl (omega arith)

to_tag : Ways at.Tag
to_tag = ways_to at.Tag (97 ∷ []) (97 ∷ 97 ∷ []) kind.LangTag token.LangTag (λ u. refl) (λ u. refl) (λ u x. refl) refl refl refl (omega arith)

to_tag_part : Ways at.TagPart
to_tag_part = ways_to at.TagPart (97 ∷ []) (97 ∷ 97 ∷ []) kind.LangTag token.LangTag (λ u. refl) (λ u. refl) (λ u x. refl) refl refl refl (omega arith)

to_integer : Ways at.Integer
to_integer = ways_to at.Integer (48 ∷ []) (48 ∷ 48 ∷ []) kind.Integer token.Integer (λ u. refl) (λ u. refl) (λ u x. refl) refl refl refl (omega arith)

to_integer_fraction : Ways at.IntegerFraction
to_integer_fraction = ways_to at.IntegerFraction (48 ∷ []) (48 ∷ 48 ∷ []) kind.Decimal token.Decimal (λ u. refl) (λ u. refl) (λ u x. refl) refl refl refl (omega arith)

to_fraction : Ways at.Fraction
to_fraction = ways_to at.Fraction (48 ∷ []) (48 ∷ 48 ∷ []) kind.Decimal token.Decimal (λ u. refl) (λ u. refl) (λ u x. refl) refl refl refl (omega arith)

to_exponent : Ways at.ExponentDigits
to_exponent = ways_to at.ExponentDigits (48 ∷ []) (48 ∷ 48 ∷ []) kind.Double token.Double (λ u. refl) (λ u. refl) (λ u x. refl) refl refl refl (omega arith)

to_namespace : Ways at.Namespace
to_namespace = ways_to at.Namespace (97 ∷ []) (97 ∷ 97 ∷ []) kind.PnameLn token.PnameLn (λ u. refl) (λ u. refl) (λ u x. refl) refl refl refl (omega arith)

to_local : Ways at.Local
to_local = ways_to at.Local (97 ∷ []) (97 ∷ 97 ∷ []) kind.PnameLn token.PnameLn (λ u. refl) (λ u. refl) (λ u x. refl) refl refl refl (omega arith)

to_variable : Ways at.Variable
to_variable = ways_to at.Variable (97 ∷ []) (97 ∷ 97 ∷ []) kind.Var token.Var (λ u. refl) (λ u. refl) (λ u x. refl) refl refl refl (omega arith)

to_close : (t : Text) → Ways (at.Inside t)
to_close text.Iri = ways_to (at.Inside text.Iri) (62 ∷ []) (97 ∷ 62 ∷ []) kind.IriRef token.IriRef (λ u. refl) (λ u. refl) (λ u x. refl) refl refl refl (omega arith)
to_close (text.Short mark.Quote) = ways_to (at.Inside (text.Short mark.Quote)) (34 ∷ []) (97 ∷ 34 ∷ []) kind.StringLiteralQuote token.StringLiteralQuote (λ u. refl) (λ u. refl) (λ u x. refl) refl refl refl (omega arith)
to_close (text.Short mark.Apostrophe) = ways_to (at.Inside (text.Short mark.Apostrophe)) (39 ∷ []) (97 ∷ 39 ∷ []) kind.StringLiteralSingleQuote token.StringLiteralSingleQuote (λ u. refl) (λ u. refl) (λ u x. refl) refl refl refl (omega arith)
to_close (text.Long mark.Quote) = ways_to (at.Inside (text.Long mark.Quote)) (34 ∷ 34 ∷ 34 ∷ []) (97 ∷ 34 ∷ 34 ∷ 34 ∷ []) kind.StringLiteralLongQuote token.StringLiteralLongQuote (λ u. refl) (λ u. refl) (λ u x. refl) refl refl refl (omega arith)
to_close (text.Long mark.Apostrophe) = ways_to (at.Inside (text.Long mark.Apostrophe)) (39 ∷ 39 ∷ 39 ∷ []) (97 ∷ 39 ∷ 39 ∷ 39 ∷ []) kind.StringLiteralLongSingleQuote token.StringLiteralLongSingleQuote (λ u. refl) (λ u. refl) (λ u x. refl) refl refl refl (omega arith)

to_hex_one : (t : Text) → Ways (at.Hex t left.One)
to_hex_one t = ways_after (at.Hex t left.One) (at.Inside t) 48 refl refl (to_close t)

to_hex_two : (t : Text) → Ways (at.Hex t left.Two)
to_hex_two t = ways_after (at.Hex t left.Two) (at.Hex t left.One) 48 refl refl (to_hex_one t)

to_hex_three : (t : Text) → Ways (at.Hex t left.Three)
to_hex_three t = ways_after (at.Hex t left.Three) (at.Hex t left.Two) 48 refl refl (to_hex_two t)

to_hex_four : (t : Text) → Ways (at.Hex t left.Four)
to_hex_four t = ways_after (at.Hex t left.Four) (at.Hex t left.Three) 48 refl refl (to_hex_three t)

to_hex_five : (t : Text) → Ways (at.Hex t left.Five)
to_hex_five t = ways_after (at.Hex t left.Five) (at.Hex t left.Four) 48 refl refl (to_hex_four t)

to_hex_six : (t : Text) → Ways (at.Hex t left.Six)
to_hex_six t = ways_after (at.Hex t left.Six) (at.Hex t left.Five) 48 refl refl (to_hex_five t)

to_hex_seven : (t : Text) → Ways (at.Hex t left.Seven)
to_hex_seven t = ways_after (at.Hex t left.Seven) (at.Hex t left.Six) 48 refl refl (to_hex_six t)

to_hex_eight : (t : Text) → Ways (at.Hex t left.Eight)
to_hex_eight t = ways_after (at.Hex t left.Eight) (at.Hex t left.Seven) 48 refl refl (to_hex_seven t)

to_hex : (t : Text) (n : Left) → Ways (at.Hex t n)
to_hex t left.One = to_hex_one t
to_hex t left.Two = to_hex_two t
to_hex t left.Three = to_hex_three t
to_hex t left.Four = to_hex_four t
to_hex t left.Five = to_hex_five t
to_hex t left.Six = to_hex_six t
to_hex t left.Seven = to_hex_seven t
to_hex t left.Eight = to_hex_eight t

to_opened : (m : Mark) → Ways (at.Opened m)
to_opened mark.Quote = ways_after (at.Opened mark.Quote) (at.Inside (text.Long mark.Quote)) 97 refl refl (to_close (text.Long mark.Quote))
to_opened mark.Apostrophe = ways_after (at.Opened mark.Apostrophe) (at.Inside (text.Long mark.Apostrophe)) 97 refl refl (to_close (text.Long mark.Apostrophe))

to_label_dots : Ways at.LabelDots
to_label_dots = ways_after at.LabelDots at.Label 97 refl refl to_label

to_word_more : Ways at.WordMore
to_word_more = ways_after at.WordMore at.Namespace 58 refl refl to_namespace

to_percent : Ways at.PercentOne
to_percent = ways_after at.PercentOne at.Local 48 refl refl to_local

to_first_percent : Ways at.FirstPercentOne
to_first_percent = ways_after at.FirstPercentOne at.Local 48 refl refl to_local

-- where a token that has begun may go on
pub data Goes (q : State) : Type 0 where
  goes : Ways q → Goes q
  ended : (t : Terminal) → q ≡ at.Ended t → Goes q
  caret : q ≡ at.Caret → Goes q

pub may-go : (q : State) → Goes q
may-go at.Start = goes (ways_after at.Start at.Integer 48 refl refl to_integer)
may-go at.UpdateStart = goes (ways_after at.UpdateStart at.Integer 48 refl refl to_integer)
may-go (at.Inside t) = goes (to_close t)
may-go (at.Escape t) = goes (ways_after (at.Escape t) (at.Hex t left.Four) 117 refl refl (to_hex t left.Four))
may-go (at.Hex t n) = goes (to_hex t n)
may-go (at.Ended t) = ended t refl
may-go (at.First mark.Quote) = goes (ways_after (at.First mark.Quote) (at.Inside (text.Short mark.Quote)) 97 refl refl (to_close (text.Short mark.Quote)))
may-go (at.Empty mark.Quote) = goes (ways_after (at.Empty mark.Quote) (at.Opened mark.Quote) 34 refl refl (to_opened mark.Quote))
may-go (at.OneMark mark.Quote) = goes (ways_after (at.OneMark mark.Quote) (at.Inside (text.Long mark.Quote)) 97 refl refl (to_close (text.Long mark.Quote)))
may-go (at.TwoMarks mark.Quote) = goes (ways_after (at.TwoMarks mark.Quote) (at.Inside (text.Long mark.Quote)) 97 refl refl (to_close (text.Long mark.Quote)))
may-go (at.First mark.Apostrophe) = goes (ways_after (at.First mark.Apostrophe) (at.Inside (text.Short mark.Apostrophe)) 97 refl refl (to_close (text.Short mark.Apostrophe)))
may-go (at.Empty mark.Apostrophe) = goes (ways_after (at.Empty mark.Apostrophe) (at.Opened mark.Apostrophe) 39 refl refl (to_opened mark.Apostrophe))
may-go (at.OneMark mark.Apostrophe) = goes (ways_after (at.OneMark mark.Apostrophe) (at.Inside (text.Long mark.Apostrophe)) 97 refl refl (to_close (text.Long mark.Apostrophe)))
may-go (at.TwoMarks mark.Apostrophe) = goes (ways_after (at.TwoMarks mark.Apostrophe) (at.Inside (text.Long mark.Apostrophe)) 97 refl refl (to_close (text.Long mark.Apostrophe)))
may-go (at.Opened m) = goes (to_opened m)
may-go at.Underscore = goes (ways_after at.Underscore at.LabelColon 58 refl refl (ways_after at.LabelColon at.Label 97 refl refl to_label))
may-go at.LabelColon = goes (ways_after at.LabelColon at.Label 97 refl refl to_label)
may-go at.Label = goes to_label
may-go at.LabelDots = goes to_label_dots
may-go at.AtSign = goes (ways_after at.AtSign at.Tag 97 refl refl to_tag)
may-go at.Tag = goes to_tag
may-go at.TagDash = goes (ways_after at.TagDash at.TagPart 97 refl refl to_tag_part)
may-go at.TagPart = goes to_tag_part
may-go at.Sign = goes (ways_after at.Sign at.Integer 48 refl refl to_integer)
may-go at.SignDot = goes (ways_after at.SignDot at.Fraction 48 refl refl to_fraction)
may-go at.Dot = goes (ways_after at.Dot at.Fraction 48 refl refl to_fraction)
may-go at.Integer = goes to_integer
may-go at.IntegerDot = goes (ways_after at.IntegerDot at.IntegerFraction 48 refl refl to_integer_fraction)
may-go at.IntegerFraction = goes to_integer_fraction
may-go at.Fraction = goes to_fraction
may-go at.Exponent = goes (ways_after at.Exponent at.ExponentDigits 48 refl refl to_exponent)
may-go at.ExponentSign = goes (ways_after at.ExponentSign at.ExponentDigits 48 refl refl to_exponent)
may-go at.ExponentDigits = goes to_exponent
may-go at.Word = goes (ways_after at.Word at.Namespace 58 refl refl to_namespace)
may-go at.WordDots = goes (ways_after at.WordDots at.WordMore 97 refl refl to_word_more)
may-go at.WordMore = goes to_word_more
may-go at.Namespace = goes to_namespace
may-go at.FirstPercent = goes (ways_after at.FirstPercent at.FirstPercentOne 48 refl refl to_first_percent)
may-go at.FirstPercentOne = goes to_first_percent
may-go at.FirstEscape = goes (ways_after at.FirstEscape at.Local 95 refl refl to_local)
may-go at.Local = goes to_local
may-go at.LocalDots = goes (ways_after at.LocalDots at.Local 97 refl refl to_local)
may-go at.Percent = goes (ways_after at.Percent at.PercentOne 48 refl refl to_percent)
may-go at.PercentOne = goes to_percent
may-go at.LocalEscape = goes (ways_after at.LocalEscape at.Local 95 refl refl to_local)
may-go at.VariableMark = goes (ways_after at.VariableMark at.Variable 97 refl refl to_variable)
may-go at.Variable = goes to_variable
may-go at.Caret = caret refl
