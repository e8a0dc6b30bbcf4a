-- Alike characters lead the automaton alike.
use Rattle.std.proofs.Common.{◌≡◌, ℕ, refl}
use Rattle.gs_automaton.specs.States.{state_after, at_start, at_update_start, punctuation, inside, after_backslash, local}
use Rattle.gs_automaton.specs.declared.states.State.{State}
use Rattle.gs_automaton.specs.declared.states.State.TheVariants as at
use Rattle.gs_automaton.specs.declared.states.Mark.TheVariants as mark
use Rattle.gs_automaton.specs.declared.states.Text.{Text}
use Rattle.gs_automaton.specs.declared.states.Text.TheVariants as text
use Rattle.gs_automaton.proofs.AlikeLemmas.{Alike, eq-alike, iri-alike, is_line_end-alike, is_digit-alike, is_sign-alike, is_exponent-alike, is_alpha-alike, is_alphanumeric-alike, is_hex-alike, is_echar-alike, is_local_escape-alike, is_prefix_start-alike, is_name_char-alike, is_label_start-alike, is_local_start-alike, is_local-alike, is_variable-alike}

punctuation-alike : (c d : ℕ) → Alike c d → punctuation c ≡ punctuation d
punctuation-alike c d h = Prim.cc (eq-alike c d 59 h refl, eq-alike c d 44 h refl, eq-alike c d 91 h refl, eq-alike c d 93 h refl, eq-alike c d 40 h refl, eq-alike c d 41 h refl)

start-alike : (c d : ℕ) → Alike c d → at_start c ≡ at_start d
start-alike c d h = Prim.cc (is_sign-alike c d h, is_digit-alike c d h, is_prefix_start-alike c d h, eq-alike c d 60 h refl, eq-alike c d 34 h refl, eq-alike c d 39 h refl, eq-alike c d 58 h refl, eq-alike c d 95 h refl, eq-alike c d 64 h refl, eq-alike c d 46 h refl, eq-alike c d 94 h refl, punctuation-alike c d h)

update-alike : (c d : ℕ) → Alike c d → at_update_start c ≡ at_update_start d
update-alike c d h = Prim.cc (eq-alike c d 123 h refl, eq-alike c d 125 h refl, eq-alike c d 63 h refl, eq-alike c d 36 h refl, start-alike c d h)

inside-alike : (t : Text) (c d : ℕ) → Alike c d → inside t c ≡ inside t d
inside-alike text.Iri c d h = Prim.cc (eq-alike c d 62 h refl, eq-alike c d 92 h refl, iri-alike c d h)
inside-alike (text.Short mark.Quote) c d h = Prim.cc (eq-alike c d 34 h refl, eq-alike c d 92 h refl, is_line_end-alike c d h)
inside-alike (text.Long mark.Quote) c d h = Prim.cc (eq-alike c d 34 h refl, eq-alike c d 92 h refl)
inside-alike (text.Short mark.Apostrophe) c d h = Prim.cc (eq-alike c d 39 h refl, eq-alike c d 92 h refl, is_line_end-alike c d h)
inside-alike (text.Long mark.Apostrophe) c d h = Prim.cc (eq-alike c d 39 h refl, eq-alike c d 92 h refl)

after_backslash-alike : (t : Text) (c d : ℕ) → Alike c d → after_backslash t c ≡ after_backslash t d
after_backslash-alike t c d h = Prim.cc (eq-alike c d 117 h refl, eq-alike c d 85 h refl, is_echar-alike c d h)

local-alike : (c d : ℕ) → Alike c d → local c ≡ local d
local-alike c d h = Prim.cc (is_local-alike c d h, eq-alike c d 46 h refl, eq-alike c d 37 h refl, eq-alike c d 92 h refl)

pub next-alike : (q : State) (c d : ℕ) → Alike c d → state_after q c ≡ state_after q d
next-alike at.Start c d h = start-alike c d h
next-alike at.UpdateStart c d h = update-alike c d h
next-alike (at.Inside t) c d h = inside-alike t c d h
next-alike (at.Escape t) c d h = after_backslash-alike t c d h
next-alike (at.Hex t n) c d h = Prim.cc (is_hex-alike c d h)
next-alike (at.Ended k) c d h = refl
next-alike (at.First mark.Quote) c d h = Prim.cc (eq-alike c d 34 h refl, inside-alike (text.Short mark.Quote) c d h)
next-alike (at.Empty mark.Quote) c d h = Prim.cc (eq-alike c d 34 h refl)
next-alike (at.Opened mark.Quote) c d h = inside-alike (text.Long mark.Quote) c d h
next-alike (at.OneMark mark.Quote) c d h = Prim.cc (eq-alike c d 34 h refl, inside-alike (text.Long mark.Quote) c d h)
next-alike (at.TwoMarks mark.Quote) c d h = Prim.cc (eq-alike c d 34 h refl, inside-alike (text.Long mark.Quote) c d h)
next-alike (at.First mark.Apostrophe) c d h = Prim.cc (eq-alike c d 39 h refl, inside-alike (text.Short mark.Apostrophe) c d h)
next-alike (at.Empty mark.Apostrophe) c d h = Prim.cc (eq-alike c d 39 h refl)
next-alike (at.Opened mark.Apostrophe) c d h = inside-alike (text.Long mark.Apostrophe) c d h
next-alike (at.OneMark mark.Apostrophe) c d h = Prim.cc (eq-alike c d 39 h refl, inside-alike (text.Long mark.Apostrophe) c d h)
next-alike (at.TwoMarks mark.Apostrophe) c d h = Prim.cc (eq-alike c d 39 h refl, inside-alike (text.Long mark.Apostrophe) c d h)
next-alike at.Local c d h = local-alike c d h
next-alike at.LocalDots c d h = local-alike c d h
next-alike at.Underscore c d h = Prim.cc (eq-alike c d 58 h refl)
next-alike at.LabelColon c d h = Prim.cc (is_label_start-alike c d h)
next-alike at.Label c d h = Prim.cc (is_name_char-alike c d h, eq-alike c d 46 h refl)
next-alike at.LabelDots c d h = Prim.cc (is_name_char-alike c d h, eq-alike c d 46 h refl)
next-alike at.AtSign c d h = Prim.cc (is_alpha-alike c d h)
next-alike at.Tag c d h = Prim.cc (is_alpha-alike c d h, eq-alike c d 45 h refl)
next-alike at.TagDash c d h = Prim.cc (is_alphanumeric-alike c d h)
next-alike at.TagPart c d h = Prim.cc (is_alphanumeric-alike c d h, eq-alike c d 45 h refl)
next-alike at.Sign c d h = Prim.cc (is_digit-alike c d h, eq-alike c d 46 h refl)
next-alike at.SignDot c d h = Prim.cc (is_digit-alike c d h)
next-alike at.Dot c d h = Prim.cc (is_digit-alike c d h)
next-alike at.Integer c d h = Prim.cc (is_digit-alike c d h, is_exponent-alike c d h, eq-alike c d 46 h refl)
next-alike at.IntegerDot c d h = Prim.cc (is_digit-alike c d h, is_exponent-alike c d h)
next-alike at.IntegerFraction c d h = Prim.cc (is_digit-alike c d h, is_exponent-alike c d h)
next-alike at.Fraction c d h = Prim.cc (is_digit-alike c d h, is_exponent-alike c d h)
next-alike at.Exponent c d h = Prim.cc (is_digit-alike c d h, is_sign-alike c d h)
next-alike at.ExponentSign c d h = Prim.cc (is_digit-alike c d h)
next-alike at.ExponentDigits c d h = Prim.cc (is_digit-alike c d h)
next-alike at.Word c d h = Prim.cc (is_name_char-alike c d h, eq-alike c d 46 h refl, eq-alike c d 58 h refl)
next-alike at.WordDots c d h = Prim.cc (is_name_char-alike c d h, eq-alike c d 46 h refl)
next-alike at.WordMore c d h = Prim.cc (is_name_char-alike c d h, eq-alike c d 46 h refl, eq-alike c d 58 h refl)
next-alike at.Namespace c d h = Prim.cc (is_local_start-alike c d h, eq-alike c d 37 h refl, eq-alike c d 92 h refl)
next-alike at.FirstPercent c d h = Prim.cc (is_hex-alike c d h)
next-alike at.FirstPercentOne c d h = Prim.cc (is_hex-alike c d h)
next-alike at.FirstEscape c d h = Prim.cc (is_local_escape-alike c d h)
next-alike at.Percent c d h = Prim.cc (is_hex-alike c d h)
next-alike at.PercentOne c d h = Prim.cc (is_hex-alike c d h)
next-alike at.LocalEscape c d h = Prim.cc (is_local_escape-alike c d h)
next-alike at.VariableMark c d h = Prim.cc (is_label_start-alike c d h)
next-alike at.Variable c d h = Prim.cc (is_variable-alike c d h)
next-alike at.Caret c d h = Prim.cc (eq-alike c d 94 h refl)
