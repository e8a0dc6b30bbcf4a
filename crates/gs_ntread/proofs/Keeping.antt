-- What is read of a line leaves no line's end after it.
use Rattle.std.proofs.Common.{◌≡◌, ℕ, ◌-◌, Bool, true, false, List, [], ◌∷◌, length, Option, Some, None, Result, Ok, Err}
use Rattle.std.specs.Prelude.{◌==◌, ◌&&◌, ◌||◌, nat_le}
use Rattle.gs_model.specs.Escapes.{is_character, is_hex, is_line_end, echar_meaning}
use Rattle.std.specs.Str.{str_to_ascii_lowercase}
use Rattle.gs_model.specs.Terms.{Term, Literal, Typed, Tagged, xsd_string, is_term, text_of}
use Rattle.gs_model.specs.Limits.{max_term_bytes}
use Rattle.gs_model.specs.declared.faults.Fault.{Fault}
use Rattle.gs_ntterm.specs.Marks.{Mark}
use Rattle.gs_ntterm.specs.Classes.{is_space, may_stand_in_iri, may_stand_in_string, with_digit, is_label_char, begins_label, is_tag_char}
use Rattle.gs_term.specs.Making.{made}
use Rattle.gs_ntterm.specs.LineTerms.{typed_made}
use Rattle.gs_model.specs.Faults.{◌>>=◌}
use Rattle.gs_ntterm.specs.Terminals.{FrontRead, skip, before_read, Inside, Plain, Escape, Digits, escape_before, iri_after, string_after, label_goes_on, label_after, label_at, begins_part, tag_after}
use Rattle.gs_ntterm.proofs.Branches.{either_way}
use Rattle.gs_ntread.specs.Grammar.{before_text, datatype_at, caret_at, tag_at, suffix_at}

-- no character of a line ends it
pub data NoEnd : List Mark → Type 0 where
  none : NoEnd []
  more : {m : Mark} {ms : List Mark} → is_line_end m.0 ≡ false → NoEnd ms → NoEnd (m ∷ ms)

-- no character of the text after what was read ends a line
abbrev pub KeepsLine : {A : Type 0} → FrontRead A → Type 0
KeepsLine (Err e) = Unit {0}
KeepsLine (Ok r) = NoEnd r.1

keeps_before : (c : ℕ) (r : FrontRead (List ℕ)) → KeepsLine r → KeepsLine (before_read c r)
keeps_before c (Err e) h = h
keeps_before c (Ok r) h = h

pub keeps_iri : (v : Inside) (line : List Mark) → NoEnd line → KeepsLine (iri_after v line)
keeps_iri v [] n = tt
keeps_iri Plain (m ∷ ms) (more h n) =
    either_way KeepsLine (m.0 == 62) _ _ n
    (either_way KeepsLine (m.0 == 92) _ _ (keeps_iri Escape ms n)
    (either_way KeepsLine (may_stand_in_iri m.0) _ _ (keeps_before m.0 (iri_after Plain ms) (keeps_iri Plain ms n)) tt))
keeps_iri Escape (m ∷ ms) (more h n) =
    either_way KeepsLine (m.0 == 117) _ _ (keeps_iri (Digits 3 0) ms n)
    (either_way KeepsLine (m.0 == 85) _ _ (keeps_iri (Digits 7 0) ms n) tt)
keeps_iri (Digits l v) (m ∷ ms) (more h n) =
    either_way KeepsLine (is_hex m.0) _ _
    (either_way KeepsLine (l == 0) _ _
    (either_way KeepsLine (may_stand_in_iri (with_digit v m.0)) _ _ (keeps_before (with_digit v m.0) (iri_after Plain ms) (keeps_iri Plain ms n)) tt)
    (keeps_iri (Digits (l - 1) (with_digit v m.0)) ms n))
    tt

keeps_escape : (o : Option ℕ) (r : FrontRead (List ℕ)) → KeepsLine r → KeepsLine (escape_before o r)
keeps_escape None r h = tt
keeps_escape (Some c) r h = keeps_before c r h

pub keeps_string : (v : Inside) (line : List Mark) → NoEnd line → KeepsLine (string_after v line)
keeps_string v [] n = tt
keeps_string Plain (m ∷ ms) (more h n) =
    either_way KeepsLine (m.0 == 34) _ _ n
    (either_way KeepsLine (m.0 == 92) _ _ (keeps_string Escape ms n)
    (either_way KeepsLine (may_stand_in_string m.0) _ _ (keeps_before m.0 (string_after Plain ms) (keeps_string Plain ms n)) tt))
keeps_string Escape (m ∷ ms) (more h n) =
    either_way KeepsLine (m.0 == 117) _ _ (keeps_string (Digits 3 0) ms n)
    (either_way KeepsLine (m.0 == 85) _ _ (keeps_string (Digits 7 0) ms n) (keeps_escape (echar_meaning m.0) (string_after Plain ms) (keeps_string Plain ms n)))
keeps_string (Digits l v) (m ∷ ms) (more h n) =
    either_way KeepsLine (is_hex m.0) _ _
    (either_way KeepsLine (l == 0) _ _
    (either_way KeepsLine (is_character (with_digit v m.0)) _ _ (keeps_before (with_digit v m.0) (string_after Plain ms) (keeps_string Plain ms n)) tt)
    (keeps_string (Digits (l - 1) (with_digit v m.0)) ms n))
    tt

keeps_label_after : (line : List Mark) → NoEnd line → NoEnd (label_after line).1
keeps_label_after [] n = n
keeps_label_after (m ∷ ms) (more h n) =
    either_way (λ (u : List ℕ × List Mark). NoEnd u.1) (is_label_char m.0 || (m.0 == 46 && label_goes_on ms)) _ _ (keeps_label_after ms n) (more h n)

pub keeps_label : (line : List Mark) → NoEnd line → KeepsLine (label_at line)
keeps_label [] n = tt
keeps_label (m ∷ []) n = tt
keeps_label (m ∷ d ∷ ms) (more h (more g n)) =
    either_way KeepsLine (m.0 == 58) _ _ (either_way KeepsLine (begins_label d.0) _ _ (keeps_label_after ms n) tt) tt

keeps_tag : (d : Bool) (line : List Mark) → NoEnd line → NoEnd (tag_after d line).1
keeps_tag d [] n = n
keeps_tag d (m ∷ ms) (more h n) =
    either_way (λ (u : List ℕ × List Mark). NoEnd u.1) (is_tag_char d m.0) _ _ (keeps_tag d ms n)
    (either_way (λ (u : List ℕ × List Mark). NoEnd u.1) (m.0 == 45 && begins_part true ms) _ _ (keeps_tag true ms n) (more h n))

pub keeps_skip : (line : List Mark) → NoEnd line → NoEnd (skip line)
keeps_skip [] n = n
keeps_skip (m ∷ ms) (more h n) = either_way NoEnd (is_space m.0) _ _ (keeps_skip ms n) (more h n)

pub keeps_made : (y : List Mark) (t : Term) → NoEnd y → KeepsLine (before_text y (made t))
keeps_made y t n =
    either_way (λ (r : Result Term Fault). KeepsLine (before_text y r)) (is_term t) _ _
    (either_way (λ (r : Result Term Fault). KeepsLine (before_text y r)) (nat_le (length (text_of t)) max_term_bytes) _ _ n tt) tt

keeps_typed : (l : List ℕ) (r : FrontRead (List ℕ)) → KeepsLine r → KeepsLine (r >>= λ i. before_text i.1 (typed_made l i.0))
keeps_typed l (Err e) h = h
keeps_typed l (Ok i) h = keeps_made i.1 (Literal l (Typed i.0)) h

keeps_datatype : (l : List ℕ) (line : List Mark) → NoEnd line → KeepsLine (datatype_at l line)
keeps_datatype l [] n = tt
keeps_datatype l (m ∷ ms) (more h n) = either_way KeepsLine (m.0 == 60) _ _ (keeps_typed l (iri_after Plain ms) (keeps_iri Plain ms n)) tt

keeps_caret : (l : List ℕ) (line : List Mark) → NoEnd line → KeepsLine (caret_at l line)
keeps_caret l [] n = tt
keeps_caret l (m ∷ ms) (more h n) = either_way KeepsLine (m.0 == 94) _ _ (keeps_datatype l (skip ms) (keeps_skip ms n)) tt

keeps_tag_at : (l : List ℕ) (line : List Mark) → NoEnd line → KeepsLine (tag_at l line)
keeps_tag_at l line n =
    either_way KeepsLine (begins_part false line) _ _ (keeps_made (tag_after false line).1 (Literal l (Tagged (str_to_ascii_lowercase (tag_after false line).0))) (keeps_tag false line n)) tt

pub keeps_suffix : (l : List ℕ) (line : List Mark) → NoEnd line → KeepsLine (suffix_at l line)
keeps_suffix l [] n = keeps_made [] (Literal l (Typed xsd_string)) n
keeps_suffix l (m ∷ ms) (more h n) =
    either_way KeepsLine (m.0 == 94) _ _ (keeps_caret l ms n)
    (either_way KeepsLine (m.0 == 64) _ _ (keeps_tag_at l ms n)
    (keeps_made (m ∷ ms) (Literal l (Typed xsd_string)) (more h n)))
