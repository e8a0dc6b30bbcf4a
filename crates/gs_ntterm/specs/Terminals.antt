-- The terminals of N-Triples (25 February 2014, section 7), each taking the longest text that it can from the
-- front of a line.
use Rattle.std.specs.Prelude.{ℕ, ◌-◌, Bool, true, false, ◌&&◌, ◌||◌, ◌==◌, if◌then◌else◌, List, [], ◌∷◌, ◌++◌, Result, Ok, Err, Option, Some, None}
use Rattle.std.specs.Char.{encode_utf8}
use Rattle.gs_model.specs.Characters.{quote, hyphen, dot, colon, greater_than, backslash}
use Rattle.gs_model.specs.Ascii.{small_u, big_u}
use Rattle.gs_model.specs.Escapes.{is_hex, is_character, echar_meaning}
use Rattle.gs_model.specs.declared.faults.Fault.{Fault}
use Rattle.gs_model.specs.declared.faults.Fault.TheVariants.{Syntax}
use Rattle.gs_ntterm.specs.Marks.{Mark}
use Rattle.gs_ntterm.specs.Classes.{is_space, may_stand_in_iri, may_stand_in_string, begins_label, is_label_char, is_tag_char, with_digit}

-- a value and the text after it, or the fault
abbrev pub FrontRead : Type 0 → Type 0
FrontRead A = Result (A × List Mark) Fault

-- the text after spaces and tabs
abbrev pub skip : List Mark → List Mark
skip [] = []
skip (m ∷ ms) = if is_space m.0 then skip ms else m ∷ ms

-- with a character before what was read
abbrev pub before_read : ℕ → FrontRead (List ℕ) → FrontRead (List ℕ)
before_read c (Err e) = Err e
before_read c (Ok r) = Ok (encode_utf8 c ++ r.0, r.1)

-- Where in an IRI or a string: among its characters, after a backslash, or within [10] UCHAR, with so many
-- digits to come after the next, and its number so far.
pub data Inside : Type 0 where
  Plain : Inside
  Escape : Inside
  Digits : (left value : ℕ) → Inside

-- [8] IRIREF after its '<': the bytes of the IRI. An escape of a character that may not stand in an IRI breaks the grammar: the
-- production alone would take it.
abbrev pub iri_after : Inside → List Mark → FrontRead (List ℕ)
iri_after v [] = Err Syntax
iri_after Plain (m ∷ ms) =
    if m.0 == greater_than then Ok ([], ms)
    else if m.0 == backslash then iri_after Escape ms
    else if may_stand_in_iri m.0 then before_read m.0 (iri_after Plain ms)
    else Err Syntax
iri_after Escape (m ∷ ms) =
    if m.0 == small_u then iri_after (Digits 3 0) ms
    else if m.0 == big_u then iri_after (Digits 7 0) ms
    else Err Syntax
iri_after (Digits left value) (m ∷ ms) =
    if is_hex m.0 then
    (if left == 0 then
    (if may_stand_in_iri (with_digit value m.0) then before_read (with_digit value m.0) (iri_after Plain ms) else Err Syntax)
    else iri_after (Digits (left - 1) (with_digit value m.0)) ms)
    else Err Syntax

-- a character that an escape means, before what was read
abbrev pub escape_before : Option ℕ → FrontRead (List ℕ) → FrontRead (List ℕ)
escape_before None r = Err Syntax
escape_before (Some c) r = before_read c r

-- [9] STRING_LITERAL_QUOTE after its first '"': the bytes of the lexical form
abbrev pub string_after : Inside → List Mark → FrontRead (List ℕ)
string_after v [] = Err Syntax
string_after Plain (m ∷ ms) =
    if m.0 == quote then Ok ([], ms)
    else if m.0 == backslash then string_after Escape ms
    else if may_stand_in_string m.0 then before_read m.0 (string_after Plain ms)
    else Err Syntax
string_after Escape (m ∷ ms) =
    if m.0 == small_u then string_after (Digits 3 0) ms
    else if m.0 == big_u then string_after (Digits 7 0) ms
    else escape_before (echar_meaning m.0) (string_after Plain ms)
string_after (Digits left value) (m ∷ ms) =
    if is_hex m.0 then
    (if left == 0 then
    (if is_character (with_digit value m.0) then before_read (with_digit value m.0) (string_after Plain ms) else Err Syntax)
    else string_after (Digits (left - 1) (with_digit value m.0)) ms)
    else Err Syntax

-- after a dot: whether a label goes on, by dots and then a character
abbrev pub label_goes_on : List Mark → Bool
label_goes_on [] = false
label_goes_on (m ∷ ms) = if is_label_char m.0 then true else if m.0 == dot then label_goes_on ms else false

-- the longest rest of [141s] BLANK_NODE_LABEL, and the text after it
abbrev pub label_after : List Mark → List ℕ × List Mark
label_after [] = ([], [])
label_after (m ∷ ms) =
    if is_label_char m.0 || (m.0 == dot && label_goes_on ms) then (encode_utf8 m.0 ++ (label_after ms).0, (label_after ms).1) else ([], m ∷ ms)

-- BLANK_NODE_LABEL after its '_'
abbrev pub label_at : List Mark → FrontRead (List ℕ)
label_at [] = Err Syntax
label_at (m ∷ []) = Err Syntax
label_at (m ∷ d ∷ ms) =
    if m.0 == colon then (if begins_label d.0 then Ok (encode_utf8 d.0 ++ (label_after ms).0, (label_after ms).1) else Err Syntax) else Err Syntax

-- whether a part of a tag begins there
abbrev pub begins_part : (digits : Bool) → List Mark → Bool
begins_part digits [] = false
begins_part digits (m ∷ ms) = is_tag_char digits m.0

-- The longest rest of [144s] LANGTAG, and the text after it: letters, and in the parts after a '-' digits too. A '-' is the
-- tag's where a part begins after it.
abbrev pub tag_after : (digits : Bool) → List Mark → List ℕ × List Mark
tag_after digits [] = ([], [])
tag_after digits (m ∷ ms) =
    if is_tag_char digits m.0 then (encode_utf8 m.0 ++ (tag_after digits ms).0, (tag_after digits ms).1)
    else if m.0 == hyphen && begins_part true ms then (encode_utf8 hyphen ++ (tag_after true ms).0, (tag_after true ms).1)
    else ([], m ∷ ms)
