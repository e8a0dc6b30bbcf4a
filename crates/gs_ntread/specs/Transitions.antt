-- How a document is read, character by character.
use Rattle.std.specs.Prelude.{ℕ, ◌+◌, ◌-◌, ◌==◌, true, false, if◌then◌else◌, List, [], ◌∷◌, ◌++◌, Option, Some, None}
use Rattle.std.specs.Char.{encode_utf8}
use Rattle.gs_model.specs.Characters.{quote, hyphen, dot, colon, greater_than, backslash, caret}
use Rattle.gs_model.specs.Ascii.{small_u, big_u}
use Rattle.gs_model.specs.Escapes.{is_line_end, is_hex, is_character, echar_meaning}
use Rattle.gs_model.specs.declared.faults.Fault.{Fault}
use Rattle.gs_model.specs.declared.faults.Fault.TheVariants.{Syntax}
use Rattle.gs_ntterm.specs.Classes.{may_stand_in_iri, may_stand_in_string, may_stand_in_comment, begins_label, is_label_char, is_tag_char, with_digit}
use Rattle.gs_ntterm.specs.LineTerms.{Labelled, fault_of}
use Rattle.gs_ntterm.specs.Terminals.{Inside, Plain, Escape, Digits}
use Rattle.gs_ntterm.specs.Tokens.{Held, hold, add, tagged_held}
use Rattle.gs_ntterm.specs.Labels.{add_dots}
use Rattle.gs_ntread.specs.States.{Stage, AtSubject, AtPredicate, AtObject, AtSuffix, TokenMode, Between, Comment, InIri, InString, Underscore, Colon, InLabel, InDots, Caret, AtSign, InTag, Hyphen, Broken, LineState, LineTransition, broken, no_triple, sentence}
use Rattle.gs_ntread.specs.Lines.{end_state, at_dot, after_literal, between_transition, iri_closed, string_closed, caret_closed, string_fault}

-- the whole number of an escape in an IRI
abbrev pub iri_numbered : Stage → Held → ℕ → LineState
iri_numbered g h v = if may_stand_in_iri v then (g, InIri Plain (add h (encode_utf8 v))) else broken Syntax

-- the whole number of an escape in a string
abbrev pub string_numbered : Stage → Held → ℕ → LineState
string_numbered g h v = if is_character v then (g, InString Plain (add h (encode_utf8 v))) else broken Syntax

-- a character of an IRI
abbrev pub iri_transition : Inside → Stage → Held → ℕ → LineState
iri_transition Plain g h c =
    if c == greater_than then iri_closed g h
    else if c == backslash then (g, InIri Escape h)
    else if may_stand_in_iri c then (g, InIri Plain (add h (encode_utf8 c)))
    else broken Syntax
iri_transition Escape g h c =
    if c == small_u then (g, InIri (Digits 3 0) h)
    else if c == big_u then (g, InIri (Digits 7 0) h)
    else broken Syntax
iri_transition (Digits left value) g h c =
    if is_hex c then
    (if left == 0 then iri_numbered g h (with_digit value c) else (g, InIri (Digits (left - 1) (with_digit value c)) h))
    else broken Syntax

-- what an escape in a string means
abbrev pub escape_transition : Stage → Held → Option ℕ → LineState
escape_transition g h None = broken Syntax
escape_transition g h (Some c) = (g, InString Plain (add h (encode_utf8 c)))

-- a character of a string
abbrev pub string_transition : Inside → Stage → Held → ℕ → LineState
string_transition Plain g h c =
    if c == quote then string_closed g h
    else if c == backslash then (g, InString Escape h)
    else if may_stand_in_string c then (g, InString Plain (add h (encode_utf8 c)))
    else broken Syntax
string_transition Escape g h c =
    if c == small_u then (g, InString (Digits 3 0) h)
    else if c == big_u then (g, InString (Digits 7 0) h)
    else escape_transition g h (echar_meaning c)
string_transition (Digits left value) g h c =
    if is_hex c then
    (if left == 0 then string_numbered g h (with_digit value c) else (g, InString (Digits (left - 1) (with_digit value c)) h))
    else broken Syntax

-- a character after a label
abbrev pub label_transition : Stage → List ℕ → ℕ → ℕ → LineTransition
label_transition AtSubject label c n = between_transition (AtPredicate (Labelled label)) c n
label_transition (AtObject s p) label c n = at_dot s p (Labelled label) c n
label_transition g label c n = no_triple (broken Syntax)

-- a character after a label and dots, the first of which ends the statement
abbrev pub dotted_transition : Stage → List ℕ → ℕ → ℕ → ℕ → LineTransition
dotted_transition (AtObject s p) label first more c = (if more == 0 then end_state c else broken Syntax, sentence s p (Labelled label) first ∷ [])
dotted_transition g label first more c = no_triple (broken Syntax)

-- a character after a language tag
abbrev pub tag_transition : Stage → Held → ℕ → ℕ → LineTransition
tag_transition (AtSuffix s p l) h c n = after_literal s p (tagged_held l h) c n
tag_transition g h c n = no_triple (broken Syntax)

-- a character that does not go on with a part of a language tag
abbrev pub tag_ended : Stage → Held → ℕ → ℕ → LineTransition
tag_ended g h c n = if c == hyphen then no_triple (g, Hyphen h) else tag_transition g h c n

-- the fault of a literal after whose tag a '-' stands that is not the tag's
abbrev pub tag_fault : Stage → Held → Fault
tag_fault (AtSuffix s p l) h = fault_of (tagged_held l h)
tag_fault g h = Syntax

-- a character more: the state then, and the triple that it completes
abbrev pub transition : Stage → TokenMode → ℕ → ℕ → LineTransition
transition g Between c n = between_transition g c n
transition g Comment c n =
    if is_line_end c then no_triple (AtSubject, Between)
    else if may_stand_in_comment c then no_triple (AtSubject, Comment)
    else no_triple (broken Syntax)
transition g (InIri v h) c n = no_triple (iri_transition v g h c)
transition g (InString v h) c n = no_triple (string_transition v g h c)
transition g Underscore c n = if c == colon then no_triple (g, Colon) else no_triple (broken Syntax)
transition g Colon c n = if begins_label c then no_triple (g, InLabel (encode_utf8 c)) else no_triple (broken Syntax)
transition g (InLabel label) c n =
    if is_label_char c then no_triple (g, InLabel (label ++ encode_utf8 c))
    else if c == dot then no_triple (g, InDots label n 0)
    else label_transition g label c n
transition g (InDots label first more) c n =
    if is_label_char c then no_triple (g, InLabel (add_dots (label ++ encode_utf8 dot) more ++ encode_utf8 c))
    else if c == dot then no_triple (g, InDots label first (more + 1))
    else dotted_transition g label first more c
transition g Caret c n = if c == caret then no_triple (caret_closed g) else no_triple (broken (string_fault g))
transition g AtSign c n = if is_tag_char false c then no_triple (g, InTag false (hold (encode_utf8 c))) else no_triple (broken (string_fault g))
transition g (InTag digits h) c n =
    if is_tag_char digits c then no_triple (g, InTag digits (add h (encode_utf8 c)))
    else tag_ended g h c n
transition g (Hyphen h) c n =
    if is_tag_char true c then no_triple (g, InTag true (add (add h (encode_utf8 hyphen)) (encode_utf8 c))) else no_triple (broken (tag_fault g h))
transition g (Broken e) c n = no_triple (broken e)
