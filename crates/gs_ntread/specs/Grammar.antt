-- The productions of N-Triples (25 February 2014, section 7), each taking the longest text that it can from
-- the front of a line. Spaces and tabs may stand between tokens. Of two faults the first in the order of the tokens counts.
use Rattle.std.specs.Prelude.{ℕ, false, ◌==◌, if◌then◌else◌, List, [], ◌∷◌, Result, Ok, Err}
use Rattle.gs_model.specs.Characters.{quote, dot, less_than, at_sign, caret, underscore}
use Rattle.gs_model.specs.Terms.{Term}
use Rattle.gs_model.specs.declared.faults.Fault.{Fault}
use Rattle.gs_model.specs.declared.faults.Fault.TheVariants.{Syntax}
use Rattle.gs_ntterm.specs.Marks.{Mark}
use Rattle.gs_ntterm.specs.LineTerms.{LineTerm, Fixed, Labelled, iri_made, plain_made, typed_made, tagged_made, fault_of}
use Rattle.gs_model.specs.Faults.{◌>>=◌}
use Rattle.gs_ntterm.specs.Terminals.{FrontRead, skip, Plain, iri_after, string_after, label_at, begins_part, tag_after}
use Rattle.gs_ntread.specs.LineTriples.{LineTriple}

-- with the text after it
abbrev pub before_text : {A : Type 0} → List Mark → Result A Fault → FrontRead A
before_text ms (Err e) = Err e
before_text ms (Ok x) = Ok (x, ms)

-- a term that needs no number
abbrev pub fixed : FrontRead Term → FrontRead LineTerm
fixed (Err e) = Err e
fixed (Ok r) = Ok (Fixed r.0, r.1)

-- IRIREF after its '<', as a term
abbrev pub iri_read : FrontRead (List ℕ) → FrontRead Term
iri_read r = r >>= λ i. before_text i.1 (iri_made i.0)

-- BLANK_NODE_LABEL after its '_', as a term
abbrev pub label_read : FrontRead (List ℕ) → FrontRead LineTerm
label_read r = r >>= λ l. Ok (Labelled l.0, l.1)

-- a datatype after '^^'
abbrev pub datatype_at : List ℕ → List Mark → FrontRead Term
datatype_at lexical [] = Err Syntax
datatype_at lexical (m ∷ ms) =
    if m.0 == less_than then (iri_after Plain ms >>= λ i. before_text i.1 (typed_made lexical i.0)) else Err Syntax

-- The second '^', and the datatype. Without it no datatype begins, and the string is the term.
abbrev pub caret_at : List ℕ → List Mark → FrontRead Term
caret_at lexical [] = Err (fault_of (plain_made lexical))
caret_at lexical (m ∷ ms) = if m.0 == caret then datatype_at lexical (skip ms) else Err (fault_of (plain_made lexical))

-- a language tag after its '@'; where no letter follows, no tag begins, and the string is the term
abbrev pub tag_at : List ℕ → List Mark → FrontRead Term
tag_at lexical ms =
    if begins_part false ms then before_text (tag_after false ms).1 (tagged_made lexical (tag_after false ms).0)
    else Err (fault_of (plain_made lexical))

-- what may stand after the string of [6] literal
abbrev pub suffix_at : List ℕ → List Mark → FrontRead Term
suffix_at lexical [] = before_text [] (plain_made lexical)
suffix_at lexical (m ∷ ms) =
    if m.0 == caret then caret_at lexical ms
    else if m.0 == at_sign then tag_at lexical ms
    else before_text (m ∷ ms) (plain_made lexical)

-- [3] subject
abbrev pub subject_at : List Mark → FrontRead LineTerm
subject_at [] = Err Syntax
subject_at (m ∷ ms) =
    if m.0 == less_than then fixed (iri_read (iri_after Plain ms))
    else if m.0 == underscore then label_read (label_at ms)
    else Err Syntax

-- [4] predicate
abbrev pub predicate_at : List Mark → FrontRead Term
predicate_at [] = Err Syntax
predicate_at (m ∷ ms) = if m.0 == less_than then iri_read (iri_after Plain ms) else Err Syntax

-- [5] object
abbrev pub object_at : List Mark → FrontRead LineTerm
object_at [] = Err Syntax
object_at (m ∷ ms) =
    if m.0 == less_than then fixed (iri_read (iri_after Plain ms))
    else if m.0 == underscore then label_read (label_at ms)
    else if m.0 == quote then fixed (string_after Plain ms >>= λ l. suffix_at l.0 (skip l.1))
    else Err Syntax

-- the end of the dot, and the text after it
abbrev pub dot_at : List Mark → FrontRead ℕ
dot_at [] = Err Syntax
dot_at (m ∷ ms) = if m.0 == dot then Ok (m.1, ms) else Err Syntax

-- [2] triple, with its dot
abbrev pub line_triple_at : List Mark → FrontRead LineTriple
line_triple_at text =
    subject_at text >>= λ s.
    predicate_at (skip s.1) >>= λ p.
    object_at (skip p.1) >>= λ o.
    dot_at (skip o.1) >>= λ d.
    Ok (record { subject = s.0; predicate = p.0; object = o.0; end = d.0 }, d.1)
