-- What making a term or a name may answer.
use Rattle.std.specs.Prelude.{◌≡◌, ℕ, ◌+◌, ◌≤◌, ◌<◌, nat_le, count_by, if◌then◌else◌, true, false, List, length, Option, Some, None, Result, Ok, Err}
use Rattle.std.specs.Str.{str_to_ascii_lowercase}
use Rattle.gs_model.specs.declared.faults.Fault.{Fault}
use Rattle.gs_model.specs.declared.faults.Fault.TheVariants as fault
use Rattle.gs_model.specs.declared.refusals.Refusal.{Refusal}
use Rattle.gs_model.specs.declared.refusals.Refusal.TheVariants.{NoMemory, Syntax, TermTooLong}
use Rattle.gs_model.specs.Limits.{max_term_bytes, max_name_bytes}
use Rattle.gs_model.specs.Iris.{is_absolute}
use Rattle.gs_model.specs.Terms.{Term, Literal, LiteralKind, Typed, Tagged, text_of, is_term, is_escaped, xsd_string}

-- The term, where it is one and its text is not too long, and else its fault. A wrong form counts before a great length.
abbrev pub made : Term → Result Term Fault
made t =
    if is_term t then (if nat_le (length (text_of t)) max_term_bytes then Ok t else Err fault.TermTooLong)
    else Err fault.Syntax

-- what making the term may answer: the same, or want of memory where it is one
abbrev pub Makes : Term → Result Term Refusal → Type 0
Makes t (Ok u) = (u ≡ t) × (is_term t ≡ true) × (length (text_of t) ≤ max_term_bytes)
Makes t (Err NoMemory) = (is_term t ≡ true) × (length (text_of t) ≤ max_term_bytes)
Makes t (Err (Syntax at)) = (at ≡ 0) × (is_term t ≡ false)
Makes t (Err TermTooLong) = (is_term t ≡ true) × (max_term_bytes < length (text_of t))
Makes t (Err refusal) = ⊥

-- a literal's kind by what was given: not both, and `xsd:string` by neither
abbrev pub given_kind : Option (List ℕ) → Option (List ℕ) → Option LiteralKind
given_kind None None = Some (Typed xsd_string)
given_kind (Some datatype) None = Some (Typed datatype)
given_kind None (Some tag) = Some (Tagged (str_to_ascii_lowercase tag))
given_kind (Some datatype) (Some tag) = None

-- what making a literal of this kind may answer; without a kind its form is wrong
abbrev pub MakesOfKind : List ℕ → Option LiteralKind → Result Term Refusal → Type 0
MakesOfKind lexical (Some kind) r = Makes (Literal lexical kind) r
MakesOfKind lexical None r = r ≡ Err (Syntax 0)

-- what making a literal may answer, by its lexical form and by what was given of datatype and tag
abbrev pub MakesLiteral : List ℕ → Option (List ℕ) → Option (List ℕ) → Result Term Refusal → Type 0
MakesLiteral lexical datatype tag r = MakesOfKind lexical (given_kind datatype tag) r

-- how many bytes a literal's text has, with so many after its closing quote
abbrev pub literal_len : List ℕ → ℕ → ℕ
literal_len lexical after = length lexical + count_by is_escaped lexical + after + 2

-- so many of its bytes are escaped, and its text is not too long
abbrev pub FitsWithEscapes : List ℕ → ℕ → ℕ → Type 0
FitsWithEscapes lexical after n = (n ≡ count_by is_escaped lexical) × (length lexical + n + after + 2 ≤ max_term_bytes)

-- The name of a text, where it is an absolute IRI and not too long. A wrong form counts before a great length.
abbrev pub Names : List ℕ → Result (List ℕ) Refusal → Type 0
Names text (Ok name) = (name ≡ text) × (is_absolute text ≡ true) × (length text ≤ max_name_bytes)
Names text (Err NoMemory) = (is_absolute text ≡ true) × (length text ≤ max_name_bytes)
Names text (Err (Syntax at)) = (at ≡ 0) × (is_absolute text ≡ false)
Names text (Err TermTooLong) = (is_absolute text ≡ true) × (max_name_bytes < length text)
Names text (Err refusal) = ⊥
