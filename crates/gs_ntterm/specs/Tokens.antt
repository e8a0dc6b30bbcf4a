-- What is held of a token, and the term that it is.
use Rattle.std.specs.Prelude.{ℕ, if◌then◌else◌, List, ◌++◌, length, nat_le, Result, Err}
use Rattle.std.specs.Str.{str_to_ascii_lowercase}
use Rattle.gs_model.specs.Terms.{Term, Iri, Literal, LiteralKind, Typed, Tagged, xsd_string, is_kind}
use Rattle.gs_model.specs.Limits.{max_term_bytes}
use Rattle.gs_model.specs.declared.faults.Fault.{Fault}
use Rattle.gs_model.specs.declared.faults.Fault.TheVariants.{Syntax, TermTooLong}
use Rattle.gs_term.specs.Making.{made}
use Rattle.gs_ntterm.specs.Forms.{form_of, form_after, is_absolute_form, is_tag_form}
use Rattle.gs_ntterm.specs.declared.forms.Form.{Form}

-- the bytes of a token so far, of which only the form is kept where no term has room for them
pub data Held : Type 0 where
  Text : List ℕ → Held
  Long : Form → Held

-- a text as it is held
abbrev pub hold : List ℕ → Held
hold bytes = if nat_le (length bytes) max_term_bytes then Text bytes else Long (form_of bytes)

-- with some bytes more
abbrev pub add : Held → List ℕ → Held
add (Text t) bytes = hold (t ++ bytes)
add (Long f) bytes = Long (form_after f bytes)

-- the IRI of a token
abbrev pub iri_held : Held → Result Term Fault
iri_held (Text t) = made (Iri t)
iri_held (Long f) = if is_absolute_form f then Err TermTooLong else Err Syntax

-- a literal, whose datatype or tag counts before its length
abbrev pub literal_held : Held → LiteralKind → Result Term Fault
literal_held (Text lexical) k = made (Literal lexical k)
literal_held (Long f) k = if is_kind k then Err TermTooLong else Err Syntax

-- a literal with a datatype
abbrev pub typed_held : Held → Held → Result Term Fault
typed_held lexical (Text iri) = literal_held lexical (Typed iri)
typed_held lexical (Long f) = if is_absolute_form f then Err TermTooLong else Err Syntax

-- a literal with a language tag
abbrev pub tagged_held : Held → Held → Result Term Fault
tagged_held lexical (Text tag) = literal_held lexical (Tagged (str_to_ascii_lowercase tag))
tagged_held lexical (Long f) = if is_tag_form f then Err TermTooLong else Err Syntax

-- a literal with neither
abbrev pub plain_held : Held → Result Term Fault
plain_held lexical = literal_held lexical (Typed xsd_string)
