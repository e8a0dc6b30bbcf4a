-- The terms that tokens are: what the texts of an IRI, a literal or a label make, with a blank node as its label.
use Rattle.std.specs.Prelude.{ℕ, List, Result, Ok, Err}
use Rattle.std.specs.Str.{str_to_ascii_lowercase}
use Rattle.gs_model.specs.Terms.{Term, Iri, Literal, Typed, Tagged, xsd_string}
use Rattle.gs_model.specs.declared.faults.Fault.{Fault}
use Rattle.gs_model.specs.declared.faults.Fault.TheVariants.{Syntax}
use Rattle.gs_term.specs.Making.{made}

-- a term of a line before its blank node is numbered: an IRI or a literal, or a blank node by its label, of any length
pub data LineTerm : Type 0 where
  Fixed : Term → LineTerm
  Labelled : List ℕ → LineTerm

-- the IRI of a text
abbrev pub iri_made : List ℕ → Result Term Fault
iri_made iri = made (Iri iri)

-- a literal with neither datatype nor tag
abbrev pub plain_made : List ℕ → Result Term Fault
plain_made lexical = made (Literal lexical (Typed xsd_string))

-- a literal with the IRI of its datatype
abbrev pub typed_made : List ℕ → List ℕ → Result Term Fault
typed_made lexical iri = made (Literal lexical (Typed iri))

-- a literal with its language tag, which stands in lower case
abbrev pub tagged_made : List ℕ → List ℕ → Result Term Fault
tagged_made lexical tag = made (Literal lexical (Tagged (str_to_ascii_lowercase tag)))

-- The first fault, where what stands after a term does not go on with its line: the term's own, or else the grammar's there.
abbrev pub fault_of : {A : Type 0} → Result A Fault → Fault
fault_of (Ok x) = Syntax
fault_of (Err e) = e
