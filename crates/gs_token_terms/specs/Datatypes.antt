-- The datatypes of numbers and booleans, by the names of the code.
use Rattle.std.specs.Prelude.{ℕ, List, codes}
use Rattle.gs_triples.specs.Symbols.{xsd}
use Rattle.gs_token_terms.specs.declared.vocabulary.Datatype.{Datatype}
use Rattle.gs_token_terms.specs.declared.vocabulary.Datatype.TheVariants as datatype

-- a datatype's IRI
abbrev pub datatype_iri : Datatype → List ℕ
datatype_iri datatype.Integer = xsd (codes "integer")
datatype_iri datatype.Decimal = xsd (codes "decimal")
datatype_iri datatype.Double = xsd (codes "double")
datatype_iri datatype.Boolean = xsd (codes "boolean")
