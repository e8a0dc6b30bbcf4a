-- Tokens that stand whole at the front of a piece, in characters of ASCII that mean themselves, and the terms that they are.
use Rattle.std.specs.Prelude.{◌≡◌, ℕ, ◌+◌, ◌≤◌, ◌<◌, true, List, [], ◌∷◌, ◌++◌, length, take, get_or, Ok}
use Rattle.std.specs.Char.{is_ascii}
use Rattle.std.specs.List.{list_all}
use Rattle.gs_model.specs.Characters.{is_lower, quote, colon, underscore, at_sign, caret, less_than, greater_than}
use Rattle.gs_model.specs.Iris.{is_absolute}
use Rattle.gs_model.specs.Limits.{max_term_bytes}
use Rattle.gs_model.specs.Terms.{Term, Iri, Literal, LiteralKind, Typed, Tagged, xsd_string}
use Rattle.gs_model.specs.Texts.{term_of, IsCanonical}
use Rattle.gs_term.specs.Making.{made}
use Rattle.gs_ntterm.specs.Classes.{is_space, begins_label}
use Rattle.gs_ntterm.specs.Runs.{runs_in_iri, runs_in_string, runs_in_label}

-- the first n bytes are an absolute IRI in its marks, which a term has room for
pub record IriFront (piece : List ℕ) (n : ℕ) : Type 0 where
  pub iri : List ℕ
  pub stands : take n piece ≡ less_than ∷ iri ++ greater_than ∷ []
  pub plain : list_all runs_in_iri iri ≡ true
  pub absolute : is_absolute iri ≡ true
  pub made : made (Iri iri) ≡ Ok (Iri iri)
  pub short : n ≤ max_term_bytes
  pub within : n ≤ length piece

-- the same, and this is its term
pub record IsIriFront (piece : List ℕ) (n : ℕ) (t : Term) : Type 0 where
  pub front : IriFront piece n
  pub term : t ≡ Iri front.iri

-- the first n bytes are a string in its quotes
pub record StringFront (piece : List ℕ) (n : ℕ) : Type 0 where
  pub lexical : List ℕ
  pub stands : take n piece ≡ quote ∷ lexical ++ quote ∷ []
  pub plain : list_all runs_in_string lexical ≡ true
  pub within : n ≤ length piece

-- the first n bytes are a datatype after its string
pub record DatatypeFront (rest : List ℕ) (n : ℕ) : Type 0 where
  pub iri : List ℕ
  pub stands : take n rest ≡ caret ∷ caret ∷ less_than ∷ iri ++ greater_than ∷ []
  pub plain : list_all runs_in_iri iri ≡ true
  pub absolute : is_absolute iri ≡ true
  pub within : n ≤ length rest

-- the datatype that a text leaves out, after its string
abbrev pub string_suffix : List ℕ
string_suffix = caret ∷ caret ∷ less_than ∷ xsd_string ++ greater_than ∷ []

-- the first n bytes are a language tag of small letters after its string
pub record TagFront (rest : List ℕ) (n : ℕ) : Type 0 where
  pub tag : List ℕ
  pub stands : take n rest ≡ at_sign ∷ tag
  pub plain : list_all is_lower tag ≡ true
  pub some : 0 < length tag
  pub within : n ≤ length rest

-- what stands after a string's closing quote says its kind: nothing, a datatype's IRI, or a tag of small letters
pub data SaysSuffix : List ℕ → LiteralKind → Type 0 where
  none : SaysSuffix [] (Typed xsd_string)
  datatype : (d : List ℕ) → list_all runs_in_iri d ≡ true → SaysSuffix (caret ∷ caret ∷ less_than ∷ d ++ greater_than ∷ []) (Typed d)
  tag : (t : List ℕ) → list_all is_lower t ≡ true → 0 < length t → SaysSuffix (at_sign ∷ t) (Tagged t)

-- the first n bytes are a literal, which t is
pub record IsLiteralFront (piece : List ℕ) (n : ℕ) (t : Term) : Type 0 where
  pub lexical : List ℕ
  pub after : List ℕ
  pub kind : LiteralKind
  pub term : t ≡ Literal lexical kind
  pub stands : take n piece ≡ quote ∷ lexical ++ quote ∷ after
  pub plain : list_all runs_in_string lexical ≡ true
  pub says : SaysSuffix after kind
  pub made : made (Literal lexical kind) ≡ Ok (Literal lexical kind)
  pub short : n ≤ max_term_bytes
  pub within : n ≤ length piece

-- the first m bytes are the text of a literal, whose token the first n bytes are
pub record IsLiteralText (piece : List ℕ) (m n : ℕ) : Type 0 where
  pub canonical : IsCanonical (take m piece)
  pub front : IsLiteralFront piece n (term_of (take m piece))
  pub within : m ≤ length piece

-- a label of ASCII begins at the front: its mark and its first character
pub record LabelBegins (piece : List ℕ) : Type 0 where
  pub first : ℕ
  pub rest : List ℕ
  pub is : piece ≡ underscore ∷ colon ∷ first ∷ rest
  pub small : is_ascii first ≡ true
  pub begins : begins_label first ≡ true

-- a label of ASCII without dots stands at the front after its mark, before a blank
pub record LabelFront (piece label : List ℕ) : Type 0 where
  pub first : ℕ
  pub more : List ℕ
  pub is : label ≡ first ∷ more
  pub small : is_ascii first ≡ true
  pub begins : begins_label first ≡ true
  pub plain : list_all runs_in_label more ≡ true
  pub stands : take (length label + 2) piece ≡ underscore ∷ colon ∷ label
  pub within : length label + 2 < length piece
  pub blank : is_space (get_or piece (length label + 2) 0) ≡ true
