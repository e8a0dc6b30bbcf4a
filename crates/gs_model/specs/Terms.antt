-- RDF terms (RDF 1.1 Concepts, section 3) and their canonical texts. A text is the bytes of its UTF-8.
use Rattle.std.specs.Prelude.{◌≡◌, ℕ, ◌+◌, ◌^◌, ◌≤◌, Bool, true, false, if◌then◌else◌, ◌||◌, ◌&&◌, ◌==◌, List, [], ◌∷◌, ◌++◌, length, map, nat_lt, codes}
use Rattle.std.specs.Int.Digits.{digits_of}
use Rattle.std.specs.Str.{IsUtf8, bytes_eq}
use Rattle.gs_model.specs.Characters.{line_feed, carriage_return, quote, hyphen, less_than, greater_than, at_sign, backslash, caret, underscore, letter_n, letter_r, is_lower, is_digit}
use Rattle.gs_model.specs.Iris.{is_absolute}
use Rattle.gs_model.specs.Limits.{max_term_bytes}

-- what a literal has besides its lexical form (3.3): its datatype's IRI, or a language tag in lower case
pub data LiteralKind : Type 0 where
  Typed : (datatype : List ℕ) → LiteralKind
  Tagged : (tag : List ℕ) → LiteralKind

-- an IRI (3.2); a blank node (3.4), by a request and a number in it; a literal (3.3)
pub data Term : Type 0 where
  Iri : (text : List ℕ) → Term
  Blank : (request number : ℕ) → Term
  Literal : (lexical : List ℕ) (kind : LiteralKind) → Term

-- the datatype that a canonical text leaves out
abbrev pub xsd_string : List ℕ
xsd_string = codes "http://www.w3.org/2001/XMLSchema#string"

-- `\"`, `\\`, `\n` and `\r`, and all else as it is
abbrev pub escape_of : ℕ → List ℕ
escape_of c =
    if c == quote then backslash ∷ quote ∷ []
    else if c == backslash then backslash ∷ backslash ∷ []
    else if c == line_feed then backslash ∷ letter_n ∷ []
    else if c == carriage_return then backslash ∷ letter_r ∷ []
    else c ∷ []

-- a lexical form as it stands between the quotes
abbrev pub escaped : List ℕ → List ℕ
escaped [] = []
escaped (c ∷ cs) = escape_of c ++ escaped cs

-- the character of a digit
abbrev pub digit : ℕ → ℕ
digit d = 48 + d

-- in decimal, without leading zeros
unfoldable pub numeral : ℕ → List ℕ
numeral n = if n == 0 then digit 0 ∷ [] else map digit (digits_of 10 n)

-- what stands after the closing quote
unfoldable pub suffix : LiteralKind → List ℕ
suffix (Typed d) = if bytes_eq d xsd_string then [] else caret ∷ caret ∷ less_than ∷ d ++ greater_than ∷ []
suffix (Tagged t) = at_sign ∷ t

-- the canonical text: `<iri>`, `_:b<request>_<number>`, `"lexical"` with its suffix
abbrev pub text_of : Term → List ℕ
text_of (Iri text) = less_than ∷ text ++ greater_than ∷ []
text_of (Blank r k) = codes "_:b" ++ numeral r ++ underscore ∷ numeral k
text_of (Literal lexical kind) = quote ∷ escaped lexical ++ quote ∷ suffix kind

-- the first byte of a text, by the kind of its term: '<', '_' or '"'
abbrev pub kind_byte : Term → ℕ
kind_byte (Iri text) = less_than
kind_byte (Blank r k) = underscore
kind_byte (Literal lexical kind) = quote

-- the rest of a language tag in lower case: whether digits may stand there, and whether a part has begun
abbrev pub is_tag_rest : Bool → Bool → List ℕ → Bool
is_tag_rest digits begun [] = begun
is_tag_rest digits begun (c ∷ cs) =
    if is_lower c || (digits && is_digit c) then is_tag_rest digits true cs
    else (c == hyphen && begun) && is_tag_rest true false cs

-- LANGTAG after its '@' (Turtle [144s]) in lower case: letters, then parts of letters and digits, each after a '-'
abbrev pub is_tag : List ℕ → Bool
is_tag tag = is_tag_rest false false tag

-- what may stand as a term
abbrev pub is_kind : LiteralKind → Bool
is_kind (Typed d) = is_absolute d
is_kind (Tagged t) = is_tag t

-- an absolute IRI, a pair of numbers of 64 bits, or a literal with such a datatype or a tag
abbrev pub is_term : Term → Bool
is_term (Iri text) = is_absolute text
is_term (Blank r k) = nat_lt r (2 ^ 64) && nat_lt k (2 ^ 64)
is_term (Literal lexical kind) = is_kind kind

-- a datatype's IRI is UTF-8
abbrev pub IsKindText : LiteralKind → Type 0
IsKindText (Typed d) = IsUtf8 d
IsKindText (Tagged t) = Unit {0}

-- the texts in a term are UTF-8
abbrev pub IsText : Term → Type 0
IsText (Iri text) = IsUtf8 text
IsText (Blank r k) = Unit {0}
IsText (Literal lexical kind) = IsUtf8 lexical × IsKindText kind

-- a term, of a text that is not too long
pub record IsTerm (t : Term) : Type 0 where
  pub formed : is_term t ≡ true
  pub spelled : IsText t
  pub short : length (text_of t) ≤ max_term_bytes

-- a byte that is escaped
abbrev pub is_escaped : ℕ → Bool
is_escaped c = c == quote || c == backslash || c == line_feed || c == carriage_return
