-- Texts of tokens that stand in the text of a term as they are.
use Rattle.std.specs.Prelude.{◌≡◌, ℕ, Bool, true, false, not, ◌&&◌, ◌||◌, ◌==◌, List, [], ◌∷◌, ◌++◌, length, nat_lt, Some}
use Rattle.std.specs.List.{list_all}
use Rattle.gs_model.specs.Characters.{quote, at_sign, backslash, is_lower, is_iri_char}
use Rattle.gs_model.specs.Punctuation.{apostrophe}
use Rattle.gs_model.specs.Terms.{Term, Iri, is_escaped, is_kind, suffix, IsKindText}
use Rattle.gs_model.specs.Texts.{kind_of}
use Rattle.gs_escape.specs.Tokens.{iri_of, string_of}

-- a byte that stands in the text of a literal as it is
abbrev pub is_plain : ℕ → Bool
is_plain c = not (is_escaped c)

-- and between these quotes too
abbrev pub is_plain_in : ℕ → ℕ → Bool
is_plain_in q c = is_plain c && not (c == q)

-- one of the two quotes
abbrev pub is_quote : ℕ → Bool
is_quote q = q == quote || q == apostrophe

-- Between three quotes of a kind: no backslash, and after each quote another byte that is none. Whether a quote stands before.
abbrev pub are_bare : ℕ → Bool → List ℕ → Bool
are_bare q last [] = not last
are_bare q last (c ∷ cs) = (not (c == backslash) && not (last && c == q)) && are_bare q (c == q) cs

-- the mark of a language tag, and then small letters
abbrev pub is_small_tag : List ℕ → Bool
is_small_tag [] = false
is_small_tag (c ∷ cs) = (c == at_sign && nat_lt 0 (length cs)) && list_all is_lower cs

-- the text stands between these two bytes
abbrev pub StandsIn : ℕ → ℕ → List ℕ → List ℕ → Type 0
StandsIn front back text inner = text ≡ front ∷ inner ++ back ∷ []

-- what a string means stands in it, and stands in the text of a literal as it is
pub record IsPlainString (text form : List ℕ) : Type 0 where
  pub meant : string_of text ≡ Some form
  pub plain : list_all is_plain form ≡ true

-- what a reference means stands in it, and has IRI characters alone
pub record IsPlainReference (text iri : List ℕ) : Type 0 where
  pub meant : iri_of text ≡ Some iri
  pub characters : list_all is_iri_char iri ≡ true

-- the bytes stand after the closing quote of the literals of some kind
pub record IsAfter (bytes : List ℕ) : Type 0 where
  pub stands : suffix (kind_of bytes) ≡ bytes
  pub formed : is_kind (kind_of bytes) ≡ true
  pub spelled : IsKindText (kind_of bytes)

-- the text of an IRI
abbrev pub iri_name : Term → List ℕ
iri_name (Iri text) = text
iri_name _ = []
