-- Absolute IRIs (RFC 3986, sections 3 and 4.3, on the characters of RFC 3987): a scheme (a letter, then
-- letters, digits, '+', '-', '.'), ':', and then IRI characters only. A fragment may stand.
use Rattle.std.specs.Prelude.{◌≡◌, ℕ, ◌≤◌, Bool, true, false, if◌then◌else◌, ◌||◌, ◌&&◌, ◌==◌, List, [], ◌∷◌, ◌++◌, length}
use Rattle.std.specs.List.{list_all}
use Rattle.std.specs.Str.{IsUtf8}
use Rattle.gs_model.specs.Characters.{plus, hyphen, dot, colon, is_upper, is_lower, is_digit, is_iri_char}
use Rattle.gs_model.specs.Limits.{max_name_bytes}

-- ALPHA
abbrev pub is_letter : ℕ → Bool
is_letter c = is_upper c || is_lower c

-- ALPHA, DIGIT, '+', '-' or '.'
abbrev pub is_scheme_char : ℕ → Bool
is_scheme_char c = is_letter c || is_digit c || c == plus || c == hyphen || c == dot

-- the rest of a scheme, ':', and IRI characters
abbrev pub is_scheme_rest : List ℕ → Bool
is_scheme_rest [] = false
is_scheme_rest (c ∷ cs) = if c == colon then list_all is_iri_char cs else is_scheme_char c && is_scheme_rest cs

-- the test, on characters or on the bytes of their UTF-8
abbrev pub is_absolute : List ℕ → Bool
is_absolute [] = false
is_absolute (c ∷ cs) = is_letter c && is_scheme_rest cs

-- the same in the words of the definition
pub record IsAbsolute (text : List ℕ) : Type 0 where
  pub first : ℕ
  pub scheme : List ℕ
  pub rest : List ℕ
  pub parts : text ≡ (first ∷ scheme) ++ colon ∷ rest
  pub begins : is_letter first ≡ true
  pub goes_on : list_all is_scheme_char scheme ≡ true
  pub characters : list_all is_iri_char rest ≡ true

-- the name of a graph: an absolute IRI that is not too long
pub record IsName (text : List ℕ) : Type 0 where
  pub absolute : is_absolute text ≡ true
  pub spelled : IsUtf8 text
  pub short : length text ≤ max_name_bytes
