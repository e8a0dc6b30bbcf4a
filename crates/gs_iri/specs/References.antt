-- The parts of a reference (RFC 3986, sections 3 and 4.1): scheme, authority, path, query and fragment.
use Rattle.std.specs.Prelude.{ℕ, Bool, false, if◌then◌else◌, ◌&&◌, ◌==◌, List, [], ◌∷◌, codes}
use Rattle.std.specs.Prelude.{Option, Some, None}
use Rattle.std.specs.Option.{is_some, unwrap_or, option_map, option_and_then}
use Rattle.std.specs.List.{list_all, list_any}
use Rattle.gs_model.specs.Characters.{colon, number_sign}
use Rattle.gs_model.specs.Iris.{is_letter, is_scheme_char}
use Rattle.gs_model.specs.Punctuation.{slash, question_mark}

-- a part that is undefined is `None`, which is not the same as empty; the path is always defined
pub record Reference : Type 0 where
  pub scheme : Option (List ℕ)
  pub authority : Option (List ℕ)
  pub path : List ℕ
  pub query : Option (List ℕ)
  pub fragment : Option (List ℕ)

-- one of these bytes
abbrev pub is_one_of : List ℕ → ℕ → Bool
is_one_of stops c = list_any (λ stop. stop == c) stops

-- the text up to the first of these bytes
unfoldable pub before : List ℕ → List ℕ → List ℕ
before stops [] = []
before stops (c ∷ cs) = if is_one_of stops c then [] else c ∷ before stops cs

-- the text from the first of these bytes on
unfoldable pub from : List ℕ → List ℕ → List ℕ
from stops [] = []
from stops (c ∷ cs) = if is_one_of stops c then c ∷ cs else from stops cs

-- the text after a byte, where it begins with that byte
unfoldable pub rest_after : ℕ → List ℕ → Option (List ℕ)
rest_after mark [] = None
rest_after mark (c ∷ cs) = if c == mark then Some cs else None

-- 3.1: a letter, then letters, digits, '+', '-' and '.'
unfoldable pub is_scheme : List ℕ → Bool
is_scheme [] = false
is_scheme (c ∷ cs) = is_letter c && list_all is_scheme_char cs

-- the text before its first ':' is a scheme
unfoldable pub has_scheme : List ℕ → Bool
has_scheme x = is_some (rest_after colon (from (codes ":") x)) && is_scheme (before (codes ":") x)

-- the scheme, if there is one
unfoldable pub scheme_of : List ℕ → Option (List ℕ)
scheme_of x = if has_scheme x then Some (before (codes ":") x) else None

-- what is left after the scheme and its ':'
unfoldable pub rest_after_scheme : List ℕ → List ℕ
rest_after_scheme x = if has_scheme x then unwrap_or (rest_after colon (from (codes ":") x)) x else x

-- 3.2: the text after "//", where an authority stands up to the next '/', '?' or '#'
unfoldable pub rest_after_slashes : List ℕ → Option (List ℕ)
rest_after_slashes x = option_and_then (rest_after slash) (rest_after slash x)

-- the authority, if the text begins with "//"
unfoldable pub authority_of : List ℕ → Option (List ℕ)
authority_of x = option_map (before (codes "/?#")) (rest_after_slashes x)

-- what is left after the authority
unfoldable pub rest_after_authority : List ℕ → List ℕ
rest_after_authority x = unwrap_or (option_map (from (codes "/?#")) (rest_after_slashes x)) x

-- 3.3: the path ends at the first '?' or '#'
unfoldable pub path_of : List ℕ → List ℕ
path_of x = before (codes "?#") x

-- what is left after the path
unfoldable pub rest_after_path : List ℕ → List ℕ
rest_after_path x = from (codes "?#") x

-- 3.4: the query stands after '?', and ends at the first '#'
unfoldable pub query_of : List ℕ → Option (List ℕ)
query_of x = option_map (before (codes "#")) (rest_after question_mark x)

-- what is left after the query
unfoldable pub rest_after_query : List ℕ → List ℕ
rest_after_query x = unwrap_or (option_map (from (codes "#")) (rest_after question_mark x)) x

-- 3.5: the fragment stands after '#'
unfoldable pub fragment_of : List ℕ → Option (List ℕ)
fragment_of x = rest_after number_sign x

-- each part is cut off what the parts before it leave
unfoldable pub parts_of : List ℕ → Reference
parts_of x = record {
  scheme = scheme_of x;
  authority = authority_of (rest_after_scheme x);
  path = path_of (rest_after_authority (rest_after_scheme x));
  query = query_of (rest_after_path (rest_after_authority (rest_after_scheme x)));
  fragment = fragment_of (rest_after_query (rest_after_path (rest_after_authority (rest_after_scheme x))));
}
