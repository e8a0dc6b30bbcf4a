-- The values under a field's name (RFC 9110, sections 5.1 and 5.2).
use Rattle.std.specs.Prelude.{◌≡◌, ℕ, List, [], ◌∷◌, map, if◌then◌else◌}
use Rattle.std.specs.Borrow.{Bor}
use Rattle.std.specs.Str.{bytes_eq}
use Rattle.http_header.specs.HeaderMap.{Entries, get_all}
use Rattle.http_header.specs.Token.{lowercase}
use Rattle.gs_http.specs.Heads.{NameAndValue}

-- the values of the fields of a name, in order; the name is given in lower case, and written in any
abbrev pub values_of : List ℕ → List NameAndValue → List (List ℕ)
values_of name [] = []
values_of name (f ∷ fs) = if bytes_eq (lowercase f.0) name then f.1 ∷ values_of name fs else values_of name fs

-- the values that a map keeps under a name
abbrev pub kept_under : Entries (Bor (List ℕ)) → List ℕ → List (List ℕ)
kept_under m name = map (λ (v : Bor (List ℕ)). v.now) (get_all m name)

-- a map keeps exactly the values of these fields, under each name
abbrev pub KeepsFields : Entries (Bor (List ℕ)) → List NameAndValue → Type 0
KeepsFields m fs = (name : List ℕ) → kept_under m name ≡ values_of name fs
