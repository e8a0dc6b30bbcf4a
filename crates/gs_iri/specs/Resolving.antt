-- A reference resolved against a base (RFC 3986, section 5.2, strict).
use Rattle.std.specs.Prelude.{◌≡◌, ℕ, Bool, true, false, if◌then◌else◌, ◌&&◌, List, [], ◌∷◌, ◌++◌, codes, Option, Some, None, Result, Ok, Err}
use Rattle.std.specs.Option.{is_some, option_or}
use Rattle.std.specs.List.{list_all}
use Rattle.gs_model.specs.Characters.{is_iri_char}
use Rattle.gs_model.specs.Iris.{is_absolute}
use Rattle.gs_model.specs.declared.refusals.Refusal.{Refusal}
use Rattle.gs_model.specs.declared.refusals.Refusal.TheVariants.{NoMemory, Syntax}
use Rattle.gs_model.specs.Punctuation.{slash}
use Rattle.gs_iri.specs.References.{Reference, rest_after, parts_of}
use Rattle.gs_iri.specs.Dots.{dots}
use Rattle.gs_iri.specs.Output.{has_slash}

-- a scheme and its ':', where it is defined
unfoldable pub scheme_text : Option (List ℕ) → List ℕ
scheme_text None = []
scheme_text (Some s) = s ++ codes ":"

-- a part after its mark, where it is defined
unfoldable pub marked : List ℕ → Option (List ℕ) → List ℕ
marked mark None = []
marked mark (Some s) = mark ++ s

-- 5.3: the text of five parts, one after another
unfoldable pub parts_text : Option (List ℕ) → Option (List ℕ) → List ℕ → Option (List ℕ) → Option (List ℕ) → List ℕ
parts_text scheme authority path query fragment =
    scheme_text scheme ++ (marked (codes "//") authority ++ (path ++ (marked (codes "?") query ++ marked (codes "#") fragment)))

-- 5.3: the text of a reference of these parts
abbrev pub recomposed : Reference → List ℕ
recomposed r = parts_text r.scheme r.authority r.path r.query r.fragment

-- no byte
abbrev pub is_empty : List ℕ → Bool
is_empty [] = true
is_empty (c ∷ cs) = false

-- through the last '/', and nothing where there is none
unfoldable pub through_last : List ℕ → List ℕ
through_last [] = []
through_last (c ∷ cs) = if has_slash (c ∷ cs) then c ∷ through_last cs else []

-- 5.2.3: what a path that begins without '/' is put after, under a base with this authority and path
unfoldable pub directory_of : Option (List ℕ) → List ℕ → List ℕ
directory_of authority path = if is_some authority && is_empty path then codes "/" else through_last path

-- a prefix of a path, and the '/' after it
unfoldable pub front_text : Option (List ℕ) → List ℕ
front_text None = []
front_text (Some s) = s ++ codes "/"

-- 5.2.2: the parts of reference r, resolved against base b
unfoldable pub resolved_parts : Reference → Reference → Reference
resolved_parts b r =
    if is_some r.scheme then record { scheme = r.scheme; authority = r.authority; path = dots r.path; query = r.query; fragment = r.fragment }
    else if is_some r.authority then record { scheme = b.scheme; authority = r.authority; path = dots r.path; query = r.query; fragment = r.fragment }
    else if is_empty r.path then record { scheme = b.scheme; authority = b.authority; path = b.path; query = option_or r.query b.query; fragment = r.fragment }
    else if is_some (rest_after slash r.path) then record { scheme = b.scheme; authority = b.authority; path = dots r.path; query = r.query; fragment = r.fragment }
    else record { scheme = b.scheme; authority = b.authority; path = dots (directory_of b.authority b.path ++ r.path); query = r.query; fragment = r.fragment }

-- the text of a reference resolved against a base
unfoldable pub resolved : List ℕ → List ℕ → List ℕ
resolved base reference = recomposed (resolved_parts (parts_of base) (parts_of reference))

-- the base is absolute, and the reference has IRI characters only
abbrev pub is_resolvable : List ℕ → List ℕ → Bool
is_resolvable base reference = is_absolute base && list_all is_iri_char reference

-- which answers a base and a reference may get
abbrev pub ReportsReference : List ℕ → List ℕ → Result (Unit {0}) Refusal → Type 0
ReportsReference base reference (Ok _) = is_resolvable base reference ≡ true
ReportsReference base reference (Err NoMemory) = is_resolvable base reference ≡ true
ReportsReference base reference (Err (Syntax at)) = (is_resolvable base reference ≡ false) × (at ≡ 0)
ReportsReference base reference (Err _) = ⊥

-- a reference of IRI characters means an absolute IRI, if the base is absolute
abbrev pub StaysAbsolute : List ℕ → List ℕ → Type 0
StaysAbsolute base reference =
    is_absolute base ≡ true → list_all is_iri_char reference ≡ true → is_absolute (resolved base reference) ≡ true
