-- The type of a body (RFC 9110, sections 8.3 and 8.3.1).
use Rattle.std.specs.Prelude.{ℕ, Bool, not, ◌||◌, List, [], ◌∷◌, codes, if◌then◌else◌, Option, Some, None}
use Rattle.std.specs.List.{list_all}
use Rattle.gs_model.specs.Punctuation.{semicolon, equals_sign}
use Rattle.gs_names.specs.declared.media.Media.{Media}
use Rattle.gs_names.specs.declared.media.Media.TheVariants.{Turtle, NTriples, Update}
use Rattle.gs_names.specs.declared.media.BodyType.{BodyType}
use Rattle.gs_names.specs.declared.media.BodyType.TheVariants.{Absent, Known, Refused}
use Rattle.gs_names.specs.Words.{front_word, back_word, is_same_word, semicolon_parts}

-- the type of this name, in any case
abbrev pub media_named : List ℕ → Option Media
media_named x =
    if is_same_word x (codes "text/turtle") then Some Turtle
    else if is_same_word x (codes "application/n-triples") then Some NTriples
    else if is_same_word x (codes "application/sparql-update") then Some Update
    else None

-- a `charset` is UTF-8, quoted or not; other parameters are ignored (section 8.3.2)
abbrev pub is_allowed_charset : List ℕ → Bool
is_allowed_charset p =
    not (is_same_word (front_word equals_sign p) (codes "charset"))
    || (is_same_word (back_word equals_sign p) (codes "utf-8") || is_same_word (back_word equals_sign p) (codes "\"utf-8\""))

-- media-type (section 8.3.1): nothing before the first semicolon is both a type and a `charset`, so each part is tested
abbrev pub media_of : List ℕ → Option Media
media_of v = if list_all is_allowed_charset (semicolon_parts v) then media_named (front_word semicolon v) else None

-- a type that is known, or none
abbrev pub known_or_refused : Option Media → BodyType
known_or_refused None = Refused
known_or_refused (Some m) = Known m

-- by the values of Content-Type
abbrev pub body_type_of : List (List ℕ) → BodyType
body_type_of [] = Absent
body_type_of (v ∷ []) = known_or_refused (media_of v)
body_type_of (v ∷ w ∷ vs) = Refused
