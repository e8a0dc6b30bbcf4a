-- Examples of escapes (Turtle, sections 2.5.1 and 6.4), by computation. The names are ASCII, so that `codes` writes them.
use Rattle.std.proofs.Common.{◌≡◌, [], ◌∷◌, ◌++◌, refl}
use Rattle.std.specs.Prelude.{codes, Some, None}
use Rattle.std.specs.Str.{is_utf8, chars}
use lib.Utf8.{encode}
use Rattle.gs_model.specs.Escapes.{hex_number, echar_meaning}
use Rattle.gs_escape.specs.Escapes.{numbered, uchar, echar, local_escape, iri_escape, string_escape}
use Rattle.gs_escape.specs.Meanings.{stands_short, stands_long, stands_local, unescaped}
use Rattle.gs_escape.specs.Tokens.{between, quoted, iri_of, string_of, local_of, split_at_colon}

-- a percent escape is not decoded
percent : iri_of (codes "<http://a.example/%66oo-bar>") ≡ Some (codes "http://a.example/%66oo-bar")
unfolding iri_of between unescaped is_utf8 chars encode
percent = refl

percent_local : local_of (codes "%66oo-bar") ≡ Some (codes "%66oo-bar")
unfolding unescaped stands_local is_utf8 chars encode
percent_local = refl

-- `<\u0061\U00000062>` is `<ab>`
numbers : iri_of (60 ∷ 92 ∷ codes "u0061" ++ 92 ∷ codes "U00000062" ++ codes ">") ≡ Some (codes "ab")
unfolding iri_of between unescaped iri_escape uchar numbered hex_number is_utf8 chars encode
numbers = refl

-- a space, a surrogate and a number after the last character
space : iri_of (60 ∷ 92 ∷ codes "u0020>") ≡ None
unfolding iri_of between unescaped iri_escape uchar numbered hex_number is_utf8 chars encode
space = refl

surrogate : string_of (34 ∷ 92 ∷ codes "uD800" ++ 34 ∷ []) ≡ None
unfolding string_of quoted between unescaped stands_short string_escape echar echar_meaning uchar numbered hex_number is_utf8 chars encode
surrogate = refl

above : string_of (34 ∷ 92 ∷ codes "U00110000" ++ 34 ∷ []) ≡ None
unfolding string_of quoted between unescaped stands_short string_escape echar echar_meaning uchar numbered hex_number is_utf8 chars encode
above = refl

-- `"\t\b\n\r\f\"\'\\"`
letters : string_of (34 ∷ 92 ∷ 116 ∷ 92 ∷ 98 ∷ 92 ∷ 110 ∷ 92 ∷ 114 ∷ 92 ∷ 102 ∷ 92 ∷ 34 ∷ 92 ∷ 39 ∷ 92 ∷ 92 ∷ 34 ∷ []) ≡ Some (9 ∷ 8 ∷ 10 ∷ 13 ∷ 12 ∷ 34 ∷ 39 ∷ 92 ∷ [])
unfolding string_of quoted between unescaped stands_short string_escape echar echar_meaning uchar is_utf8 chars encode
letters = refl

-- `""""a""b"""` is `"a""b`, and no string ends in four quotes
long : string_of (34 ∷ 34 ∷ 34 ∷ 34 ∷ 97 ∷ 34 ∷ 34 ∷ 98 ∷ 34 ∷ 34 ∷ 34 ∷ []) ≡ Some (34 ∷ 97 ∷ 34 ∷ 34 ∷ 98 ∷ [])
unfolding string_of quoted between unescaped stands_long is_utf8 chars encode
long = refl

four_quotes : string_of (34 ∷ 34 ∷ 34 ∷ 97 ∷ 34 ∷ 34 ∷ 34 ∷ 34 ∷ []) ≡ None
unfolding string_of quoted between unescaped stands_long is_utf8 chars encode
four_quotes = refl

empty : string_of (34 ∷ 34 ∷ []) ≡ Some []
unfolding string_of quoted between unescaped is_utf8 chars encode
empty = refl

-- `lat\-long`
dash : local_of (codes "lat" ++ 92 ∷ codes "-long") ≡ Some (codes "lat-long")
unfolding unescaped stands_local local_escape is_utf8 chars encode
dash = refl

first_colon : split_at_colon (codes "og:video:height") ≡ Some (codes "og", codes "video:height")
first_colon = refl
