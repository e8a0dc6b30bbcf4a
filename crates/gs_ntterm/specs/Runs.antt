-- Runs of bytes of ASCII that go on with a token or a comment, and a token with a run after it.
use Rattle.std.specs.Prelude.{ℕ, Bool, ◌&&◌, ◌||◌, ◌==◌, not, List, [], ◌∷◌, nat_lt}
use Rattle.std.specs.Char.{is_ascii}
use Rattle.gs_model.specs.Punctuation.{left_brace}
use Rattle.gs_model.specs.Characters.{quote, colon, is_iri_char, in_ranges, pn_chars}
use Rattle.gs_model.specs.Escapes.{is_line_end, is_string_char}
use Rattle.gs_ntterm.specs.Tokens.{Held, add}

-- of ASCII below '{', in an IRI as it is
abbrev pub runs_in_iri : ℕ → Bool
runs_in_iri b = nat_lt b left_brace && is_iri_char b

-- of ASCII, in a string as it is
abbrev pub runs_in_string : ℕ → Bool
runs_in_string b = is_ascii b && is_string_char quote b

-- of ASCII, in a label
abbrev pub runs_in_label : ℕ → Bool
runs_in_label b = is_ascii b && (in_ranges pn_chars b || b == colon)

-- of ASCII, in a comment
abbrev pub runs_in_comment : ℕ → Bool
runs_in_comment b = is_ascii b && not (is_line_end b)

-- a token with so many bytes more, one after another
abbrev pub add_each : Held → List ℕ → Held
add_each h [] = h
add_each h (b ∷ bs) = add_each (add h (b ∷ [])) bs

-- the bytes that are not of a class
abbrev pub outside : (ℕ → Bool) → ℕ → Bool
outside class b = not (class b)
