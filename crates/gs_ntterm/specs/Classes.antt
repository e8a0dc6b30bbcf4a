-- The classes of characters of N-Triples (25 February 2014, section 7). The mark of ill-formed bytes is in none.
use Rattle.std.specs.Prelude.{ℕ, Bool, ◌&&◌, ◌||◌, ◌==◌, if◌then◌else◌, nat_le, List, fold}
use Rattle.gs_model.specs.Characters.{space, quote, colon, is_digit, in_ranges, pn_chars, pn_chars_u, is_iri_char}
use Rattle.gs_model.specs.Ascii.{tab}
use Rattle.gs_model.specs.Escapes.{is_character, last_character, is_string_char, with_hex}
use Rattle.gs_model.specs.Iris.{is_letter}

-- what may part tokens within a line
abbrev pub is_space : ℕ → Bool
is_space c = c == space || c == tab

-- what may stand in [8] IRIREF as it is, or by its number
abbrev pub may_stand_in_iri : ℕ → Bool
may_stand_in_iri c = is_iri_char c && is_character c

-- what may stand in [9] STRING_LITERAL_QUOTE as it is
abbrev pub may_stand_in_string : ℕ → Bool
may_stand_in_string c = is_string_char quote c && is_character c

-- what may stand in a comment
abbrev pub may_stand_in_comment : ℕ → Bool
may_stand_in_comment c = is_character c

-- the first of [141s] BLANK_NODE_LABEL: PN_CHARS_U, which has ':' in N-Triples, or a digit
abbrev pub begins_label : ℕ → Bool
begins_label c = (in_ranges pn_chars_u c || c == colon || is_digit c) && is_character c

-- [160s] PN_CHARS, with ':'
abbrev pub is_label_char : ℕ → Bool
is_label_char c = (in_ranges pn_chars c || c == colon) && is_character c

-- what may stand in a part of [144s] LANGTAG: letters, and in the parts after a '-' digits too
abbrev pub is_tag_char : (digits : Bool) → ℕ → Bool
is_tag_char digits c = is_letter c || (is_digit c && digits)

-- A number with one hexadecimal digit more, where it is a character's yet: one that is above every character stays so. So a
-- number that is read digit by digit has a bound, and is a character's exactly where the whole number is.
abbrev pub with_digit : ℕ → ℕ → ℕ
with_digit v c = if nat_le v last_character then with_hex v c else v

-- the number of hexadecimal digits that come one by one
abbrev pub number_by_digits : List ℕ → ℕ
number_by_digits ds = fold with_digit 0 ds
