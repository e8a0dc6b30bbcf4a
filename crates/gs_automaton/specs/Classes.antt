-- The classes of characters that the terminals name (Turtle, section 6.5; SPARQL 1.1 Query, section 19.8).
use Rattle.std.specs.Prelude.{ℕ, Bool, ◌==◌, ◌||◌}
use Rattle.gs_model.specs.Characters.{line_feed, carriage_return, space, quote, number_sign, plus, hyphen, dot, colon, at_sign, backslash, underscore, letter_n, letter_r, is_upper, is_lower, in_range, in_ranges, pn_chars_base, pn_chars_u, pn_chars}
pub use Rattle.gs_model.specs.Characters.{is_digit}
pub use Rattle.gs_model.specs.Escapes.{is_hex, is_line_end}
use Rattle.gs_model.specs.Ascii.{tab, letter_large_e, letter_b, letter_e, letter_f, letter_t}
use Rattle.gs_model.specs.Punctuation.{exclamation_mark, dollar, percent, ampersand, apostrophe, left_parenthesis, right_parenthesis, asterisk, comma, slash, semicolon, equals_sign, question_mark, tilde}

-- [161s] WS
abbrev pub is_ws : ℕ → Bool
is_ws c = c == space || c == tab || c == carriage_return || c == line_feed

-- '+' or '-'
abbrev pub is_sign : ℕ → Bool
is_sign c = c == plus || c == hyphen

-- the letter of [154s] EXPONENT
abbrev pub is_exponent : ℕ → Bool
is_exponent c = c == letter_e || c == letter_large_e

-- 'A' to 'Z', or 'a' to 'z'
abbrev pub is_alpha : ℕ → Bool
is_alpha c = is_upper c || is_lower c

-- one of those letters, or a digit
abbrev pub is_alphanumeric : ℕ → Bool
is_alphanumeric c = is_alpha c || is_digit c

-- after the backslash of [159s] ECHAR
abbrev pub is_echar : ℕ → Bool
is_echar c =
    c == letter_t || c == letter_b || c == letter_n || c == letter_r || c == letter_f || c == quote || c == apostrophe
    || c == backslash

-- after the backslash of [172s] PN_LOCAL_ESC
abbrev pub is_local_escape : ℕ → Bool
is_local_escape c =
    c == underscore || c == tilde || c == dot || c == hyphen || c == exclamation_mark || c == dollar || c == ampersand
    || c == apostrophe || c == left_parenthesis || c == right_parenthesis || c == asterisk || c == plus || c == comma
    || c == semicolon || c == equals_sign || c == slash || c == question_mark || c == number_sign || c == at_sign
    || c == percent

-- the first character of a prefix, and of a word
abbrev pub is_prefix_start : ℕ → Bool
is_prefix_start c = in_ranges pn_chars_base c

-- [166s] PN_CHARS
abbrev pub is_name_char : ℕ → Bool
is_name_char c = in_ranges pn_chars c

-- the first character of a label, and of a variable's name
abbrev pub is_label_start : ℕ → Bool
is_label_start c = in_ranges pn_chars_u c || is_digit c

-- the first character of a local name
abbrev pub is_local_start : ℕ → Bool
is_local_start c = in_ranges pn_chars_u c || c == colon || is_digit c

-- [166s] PN_CHARS or ':', as [168s] PN_LOCAL has them after its first character
abbrev pub is_local : ℕ → Bool
is_local c = in_ranges pn_chars c || c == colon

-- after the first of [166] VARNAME of SPARQL: PN_CHARS but '-'
abbrev pub is_variable : ℕ → Bool
is_variable c = in_ranges pn_chars_u c || is_digit c || c == 0xB7 || in_range (0x300, 0x36F) c || in_range (0x203F, 0x2040) c
