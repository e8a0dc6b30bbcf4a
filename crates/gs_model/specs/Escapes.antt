-- What escapes mean, and what stands between them, in Turtle (25 February 2014, section 6.4, with the productions of section 6.5)
-- and in N-Triples (25 February 2014, section 7), which share them.
use Rattle.std.specs.Prelude.{ℕ, ◌+◌, ◌*◌, Bool, not, ◌&&◌, ◌||◌, ◌==◌, if◌then◌else◌, nat_le, List, Option, Some, None, fold}
use Rattle.std.specs.Char.{digit_value}
use lib.Utf8.{scalar}
use Rattle.gs_model.specs.Ascii.{backspace, tab, form_feed, letter_b, letter_f, letter_t}
use Rattle.gs_model.specs.Punctuation.{apostrophe}
use Rattle.gs_model.specs.Characters.{line_feed, carriage_return, quote, backslash, letter_n, letter_r, is_digit}

-- a line feed or a carriage return: [7] EOL of N-Triples, the end of a comment, and what no string of one line has
abbrev pub is_line_end : ℕ → Bool
is_line_end c = c == line_feed || c == carriage_return

-- The first of [159s] ECHAR of Turtle, [153s] of N-Triples, after its backslash: t b n r f, or one of " ' \ for itself.
unfoldable pub echar_meaning : ℕ → Option ℕ
echar_meaning c =
    if c == letter_t then Some tab
    else if c == letter_b then Some backspace
    else if c == letter_n then Some line_feed
    else if c == letter_r then Some carriage_return
    else if c == letter_f then Some form_feed
    else if c == quote || c == apostrophe || c == backslash then Some c
    else None

-- [171s] HEX of Turtle, [162s] of N-Triples: '0' to '9', 'A' to 'F', 'a' to 'f'
abbrev pub is_hex : ℕ → Bool
is_hex c = is_digit c || (nat_le 65 c && nat_le c 70) || (nat_le 97 c && nat_le c 102)

-- a number with one hexadecimal digit more
abbrev pub with_hex : ℕ → ℕ → ℕ
with_hex v c = v * 16 + digit_value c

-- the number that hexadecimal digits write
unfoldable pub hex_number : List ℕ → ℕ
hex_number ds = fold with_hex 0 ds

-- the greatest number of a character
abbrev pub last_character : ℕ
last_character = 0x10_FFFF

-- The number of a character: at most 10FFFF, and no surrogate. [26] UCHAR of Turtle and [10] of N-Triples take any number, so
-- that an escape of another means nothing is the rule of the definitions that cite this one.
abbrev pub is_character : ℕ → Bool
is_character n = scalar n

-- what stands as it is in a string of one line, whose quote is q: [22] and [23] of Turtle, [9] of N-Triples
abbrev pub is_string_char : (q : ℕ) → ℕ → Bool
is_string_char q c = not (c == q || c == backslash || is_line_end c)
