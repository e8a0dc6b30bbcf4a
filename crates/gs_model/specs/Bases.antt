-- The base of a store: `http://`, and then 1 to 249 of letters, digits, '.', '-', ':', '[' and ']'.
use Rattle.std.specs.Prelude.{ℕ, Bool, ◌||◌, ◌&&◌, ◌==◌, nat_eq, List, length, drop, nat_le, codes}
use Rattle.std.specs.List.{list_all, starts_with}
use Rattle.gs_model.specs.Characters.{hyphen, dot, colon, left_bracket, right_bracket, is_upper, is_lower, is_digit}

-- a letter, a digit, '-', '.', ':', '[' or ']'
abbrev pub is_base_char : ℕ → Bool
is_base_char c = is_upper c || is_lower c || is_digit c || c == hyphen || c == dot || c == colon || c == left_bracket || c == right_bracket

-- the fewest bytes of a base, in all
abbrev pub min_base_bytes : ℕ
min_base_bytes = 8

-- the most bytes of a base, in all
abbrev pub max_base_bytes : ℕ
max_base_bytes = 256

-- the prefix, and then characters of a base, in so many bytes
abbrev pub is_base : List ℕ → Bool
is_base text = (nat_le min_base_bytes (length text) && nat_le (length text) max_base_bytes) && (starts_with nat_eq text (codes "http://") && list_all is_base_char (drop 7 text))
