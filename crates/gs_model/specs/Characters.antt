-- The classes of characters, as ranges of their numbers (Turtle, 25 February 2014, section 6.5; N-Triples, section 7).
pub use Rattle.gs_model.specs.Ascii.{line_feed, carriage_return, space, letter_n, letter_r}
pub use Rattle.gs_model.specs.Punctuation.{quote, number_sign, plus, hyphen, dot, colon, less_than, greater_than, at_sign, left_bracket, right_bracket, backslash, caret, underscore}
use Rattle.std.specs.Prelude.{ℕ, Bool, false, not, ◌||◌, ◌&&◌, nat_le, List, [], ◌∷◌, ◌++◌}

-- 'A' to 'Z'
abbrev pub is_upper : ℕ → Bool
is_upper c = nat_le 65 c && nat_le c 90

-- 'a' to 'z'
abbrev pub is_lower : ℕ → Bool
is_lower c = nat_le 97 c && nat_le c 122

-- '0' to '9'
abbrev pub is_digit : ℕ → Bool
is_digit c = nat_le 48 c && nat_le c 57

-- from the first to the last
abbrev pub Range : Type 0
Range = ℕ × ℕ

-- the number is from the first to the last
abbrev pub in_range : Range → ℕ → Bool
in_range r c = nat_le r.0 c && nat_le c r.1

-- in one of the ranges
abbrev pub in_ranges : List Range → ℕ → Bool
in_ranges [] c = false
in_ranges (r ∷ rs) c = in_range r c || in_ranges rs c

-- [163s] PN_CHARS_BASE of Turtle, [157s] of N-Triples
abbrev pub pn_chars_base : List Range
pn_chars_base =
    (0x41, 0x5A) ∷ (0x61, 0x7A) ∷ (0xC0, 0xD6) ∷ (0xD8, 0xF6) ∷ (0xF8, 0x2FF) ∷ (0x370, 0x37D) ∷ (0x37F, 0x1FFF)
    ∷ (0x200C, 0x200D) ∷ (0x2070, 0x218F) ∷ (0x2C00, 0x2FEF) ∷ (0x3001, 0xD7FF) ∷ (0xF900, 0xFDCF) ∷ (0xFDF0, 0xFFFD)
    ∷ (0x1_0000, 0xE_FFFF) ∷ []

-- [164s] PN_CHARS_U of Turtle: with '_'
abbrev pub pn_chars_u : List Range
pn_chars_u = pn_chars_base ++ (0x5F, 0x5F) ∷ []

-- [166s] PN_CHARS of Turtle: with '-', the digits, and three ranges more
abbrev pub pn_chars : List Range
pn_chars = pn_chars_u ++ (0x2D, 0x2D) ∷ (0x30, 0x39) ∷ (0xB7, 0xB7) ∷ (0x300, 0x36F) ∷ (0x203F, 0x2040) ∷ []

-- what [18] IRIREF of Turtle excludes: U+0000 to the space, and " < > \ ^ ` { | }
abbrev pub not_in_iris : List Range
not_in_iris =
    (0, 0x20) ∷ (0x22, 0x22) ∷ (0x3C, 0x3C) ∷ (0x3E, 0x3E) ∷ (0x5C, 0x5C) ∷ (0x5E, 0x5E) ∷ (0x60, 0x60) ∷ (0x7B, 0x7D) ∷ []

-- any other character may stand in an IRI
abbrev pub is_iri_char : ℕ → Bool
is_iri_char c = not (in_ranges not_in_iris c)
