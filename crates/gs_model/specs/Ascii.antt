-- Control characters, the space and letters of ASCII by their names (ISO/IEC 10646 has longer ones for some).
use Rattle.std.specs.Prelude.{ℕ, List, [], ◌∷◌}

-- U+0008
abbrev pub backspace : ℕ
backspace = 0x08

-- U+0009
abbrev pub tab : ℕ
tab = 0x09

-- U+000A
abbrev pub line_feed : ℕ
line_feed = 0x0A

-- U+000C
abbrev pub form_feed : ℕ
form_feed = 0x0C

-- U+000D
abbrev pub carriage_return : ℕ
carriage_return = 0x0D

-- CR LF, the end of a line of HTTP (RFC 9112, section 2.1)
abbrev pub crlf : List ℕ
crlf = carriage_return ∷ line_feed ∷ []

-- the space
abbrev pub space : ℕ
space = 0x20

-- `E`
abbrev pub letter_large_e : ℕ
letter_large_e = 0x45

-- `U`
abbrev pub big_u : ℕ
big_u = 0x55

-- `b`
abbrev pub letter_b : ℕ
letter_b = 0x62

-- `e`
abbrev pub letter_e : ℕ
letter_e = 0x65

-- `f`
abbrev pub letter_f : ℕ
letter_f = 0x66

-- `n`
abbrev pub letter_n : ℕ
letter_n = 0x6E

-- `r`
abbrev pub letter_r : ℕ
letter_r = 0x72

-- `t`
abbrev pub letter_t : ℕ
letter_t = 0x74

-- `u`
abbrev pub small_u : ℕ
small_u = 0x75
