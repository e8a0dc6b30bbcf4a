-- Punctuation and symbols of ASCII by their names (ISO/IEC 10646 has longer ones for some).
use Rattle.std.specs.Prelude.{ℕ}

-- `!`
abbrev pub exclamation_mark : ℕ
exclamation_mark = 0x21

-- `"`
abbrev pub quote : ℕ
quote = 0x22

-- `#`
abbrev pub number_sign : ℕ
number_sign = 0x23

-- `$`
abbrev pub dollar : ℕ
dollar = 0x24

-- `%`
abbrev pub percent : ℕ
percent = 0x25

-- `&`
abbrev pub ampersand : ℕ
ampersand = 0x26

-- `'`
abbrev pub apostrophe : ℕ
apostrophe = 0x27

-- `(`
abbrev pub left_parenthesis : ℕ
left_parenthesis = 0x28

-- `)`
abbrev pub right_parenthesis : ℕ
right_parenthesis = 0x29

-- `*`
abbrev pub asterisk : ℕ
asterisk = 0x2A

-- `+`
abbrev pub plus : ℕ
plus = 0x2B

-- `,`
abbrev pub comma : ℕ
comma = 0x2C

-- `-`
abbrev pub hyphen : ℕ
hyphen = 0x2D

-- `.`
abbrev pub dot : ℕ
dot = 0x2E

-- `/`
abbrev pub slash : ℕ
slash = 0x2F

-- `:`
abbrev pub colon : ℕ
colon = 0x3A

-- `;`
abbrev pub semicolon : ℕ
semicolon = 0x3B

-- `<`
abbrev pub less_than : ℕ
less_than = 0x3C

-- `=`
abbrev pub equals_sign : ℕ
equals_sign = 0x3D

-- `>`
abbrev pub greater_than : ℕ
greater_than = 0x3E

-- `?`
abbrev pub question_mark : ℕ
question_mark = 0x3F

-- `@`
abbrev pub at_sign : ℕ
at_sign = 0x40

-- `[`
abbrev pub left_bracket : ℕ
left_bracket = 0x5B

-- `\`
abbrev pub backslash : ℕ
backslash = 0x5C

-- `]`
abbrev pub right_bracket : ℕ
right_bracket = 0x5D

-- `^`
abbrev pub caret : ℕ
caret = 0x5E

-- `_`
abbrev pub underscore : ℕ
underscore = 0x5F

-- `{`
abbrev pub left_brace : ℕ
left_brace = 0x7B

-- `}`
abbrev pub right_brace : ℕ
right_brace = 0x7D

-- `~`
abbrev pub tilde : ℕ
tilde = 0x7E
