-- What an escape means (Turtle, 25 February 2014, section 6.4, with the productions of section 6.5): the character, and
-- how many bytes the escape has after its backslash. What the letters and the digits mean is in `gs_model/specs/Escapes.antt`.
-- The productions alone take in an IRI an escape of each character: that one of a character which no IRI has means nothing is
-- the rule of these definitions.
use Rattle.std.specs.Prelude.{ℕ, ◌+◌, ◌*◌, ◌&&◌, ◌||◌, ◌==◌, if◌then◌else◌, List, [], ◌∷◌, Option, Some, None, length, take, option_map, option_and_then}
use Rattle.std.specs.List.{list_all}
use Rattle.std.specs.Option.{option_or}
use Rattle.gs_model.specs.Characters.{is_iri_char}
use Rattle.gs_model.specs.Ascii.{small_u, big_u}
use Rattle.gs_model.specs.Escapes.{is_hex, hex_number, is_character, echar_meaning}
use Rattle.gs_automaton.specs.Classes.{is_local_escape}
use Rattle.gs_escape.specs.declared.forms.Form.{Form}
use Rattle.gs_escape.specs.declared.forms.Form.TheVariants as form

-- an escape's character, and its number of bytes after the backslash
abbrev pub Escape : Type 0
Escape = ℕ × ℕ

-- n hexadecimal digits, where the text begins with them, and the character of their number
unfoldable pub numbered : ℕ → List ℕ → Option Escape
numbered n x =
    if (length (take n x) == n && list_all is_hex (take n x)) && is_character (hex_number (take n x))
    then Some (hex_number (take n x), n + 1)
    else None

-- [26] UCHAR: 'u' and four digits, or 'U' and eight
unfoldable pub uchar : List ℕ → Option Escape
uchar [] = None
uchar (c ∷ cs) = if c == small_u then numbered 4 cs else if c == big_u then numbered 8 cs else None

-- of one byte
abbrev pub single : ℕ → Escape
single c = (c, 1)

-- [159s] ECHAR
unfoldable pub echar : List ℕ → Option Escape
echar [] = None
echar (c ∷ cs) = option_map single (echar_meaning c)

-- [172s] PN_LOCAL_ESC: the character itself
unfoldable pub local_escape : List ℕ → Option Escape
local_escape [] = None
local_escape (c ∷ cs) = if is_local_escape c then Some (single c) else None

-- in an IRI: UCHAR alone, and of no character that [18] IRIREF excludes
unfoldable pub iri_escape : List ℕ → Option Escape
iri_escape x = option_and_then (λ e. if is_iri_char e.0 then Some e else None) (uchar x)

-- in a string: ECHAR or UCHAR
unfoldable pub string_escape : List ℕ → Option Escape
string_escape x = option_or (echar x) (uchar x)

-- the escapes of a form
abbrev pub escape : Form → List ℕ → Option Escape
escape form.IriRef x = iri_escape x
escape form.StringLiteralQuote x = string_escape x
escape form.StringLiteralSingleQuote x = string_escape x
escape form.StringLiteralLongQuote x = string_escape x
escape form.StringLiteralLongSingleQuote x = string_escape x
escape form.Local x = local_escape x
