-- What a text with escapes means (Turtle, sections 6.4 and 7.2), as bytes of UTF-8. What is special is ASCII, so that the
-- bytes of all other characters stand as they are.
use Rattle.std.specs.Prelude.{ℕ, zero, suc, Bool, true, false, not, ◌||◌, ◌==◌, if◌then◌else◌, List, [], ◌∷◌, ◌++◌, Option, Some, None, option_map, option_and_then, encode_utf8}
use Rattle.std.specs.Str.{is_utf8}
use Rattle.gs_model.specs.Characters.{quote, backslash, is_iri_char}
use Rattle.gs_model.specs.Punctuation.{apostrophe}
use Rattle.gs_model.specs.Escapes.{is_string_char}
use Rattle.gs_escape.specs.declared.forms.Form.{Form}
use Rattle.gs_escape.specs.declared.forms.Form.TheVariants as form
use Rattle.gs_escape.specs.Escapes.{escape}

-- something else than this quote stands there
abbrev pub begins_with_other : ℕ → List ℕ → Bool
begins_with_other q [] = false
begins_with_other q (c ∷ cs) = not (c == q)

-- at most one quote more stands there, and then something else
abbrev pub has_few_quotes : ℕ → List ℕ → Bool
has_few_quotes q [] = false
has_few_quotes q (c ∷ cs) = if c == q then begins_with_other q cs else true

-- between single quotes of a kind: all but the quote, the backslash and the ends of lines
unfoldable pub stands_short : ℕ → ℕ → Bool
stands_short q c = is_string_char q c

-- between triple quotes of a kind: all but the backslash and a quote that may be one of three; x is what follows
unfoldable pub stands_long : ℕ → ℕ → List ℕ → Bool
stands_long q c x = if c == q then has_few_quotes q x else not (c == backslash)

-- a part of a name: all but the backslash
unfoldable pub stands_local : ℕ → Bool
stands_local c = not (c == backslash)

-- which bytes stand as they are, before the text x: [18] IRIREF, [22] to [25], and what [168s] PN_LOCAL does not escape
abbrev pub stands : Form → ℕ → List ℕ → Bool
stands form.IriRef c x = is_iri_char c
stands form.StringLiteralQuote c x = stands_short quote c
stands form.StringLiteralSingleQuote c x = stands_short apostrophe c
stands form.StringLiteralLongQuote c x = stands_long quote c x
stands form.StringLiteralLongSingleQuote c x = stands_long apostrophe c x
stands form.Local c x = stands_local c

-- with bytes before what is meant, where anything is
abbrev pub meant_after : List ℕ → Option (List ℕ) → Option (List ℕ)
meant_after v m = option_map (λ w. v ++ w) m

-- The bytes that stand, and the characters that escapes mean, in their order. Of the text, the first n bytes belong to an
-- escape whose character is taken.
unfoldable pub unescaped : Form → ℕ → List ℕ → Option (List ℕ)
unescaped f n [] = Some []
unescaped f (suc n) (c ∷ cs) = unescaped f n cs
unescaped f zero (c ∷ cs) =
    if stands f c cs then meant_after (c ∷ []) (unescaped f zero cs)
    else if c == backslash then option_and_then (λ e. meant_after (encode_utf8 e.0) (unescaped f e.1 cs)) (escape f cs)
    else None

-- what a text of this form means
abbrev pub meaning : Form → List ℕ → Option (List ℕ)
meaning f x = if is_utf8 x then unescaped f 0 x else None
