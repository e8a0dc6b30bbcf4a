-- What the texts of tokens mean (Turtle, sections 6.4, 6.5 and 7.2), and the answers of the functions.
use Rattle.std.specs.Prelude.{◌≡◌, ℕ, ◌+◌, ◌-◌, true, ◌==◌, if◌then◌else◌, List, [], ◌∷◌, Option, Some, None, Result, Ok, Err, length, take, drop, codes, option_map, option_and_then, position, String, string_bytes}
use Rattle.std.specs.Option.{is_some, option_or}
use Rattle.std.specs.Str.{bytes_eq}
use Rattle.gs_model.specs.Characters.{quote, colon}
use Rattle.gs_model.specs.Punctuation.{apostrophe}
use Rattle.gs_model.specs.declared.refusals.Refusal.{Refusal}
use Rattle.gs_model.specs.declared.refusals.Refusal.TheVariants.{NoMemory, Syntax}
use Rattle.gs_escape.specs.declared.forms.Form.{Form}
use Rattle.gs_escape.specs.declared.forms.Form.TheVariants as form
use Rattle.gs_escape.specs.Meanings.{meant_after, meaning}

-- the text after this prefix, where it has it
abbrev pub rest_after : List ℕ → List ℕ → Option (List ℕ)
rest_after front x = if bytes_eq (take (length front) x) front then Some (drop (length front) x) else None

-- the text before this back, where it has it
abbrev pub before_back : List ℕ → List ℕ → Option (List ℕ)
before_back back x =
    if bytes_eq (drop (length x - length back) x) back then Some (take (length x - length back) x) else None

-- what stands between two delimiters
unfoldable pub between : List ℕ → List ℕ → List ℕ → Option (List ℕ)
between front back x = option_and_then (before_back back) (rest_after front x)

-- [18] IRIREF, between its brackets
unfoldable pub iri_of : List ℕ → Option (List ℕ)
iri_of x = option_and_then (meaning form.IriRef) (between (codes "<") (codes ">") x)

-- a text beside its form, where there is one
abbrev pub with_form : Form → Option (List ℕ) → Option (Form × List ℕ)
with_form f m = option_map (λ y. (f, y)) m

-- a quote three times
abbrev pub three : ℕ → List ℕ
three q = q ∷ q ∷ q ∷ []

-- a quote once
abbrev pub quote_once : ℕ → List ℕ
quote_once q = q ∷ []

-- [22] to [25], the four string literals between their quotes: three of a kind, or else one
unfoldable pub quoted : List ℕ → Option (Form × List ℕ)
quoted x =
    option_or (with_form form.StringLiteralLongQuote (between (three quote) (three quote) x))
    (option_or (with_form form.StringLiteralLongSingleQuote (between (three apostrophe) (three apostrophe) x))
    (option_or (with_form form.StringLiteralQuote (between (quote_once quote) (quote_once quote) x))
    (with_form form.StringLiteralSingleQuote (between (quote_once apostrophe) (quote_once apostrophe) x))))

-- [17] String: what the text between the quotes means
unfoldable pub string_of : List ℕ → Option (List ℕ)
string_of x = option_and_then (λ p. meaning p.0 p.1) (quoted x)

-- the local part of a prefixed name
abbrev pub local_of : List ℕ → Option (List ℕ)
local_of x = meaning form.Local x

-- [140s] PNAME_LN and [139s] PNAME_NS, parted at the first colon
abbrev pub split_at_colon : List ℕ → Option (List ℕ × List ℕ)
split_at_colon x = option_map (λ i. (take i x, drop (i + 1) x)) (position (λ c. c == colon) x)

-- a string has grown by what a text means, which has a meaning
abbrev pub AppendsMeaning : {Z : Type 0} → String Z → String Z → Option (List ℕ) → Type 0
AppendsMeaning old new m = Some (string_bytes new) ≡ meant_after (string_bytes old) m

-- which answers a text with this meaning, or with none, may get
abbrev pub ReportsMeaning : Option (List ℕ) → Result (Unit {0}) Refusal → Type 0
ReportsMeaning m (Ok _) = is_some m ≡ true
ReportsMeaning m (Err NoMemory) = is_some m ≡ true
ReportsMeaning m (Err (Syntax at)) = (m ≡ None) × (at ≡ 0)
ReportsMeaning m (Err _) = ⊥
