-- The form of a token that is too long to be held, byte by byte: whether it is an absolute IRI (RFC 3986,
-- section 4.3), and whether it is a language tag (N-Triples, section 7, LANGTAG after its '@').
use Rattle.std.specs.Prelude.{ℕ, Bool, true, false, if◌then◌else◌, ◌&&◌, ◌==◌, List, [], ◌∷◌}
use Rattle.gs_model.specs.Characters.{hyphen, colon, is_iri_char}
use Rattle.gs_model.specs.Iris.{is_letter, is_scheme_char}
use Rattle.gs_ntterm.specs.Classes.{is_tag_char}
use Rattle.gs_ntterm.specs.declared.forms.Scheme.{Scheme}
use Rattle.gs_ntterm.specs.declared.forms.Scheme.TheVariants as scheme
use Rattle.gs_ntterm.specs.declared.forms.Tag.{Tag}
use Rattle.gs_ntterm.specs.declared.forms.Tag.TheVariants as tag
use Rattle.gs_ntterm.specs.declared.forms.Form.{Form}

-- a letter, then letters, digits, '+', '-' and '.', then ':', and then IRI characters
abbrev pub scheme_after : Scheme → ℕ → Scheme
scheme_after scheme.Unbegun b = if is_letter b then scheme.Inside else scheme.Broken
scheme_after scheme.Inside b = if b == colon then scheme.AfterColon else if is_scheme_char b then scheme.Inside else scheme.Broken
scheme_after scheme.AfterColon b = if is_iri_char b then scheme.AfterColon else scheme.Broken
scheme_after scheme.Broken b = scheme.Broken

-- letters, then parts of letters and digits, each after a '-'
abbrev pub tag_after_byte : Tag → ℕ → Tag
tag_after_byte (tag.Part digits begun) b =
    if is_tag_char digits b then tag.Part digits true else if b == hyphen && begun then tag.Part true false else tag.Broken
tag_after_byte tag.Broken b = tag.Broken

-- a form with a byte more
abbrev pub form_on : Form → ℕ → Form
form_on f b = record { scheme = scheme_after f.scheme b; tag = tag_after_byte f.tag b }

-- a form with some bytes more
abbrev pub form_after : Form → List ℕ → Form
form_after f [] = f
form_after f (b ∷ bs) = form_after (form_on f b) bs

-- the form of a text
abbrev pub form_of : List ℕ → Form
form_of bytes = form_after (record { scheme = scheme.Unbegun; tag = tag.Part false false }) bytes

-- after its ':'
abbrev pub is_after_colon : Scheme → Bool
is_after_colon scheme.AfterColon = true
is_after_colon s = false

-- its last part has begun
abbrev pub has_part : Tag → Bool
has_part (tag.Part digits begun) = begun
has_part tag.Broken = false

-- the bytes are an absolute IRI
abbrev pub is_absolute_form : Form → Bool
is_absolute_form f = is_after_colon f.scheme

-- the bytes are a language tag
abbrev pub is_tag_form : Form → Bool
is_tag_form f = has_part f.tag
