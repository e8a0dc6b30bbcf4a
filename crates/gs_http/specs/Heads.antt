-- Which request head a text is: the grammar of RFC 9112, sections 2 to 5, as `httparse` states it, as a function.
use Rattle.std.specs.Prelude.{◌≡◌, ℕ, map, ◌-◌, ◌↔◌, Bool, ◌&&◌, List, [], ◌∷◌, length, if◌then◌else◌, nat_lt, nat_le, Option, Some, None, slice_index}
use Rattle.std.specs.List.{list_all}
use Rattle.std.specs.Str.{is_utf8, bytes_eq}
use Rattle.httparse.specs.Grammar.{LineEnd, lf, Field, is_token, is_uri_byte, is_value_byte, RequestHead, print_request, ReadsRequest}
use Rattle.httparse.specs.Spans.{name_and_value}
use Rattle.gs_model.specs.Characters.{space, colon}
use Rattle.gs_model.specs.Terms.{digit}
use Rattle.gs_http.specs.Lines.{before_byte, after_byte, lines, Line, ended_lines, has_no_byte}

-- field-line (section 5): the name stands before the first colon
abbrev pub field_of : Line → Field
field_of l = record { name = before_byte colon l.0; raw = after_byte colon l.0; end = l.1 }

-- the field lines up to the first empty line
abbrev pub fields_of : List Line → List Field
fields_of [] = []
fields_of (l ∷ ls) = if has_no_byte l.0 then [] else field_of l ∷ fields_of ls

-- how that empty line ends
abbrev pub last_line_end : List Line → LineEnd
last_line_end [] = lf
last_line_end (l ∷ ls) = if has_no_byte l.0 then l.1 else last_line_end ls

-- request-line (section 3): cut at its first two spaces; the eighth byte of the version is its last digit
abbrev pub request_line_of : Line → List Line → RequestHead
request_line_of l ls = record {
  blank = [];
  method = before_byte space l.0;
  target = before_byte space (after_byte space l.0);
  minor = slice_index (after_byte space (after_byte space l.0)) 7 - digit 0;
  line_end = l.1;
  fields = fields_of ls;
  last = last_line_end ls;
}

-- a head's lines: empty ones may come first (section 2.2)
abbrev pub head_at : List Line → RequestHead
head_at [] = request_line_of ([], lf) []
head_at (l ∷ ls) =
    if has_no_byte l.0 then record (head_at ls) { blank = l.1 ∷ (head_at ls).blank } else request_line_of l ls

-- the only head that a text can be
unfoldable pub cut_head : List ℕ → RequestHead
cut_head b = head_at (ended_lines (lines b))

-- the name is a token, and the value has no control byte but the tab
abbrev pub is_field : Field → Bool
is_field f = is_token f.name && list_all is_value_byte f.raw

-- each part is of its class
unfoldable pub is_request_head : RequestHead → Bool
is_request_head h =
    is_token h.method && (nat_lt 0 (length h.target) && list_all is_uri_byte h.target) && is_utf8 h.target
    && nat_le h.minor 1 && list_all is_field h.fields

-- the text is exactly this head
abbrev pub is_head : RequestHead → List ℕ → Bool
is_head h b = is_request_head h && bytes_eq b (print_request h)

-- the head that a text is, if it is one
unfoldable pub head_of : List ℕ → Option RequestHead
head_of b = if is_head (cut_head b) b then Some (cut_head b) else None

-- `head_of` is the relation of `httparse`'s grammar, as a function.
abbrev pub HeadOfIsTheGrammar : Type 0
HeadOfIsTheGrammar = (b : List ℕ) (h : RequestHead) → (head_of b ≡ Some h) ↔ ReadsRequest b h []

-- a field's name as written, and its value without the white space around it
abbrev pub NameAndValue : Type 0
NameAndValue = List ℕ × List ℕ

-- what of a head counts
pub record HeadParts : Type 0 where
  pub method : List ℕ
  pub target : List ℕ
  pub minor : ℕ
  pub fields : List NameAndValue

-- the parts of a head, without the ends of its lines
abbrev pub parts_of : RequestHead → HeadParts
parts_of h = record { method = h.method; target = h.target; minor = h.minor; fields = map name_and_value h.fields }
