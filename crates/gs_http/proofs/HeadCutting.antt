-- Cutting a printed head gives the head.
use Rattle.std.proofs.Common.{◌≡◌, ℕ, ◌+◌, ◌<◌, ◌≤◌, false, List, [], ◌∷◌, ◌++◌, refl, sym, ap, ◌∙◌, arith, append_assoc, append-nil}
use Rattle.std.specs.Prelude.{nat_eq, slice_index, ◌-◌}
use Rattle.std.specs.List.{flat_map, All}
use Rattle.std.proofs.lemmas.Bool.{ne_eqb}
use Rattle.std.proofs.lemmas.List.Elements.{All-head, All-tail}
use Rattle.httparse.specs.Grammar.{LineEnd, print_end, print_blank, print_version, Field, IsField, print_field, RequestHead, IsRequestHead, print_request, is_token_byte, is_uri_byte, is_value_byte, IsToken}
use Rattle.httparse.proofs.GrammarLemmas.{print_request-append, cons-append}
use Rattle.httparse.proofs.PieceLemmas.{print_field-append}
use Rattle.gs_model.proofs.TextLemmas.{AllOther}
use Rattle.gs_http.specs.Lines.{before_byte, after_byte, lines, Line, ended_lines}
use Rattle.gs_http.specs.Heads.{field_of, fields_of, last_line_end, request_line_of, head_at, cut_head}
use Rattle.gs_http.proofs.LineLemmas.{AllOther-append, AllOther-class, before-stop, after-stop, ended_lines-front, is_empty-append}

-- a field line without its end
abbrev field_text : Field → List ℕ
field_text f = f.name ++ 58 ∷ f.raw

-- a token has no byte of another class
token_free : (c : ℕ) → is_token_byte c ≡ false → (xs : List ℕ) → IsToken xs → AllOther c xs
token_free c off xs t = AllOther-class is_token_byte c off xs t.1

-- the lines of the fields, and the empty one after them
abbrev section_lines : List Field → LineEnd → List Line
section_lines [] last = ([], last) ∷ []
section_lines (f ∷ fs) last = (field_text f, f.end) ∷ section_lines fs last

-- a printed field is its text and its end
text_of_field : (f : Field) (ys : List ℕ) → print_field f ++ ys ≡ field_text f ++ (print_end f.end ++ ys)
text_of_field f ys = print_field-append f ys ∙ sym (append_assoc f.name (58 ∷ f.raw) (print_end f.end ++ ys))

-- a field line has no byte that is in none of its classes
field_free : (c : ℕ) → is_token_byte c ≡ false → is_value_byte c ≡ false → nat_eq 58 c ≡ false
    → (f : Field) → IsField f → AllOther c (field_text f)
field_free c t v colon f k =
    AllOther-append c f.name (58 ∷ f.raw) (token_free c t f.name k.name) (colon, AllOther-class is_value_byte c v f.raw k.raw)

-- LF is in no token
token_no_10 : is_token_byte 10 ≡ false
unfolding is_token_byte
token_no_10 = refl

-- CR is in no token
token_no_13 : is_token_byte 13 ≡ false
unfolding is_token_byte
token_no_13 = refl

-- a space is in no token
token_no_32 : is_token_byte 32 ≡ false
unfolding is_token_byte
token_no_32 = refl

-- a colon is in no token
token_no_58 : is_token_byte 58 ≡ false
unfolding is_token_byte
token_no_58 = refl

-- the printed fields are cut into their lines
section_is : (fs : List Field) (last : LineEnd) → All IsField fs
    → ended_lines (lines (flat_map print_field fs ++ (print_end last ++ []))) ≡ section_lines fs last
section_is [] last all = ended_lines-front [] [] last tt tt
section_is (f ∷ fs) last all =
    let k = All-head IsField f fs all in
    let ys : List ℕ = flat_map print_field fs ++ (print_end last ++ []) in
    ap (λ (t : List ℕ). ended_lines (lines t)) (append_assoc (print_field f) (flat_map print_field fs) (print_end last ++ []) ∙ text_of_field f ys)
    ∙ ended_lines-front (field_text f) ys f.end (field_free 10 token_no_10 refl refl f k) (field_free 13 token_no_13 refl refl f k)
    ∙ ap (λ (ls : List Line). (field_text f, f.end) ∷ ls) (section_is fs last (All-tail IsField f fs all))

-- a field line is cut into its name and its value
field_of-text : (f : Field) → IsField f → field_of (field_text f, f.end) ≡ f
field_of-text f k =
    let p = token_free 58 token_no_58 f.name k.name in
    λ i. record { name = before-stop 58 f.name f.raw p i; raw = after-stop 58 f.name f.raw p i; end = f.end }

-- the fields up to the empty line
fields_of-section : (fs : List Field) (last : LineEnd) → All IsField fs → fields_of (section_lines fs last) ≡ fs
fields_of-section [] last all = refl
fields_of-section (f ∷ fs) last all =
    rw (is_empty-append f.name f.raw 58) (cc (field_of-text f (All-head IsField f fs all), fields_of-section fs last (All-tail IsField f fs all)))

-- the end of the empty line
last_of-section : (fs : List Field) (last : LineEnd) → last_line_end (section_lines fs last) ≡ last
last_of-section [] last = refl
last_of-section (f ∷ fs) last = rw (is_empty-append f.name f.raw 58) (last_of-section fs last)

-- a request line without its end
abbrev start_text : RequestHead → List ℕ
start_text h = h.method ++ 32 ∷ (h.target ++ 32 ∷ print_version h.minor)

-- no byte of a version is so low
version_free : (c minor : ℕ) → c < 48 → nat_eq 47 c ≡ false → nat_eq 46 c ≡ false → AllOther c (print_version minor)
version_free c minor low slash dot =
    let big : (n : ℕ) → 48 ≤ n → nat_eq n c ≡ false = λ n h. ne_eqb n c (λ e. omega (arith, e)) in
    (big 72 (omega arith), (big 84 (omega arith), (big 84 (omega arith), (big 80 (omega arith), (slash, (big 49 (omega arith), (dot, (big (48 + minor) (omega arith), tt))))))))

-- a request line has no byte that is in none of its classes
start_free : (c : ℕ) → c < 32 → is_token_byte c ≡ false → is_uri_byte c ≡ false → (h : RequestHead) → IsRequestHead h
    → AllOther c (start_text h)
start_free c low t u h k =
    let space : nat_eq 32 c ≡ false = ne_eqb 32 c (λ e. omega (arith, e)) in
    let v = version_free c h.minor (omega arith) (ne_eqb 47 c (λ e. omega (arith, e))) (ne_eqb 46 c (λ e. omega (arith, e))) in
    AllOther-append c h.method (32 ∷ (h.target ++ 32 ∷ print_version h.minor)) (token_free c t h.method k.method)
    (space, AllOther-append c h.target (32 ∷ print_version h.minor) (AllOther-class is_uri_byte c u h.target k.target.1) (space, v))

-- a request line is cut into its parts
start_is : (h : RequestHead) → IsRequestHead h
    → request_line_of (start_text h, h.line_end) (section_lines h.fields h.last) ≡ record h { blank = [] }
start_is h k =
    let v : List ℕ = print_version h.minor in
    let p = token_free 32 token_no_32 h.method k.method in
    let q = AllOther-class is_uri_byte 32 refl h.target k.target.1 in
    let one = after-stop 32 h.method (h.target ++ 32 ∷ v) p in
    let two = ap (after_byte 32) one ∙ after-stop 32 h.target v q in
    let number : (48 + h.minor) - 48 ≡ h.minor = omega arith in
    λ i. record {
      blank = [];
      method = before-stop 32 h.method (h.target ++ 32 ∷ v) p i;
      target = (ap (before_byte 32) one ∙ before-stop 32 h.target v q) i;
      minor = (ap (λ (t : List ℕ). slice_index t 7 - 48) two ∙ number) i;
      line_end = h.line_end;
      fields = fields_of-section h.fields h.last k.fields i;
      last = last_of-section h.fields h.last i;
    }

-- with more empty lines before it
abbrev with_blank : List LineEnd → RequestHead → RequestHead
with_blank ends h = record h { blank = ends ++ h.blank }

-- empty lines before a head are cut off
head_at-blank : (ends : List LineEnd) (ys : List ℕ)
    → head_at (ended_lines (lines (print_blank ends ++ ys))) ≡ with_blank ends (head_at (ended_lines (lines ys)))
head_at-blank [] ys = refl
head_at-blank (e ∷ es) ys =
    ap (λ (t : List ℕ). head_at (ended_lines (lines t))) (append_assoc (print_end e) (print_blank es) ys)
    ∙ ap head_at (ended_lines-front [] (print_blank es ++ ys) e tt tt)
    ∙ ap (with_blank (e ∷ [])) (head_at-blank es ys)

-- the parts of a head, one after the other
regroup : (a b c d e f g : List ℕ) → a ++ (b ++ 32 ∷ (c ++ 32 ∷ (d ++ (e ++ ((f ++ g) ++ [])))))
    ≡ a ++ ((b ++ 32 ∷ (c ++ 32 ∷ d)) ++ (e ++ (f ++ (g ++ []))))
regroup a b c d e f g = simp (append_assoc, cons-append)

-- a head, printed and cut
pub cut_head-printed : (h : RequestHead) → IsRequestHead h → cut_head (print_request h ++ []) ≡ h
unfolding cut_head
cut_head-printed h k =
    let body : List ℕ = flat_map print_field h.fields ++ (print_end h.last ++ []) in
    ap cut_head (print_request-append h [] ∙ regroup (print_blank h.blank) h.method h.target (print_version h.minor) (print_end h.line_end) (flat_map print_field h.fields) (print_end h.last))
    ∙ head_at-blank h.blank (start_text h ++ (print_end h.line_end ++ body))
    ∙ ap (λ (ls : List Line). with_blank h.blank (head_at ls))
    (ended_lines-front (start_text h) body h.line_end (start_free 10 (omega arith) token_no_10 refl h k) (start_free 13 (omega arith) token_no_13 refl h k)
    ∙ ap (λ (ls : List Line). (start_text h, h.line_end) ∷ ls) (section_is h.fields h.last k.fields))
    ∙ ap (with_blank h.blank) (rw (is_empty-append h.method (h.target ++ 32 ∷ print_version h.minor) 32) (start_is h k))
    ∙ (λ i. record h { blank = append-nil h.blank i })
