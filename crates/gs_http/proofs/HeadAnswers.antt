-- What the answers of `parse_request` say of `head_of`.
use Rattle.std.proofs.Common.{◌≡◌, ◌<◌, ◌≤◌, ◌/◌, ℕ, List, [], ◌∷◌, ◌++◌, length, drop, take, map, refl, sym, ap, ◌∙◌, arith, append-nil, length-drop, Some, None}
use Rattle.std.specs.Prelude.{option_map}
use Rattle.std.proofs.lemmas.List.{drop_all}
use Rattle.std.proofs.Math.ListN.{drop_of_length-le}
use Rattle.httparse.specs.Grammar.{RequestHead, ReadsRequest, HasNoRequest, print_request}
use Rattle.httparse.specs.Spans.{RequestOverflows, header_bytes, span_bytes, name_and_value}
use Rattle.httparse.specs.declared.spans.HeaderSpan.{HeaderSpan}
use Rattle.gs_http.specs.declared.spans.HeadSpans.{HeadSpans}
use Rattle.gs_http.specs.Spans.{parts_at}
use Rattle.httparse.proofs.GrammarLemmas.{request_unique}
use Rattle.gs_http.specs.Heads.{head_of, parts_of}
use Rattle.gs_http.proofs.TestLemmas.{none-unless}
use Rattle.gs_http.proofs.HeadLemmas.{head_of-Some, reads-head_of}
use Rattle.gs_http.proofs.HeadRoom.{room}

-- the bytes are no head
pub none : (b : List ℕ) → ((h : RequestHead) → ReadsRequest b h [] → ⊥) → head_of b ≡ None
none b f = none-unless (head_of b) (λ h e. f h (reads-head_of b h e))

-- the bytes end too early
pub none_partial : (b : List ℕ) → HasNoRequest b → head_of b ≡ None
none_partial b f = none b (λ h r. f h [] r)

-- a fault, or more fields than there can be
pub none_overflow : (b : List ℕ) (n : ℕ) → n ≡ length b / 3 → RequestOverflows n b → head_of b ≡ None
none_overflow b n e f = none b (λ h r.
    let s : ReadsRequest (b ++ []) h [] = (r.0, append-nil b ∙ r.1) in
    let many : n < length h.fields = f [] h [] s in
    let few = room b h r in omega arith)

-- bytes are left after the head
pub none_longer : (b : List ℕ) (h : RequestHead) (n : ℕ) → ReadsRequest b h (drop n b) → n ≤ length b
    → (n ≡ length b → ⊥) → head_of b ≡ None
none_longer b h n r low more = none b (λ k s.
    let same = request_unique b h k (drop n b) [] r s in
    let bare : length (drop n b) ≡ 0 = ap length same.1 in
    more (omega (arith, length-drop n b)))

-- no byte is left
pub some : (b : List ℕ) (h : RequestHead) (n : ℕ) → ReadsRequest b h (drop n b) → n ≡ length b → head_of b ≡ Some h
some b h n r e =
    head_of-Some b h (r.0, r.1 ∙ ap (λ (t : List ℕ). print_request h ++ t) (drop_all n b (omega (arith, e))))

-- the parts that the parser's offsets cut out
pub same_parts : (b : List ℕ) (h : RequestHead) (s : HeadSpans) (items : List HeaderSpan) (n : ℕ)
    → head_of b ≡ Some h → span_bytes b s.method ≡ h.method → span_bytes b s.target ≡ h.target → s.minor ≡ h.minor
    → map (header_bytes b) (take n items) ≡ map name_and_value h.fields → s.fields.items ≡ take n items
    → Some (parts_at b s) ≡ option_map parts_of (head_of b)
same_parts b h s items n e m t v f cut =
    (λ i. Some (record { method = m i; target = t i; minor = v i; fields = (ap (map (header_bytes b)) cut ∙ f) i }))
    ∙ sym (ap (option_map parts_of) e)

-- a whole slice written back
pub put_whole : {A : Type 0} (xs old : List A) (n : ℕ) → length xs ≡ n → length old ≡ n
    → take n (xs ++ drop (length xs) old) ≡ xs
put_whole xs old n e f =
    rw (sym e) (rw (drop_of_length-le old {i = length xs} (omega (arith, e, f)), append-nil xs) (take_whole xs))
  where
    take_whole : {A : Type 0} (ys : List A) → take (length ys) ys ≡ ys
    take_whole [] = refl
    take_whole (y ∷ ys) = ap (λ zs. y ∷ zs) (take_whole ys)
