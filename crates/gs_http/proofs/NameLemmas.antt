-- The names of a read head are field names.
use Rattle.std.proofs.Common.{◌≡◌, ℕ, ◌<◌, ◌≤◌, List, [], length, map, get_or, refl, sym, subst, ◌∙◌, arith, Option, Some, None, length-drop, length-take}
use Rattle.std.specs.Prelude.{IsTrue, option_map, slice_range}
use Rattle.std.specs.List.{All}
use Rattle.std.proofs.lemmas.List.{get_or-map, length-map}
use Rattle.std.proofs.lemmas.List.Elements.{All-weaker, All-map}
use Rattle.httparse.specs.Grammar as hp
use Rattle.httparse.specs.Grammar.{Field, IsField, RequestHead, ReadsRequest}
use Rattle.httparse.specs.Spans.{span_bytes, header_bytes, name_and_value}
use Rattle.http_header.specs.Token as hh
use Rattle.http_header.specs.FieldName.{IsFieldName}
use Rattle.gs_http.specs.declared.spans.HeadSpans.{HeadSpans}
use Rattle.gs_http.specs.Heads.{parts_of}
use Rattle.gs_http.specs.Spans.{parts_at}

same_class : (b : ℕ) → hp.is_token_byte b ≡ hh.is_token_byte b
unfolding hp.is_token_byte hh.is_token_byte
same_class b = refl

token : (xs : List ℕ) → hp.IsToken xs → hh.IsToken xs
token xs t =
    (t.0, All-weaker (λ b. IsTrue (hp.is_token_byte b)) (λ b. IsTrue (hh.is_token_byte b)) (λ b e. sym (same_class b) ∙ e) xs t.1)

All-unmap : {X Y : Type 0} (P : Y → Type 0) (f : X → Y) (xs : List X) → All P (map f xs) → All (λ x. P (f x)) xs
All-unmap P f xs all k d lt =
    let far : k < length (map f xs) = rw (length-map xs f) lt in
    subst P (get_or-map f xs k d (f d) lt) (all k (f d) far)

short : (b : List ℕ) (i j : ℕ) → length (slice_range b i j) ≤ length b
short b i j = simp (length-take, length-drop) (omega arith)

pub names : (b : List ℕ) (s : HeadSpans) (h : RequestHead) → ReadsRequest b h [] → length b ≤ 65535
    → map (header_bytes b) s.fields.items ≡ map name_and_value h.fields
    → All (λ f. IsFieldName (span_bytes b f.name)) s.fields.items
names b s h r few same =
    let P : List ℕ × List ℕ → Type 0 = λ p. hh.IsToken p.0 in
    let printed : All P (map name_and_value h.fields) =
    All-map P name_and_value h.fields (All-weaker IsField (λ f. hh.IsToken f.name) (λ f k. token f.name k.name) h.fields r.0.fields) in
    let tokens = All-unmap P (header_bytes b) s.fields.items (subst (λ (ps : List (List ℕ × List ℕ)). All P ps) (sym same) printed) in
    λ k d lt. (tokens k d lt, let n = short b (get_or s.fields.items k d).name.start (get_or s.fields.items k d).name.end in omega arith)

-- the head that some offsets cut out
pub found : (b : List ℕ) (s : HeadSpans) (o : Option RequestHead) → Some (parts_at b s) ≡ option_map parts_of o
    → (h : RequestHead) × (o ≡ Some h) × (parts_at b s ≡ parts_of h)
found b s None e = cc
found b s (Some h) e = (h, refl, cc)
