-- `head_of` is the grammar: its tests decide the grammar's facts.
use Rattle.std.proofs.Common.{◌≡◌, List, ℕ, [], length, sym, ap, ◌∙◌, append-nil, Some, subst, refl}
use Rattle.std.specs.Prelude.{nat_lt, nat_le}
use Rattle.std.specs.Bool.{Decides}
use Rattle.std.specs.Str.{is_utf8, bytes_eq}
use Rattle.std.specs.List.{All, list_all}
use Rattle.std.proofs.lemmas.Bool.{leb-true, le-leb}
use Rattle.std.proofs.lemmas.Bool.Decides.{Decides-and, Decides-by_and, Decides-ltb, Decides-like}
use Rattle.std.proofs.lemmas.Slice.Eq.{bytes_eq-Decides}
use Rattle.std.proofs.lemmas.Str.{IsUtf8-from_is_utf8, is_utf8-from_IsUtf8}
use Rattle.httparse.specs.Grammar.{Field, IsField, IsToken, is_token, is_token_byte, is_uri_byte, is_value_byte, RequestHead, IsRequestHead, print_request, ReadsRequest}
use Rattle.gs_http.specs.Heads.{is_field, is_request_head, is_head, cut_head, head_of, HeadOfIsTheGrammar}
use Rattle.gs_http.proofs.TestLemmas.{AllPass-Decides, cond-Some}
use Rattle.gs_http.proofs.HeadCutting.{cut_head-printed}

-- a token
IsToken-Decides : (xs : List ℕ) → Decides (is_token xs) (IsToken xs)
IsToken-Decides xs = Decides-and (nat_lt 0 (length xs)) (list_all is_token_byte xs) (Decides-ltb 0 (length xs)) (AllPass-Decides is_token_byte xs)

-- a field
IsField-Decides : (f : Field) → Decides (is_field f) (IsField f)
IsField-Decides f =
    Decides-like (is_field f) (λ p. record { name = p.0; raw = p.1 }) (λ k. (k.name, k.raw))
    (Decides-and (is_token f.name) (list_all is_value_byte f.raw) (IsToken-Decides f.name) (AllPass-Decides is_value_byte f.raw))

-- all fields
fields-Decides : (fs : List Field) → Decides (list_all is_field fs) (All IsField fs)
fields-Decides fs = Decides-by_and is_field IsField (list_all is_field) IsField-Decides refl (λ _ _. refl) fs

-- a head
IsRequestHead-Decides : (h : RequestHead) → Decides (is_request_head h) (IsRequestHead h)
unfolding is_request_head
IsRequestHead-Decides h =
    let t = Decides-and (nat_lt 0 (length h.target)) (list_all is_uri_byte h.target) (Decides-ltb 0 (length h.target)) (AllPass-Decides is_uri_byte h.target) in
    let a = Decides-and _ _ (IsToken-Decides h.method) t in
    let b = Decides-and _ (is_utf8 h.target) a (IsUtf8-from_is_utf8 h.target, is_utf8-from_IsUtf8 h.target) in
    let c = Decides-and _ (nat_le h.minor 1) b (leb-true h.minor 1, le-leb h.minor 1) in
    let d = Decides-and _ (list_all is_field h.fields) c (fields-Decides h.fields) in
    Decides-like _ (λ p. record { method = p.0.0.0.0; target = p.0.0.0.1; target_text = p.0.0.1; minor = p.0.1; fields = p.1 })
    (λ k. ((((k.method, k.target), k.target_text), k.minor), k.fields)) d

-- a text that is a head
is_head-Decides : (h : RequestHead) (b : List ℕ) → Decides (is_head h b) (ReadsRequest b h [])
is_head-Decides h b =
    Decides-like (is_head h b) (λ p. (p.0, p.1 ∙ sym (append-nil (print_request h)))) (λ k. (k.0, k.1 ∙ append-nil (print_request h)))
    (Decides-and (is_request_head h) (bytes_eq b (print_request h)) (IsRequestHead-Decides h) (bytes_eq-Decides b (print_request h)))

-- what the grammar reads is found
pub head_of-Some : (b : List ℕ) (h : RequestHead) → ReadsRequest b h [] → head_of b ≡ Some h
unfolding head_of
head_of-Some b h r =
    let same : cut_head b ≡ h = ap cut_head r.1 ∙ cut_head-printed h r.0 in
    rw same (rw ((is_head-Decides h b).1 r))

-- what is found, the grammar reads
pub reads-head_of : (b : List ℕ) (h : RequestHead) → head_of b ≡ Some h → ReadsRequest b h []
unfolding head_of
reads-head_of b h e =
    let k = cond-Some (is_head (cut_head b) b) (cut_head b) h e in
    subst (λ (g : RequestHead). ReadsRequest b g []) k.1 ((is_head-Decides (cut_head b) b).0 k.0)

-- both ways
pub head_of_is_the_grammar : HeadOfIsTheGrammar
head_of_is_the_grammar b h = (reads-head_of b h, head_of-Some b h)
