-- `chunk_line_of` is the grammar: cutting a printed size line gives the line, and the tests decide the grammar's facts.
use Rattle.std.proofs.Common.{◌≡◌, ℕ, Bool, true, false, List, [], ◌∷◌, ◌++◌, length, refl, sym, ap, subst, ◌∙◌, append_assoc, append-nil, Option, Some, None, inl, inr}
use Rattle.std.specs.Prelude.{IsTrue, nat_lt, nat_le, nat_eq}
use Rattle.std.specs.Bool.{Decides}
use Rattle.std.specs.List.{list_all}
use Rattle.std.specs.Str.{bytes_eq}
use Rattle.std.specs.Char.{is_ascii_hexdigit}
use Rattle.std.proofs.lemmas.Bool.{leb-true, le-leb, or_cases, eqb-true}
use Rattle.std.proofs.lemmas.Bool.Decides.{Decides-and, Decides-ltb, Decides-like}
use Rattle.std.proofs.lemmas.Slice.Eq.{bytes_eq-Decides}
use Rattle.std.proofs.lemmas.List.Elements.{All-head, All-tail}
use Rattle.httparse.specs.Grammar.{ChunkLine, IsChunkLine, AllPass, IsExtension, is_ows, is_extension_byte, print_extension, print_chunk_line, ReadsChunkLine}
use Rattle.gs_http.specs.Chunks.{passing, after_passing, extension_of, cut_chunk_line, is_extension, is_chunk_line, is_line, chunk_line_of, ChunkLineOfIsTheGrammar}
use Rattle.gs_http.proofs.TestLemmas.{AllPass-Decides, cond-Some}

-- a text has a first byte, and it fails the test
abbrev Fails : (ℕ → Bool) → List ℕ → Type 0
Fails test [] = ⊥
Fails test (x ∷ xs) = test x ≡ false

-- the bytes that pass, up to one that fails
passing-stop : (test : ℕ → Bool) (xs ys : List ℕ) → AllPass test xs → Fails test ys → passing test (xs ++ ys) ≡ xs
passing-stop test [] [] all stop = absurd stop
passing-stop test [] (y ∷ ys) all stop = rw stop
passing-stop test (x ∷ xs) ys all stop =
    let P : ℕ → Type 0 = λ b. IsTrue (test b) in
    let one : test x ≡ true = All-head P x xs all in
    rw one (ap (λ l. x ∷ l) (passing-stop test xs ys (All-tail P x xs all) stop))

-- the bytes from the one that fails
after_passing-stop : (test : ℕ → Bool) (xs ys : List ℕ) → AllPass test xs → Fails test ys → after_passing test (xs ++ ys) ≡ ys
after_passing-stop test [] [] all stop = absurd stop
after_passing-stop test [] (y ∷ ys) all stop = rw stop
after_passing-stop test (x ∷ xs) ys all stop =
    let P : ℕ → Type 0 = λ b. IsTrue (test b) in
    let one : test x ≡ true = All-head P x xs all in
    rw one (after_passing-stop test xs ys (All-tail P x xs all) stop)

-- what stands after the white space
abbrev tail : Option (List ℕ) → List ℕ
tail e = print_extension e ++ 13 ∷ 10 ∷ []

-- it begins with no white space
tail_fails_ows : (e : Option (List ℕ)) → Fails is_ows (tail e)
tail_fails_ows None = refl
tail_fails_ows (Some text) = refl

-- and with no digit
tail_fails_hex : (e : Option (List ℕ)) → Fails is_ascii_hexdigit (tail e)
tail_fails_hex None = refl
tail_fails_hex (Some text) = refl

-- its extension is found
extension_of-tail : (e : Option (List ℕ)) → IsExtension e → extension_of (tail e) ≡ e
extension_of-tail None k = refl
extension_of-tail (Some text) k = ap Some (passing-stop is_extension_byte text (13 ∷ 10 ∷ []) k refl)

-- white space is no digit
ows_no_hex : (c : ℕ) → is_ows c ≡ true → is_ascii_hexdigit c ≡ false
ows_no_hex c e =
    elim (or_cases (nat_eq c 32) (nat_eq c 9) e) [ inl p ↦ rw (eqb-true c 32 p) | inr q ↦ rw (eqb-true c 9 q) ]

-- what stands after the digits begins with none
pad_fails : (pad : List ℕ) (e : Option (List ℕ)) → AllPass is_ows pad → Fails is_ascii_hexdigit (pad ++ tail e)
pad_fails [] e all = tail_fails_hex e
pad_fails (x ∷ xs) e all = let P : ℕ → Type 0 = λ b. IsTrue (is_ows b) in ows_no_hex x (All-head P x xs all)

-- the parts of a size line, one after the other
regroup : (a b c d : List ℕ) → ((a ++ b) ++ c) ++ d ++ [] ≡ a ++ (b ++ (c ++ d))
regroup a b c d = append-nil (((a ++ b) ++ c) ++ d) ∙ simp append_assoc

-- a size line, printed and cut
pub cut_chunk_line-printed : (l : ChunkLine) → IsChunkLine l → cut_chunk_line (print_chunk_line l ++ []) ≡ l
unfolding cut_chunk_line print_chunk_line
cut_chunk_line-printed l k =
    let t = tail l.extension in
    let pads : Fails is_ascii_hexdigit (l.pad ++ t) = pad_fails l.pad l.extension k.pad in
    let d = passing-stop is_ascii_hexdigit l.digits (l.pad ++ t) k.digits.2 pads in
    let r = after_passing-stop is_ascii_hexdigit l.digits (l.pad ++ t) k.digits.2 pads in
    let f = tail_fails_ows l.extension in
    ap cut_chunk_line (regroup l.digits l.pad (print_extension l.extension) (13 ∷ 10 ∷ []))
    ∙ (λ i. record {
      digits = d i;
      pad = (ap (passing is_ows) r ∙ passing-stop is_ows l.pad t k.pad f) i;
      extension = (ap (λ (s : List ℕ). extension_of (after_passing is_ows s)) r ∙ ap extension_of (after_passing-stop is_ows l.pad t k.pad f) ∙ extension_of-tail l.extension k.extension) i;
    })

-- an extension
is_extension-Decides : (e : Option (List ℕ)) → Decides (is_extension e) (IsExtension e)
is_extension-Decides None = (λ _. tt, λ _. refl)
is_extension-Decides (Some text) = AllPass-Decides is_extension_byte text

-- a size line
is_chunk_line-Decides : (l : ChunkLine) → Decides (is_chunk_line l) (IsChunkLine l)
is_chunk_line-Decides l =
    let few = Decides-and (nat_le (length l.digits) 16) (list_all is_ascii_hexdigit l.digits) (leb-true (length l.digits) 16, le-leb (length l.digits) 16) (AllPass-Decides is_ascii_hexdigit l.digits) in
    let digits = Decides-and (nat_lt 0 (length l.digits)) _ (Decides-ltb 0 (length l.digits)) few in
    let rest = Decides-and (list_all is_ows l.pad) (is_extension l.extension) (AllPass-Decides is_ows l.pad) (is_extension-Decides l.extension) in
    Decides-like (is_chunk_line l) (λ p. record { digits = (p.0.0, p.0.1.0, p.0.1.1); pad = p.1.0; extension = p.1.1 })
    (λ k. ((k.digits.0, (k.digits.1, k.digits.2)), (k.pad, k.extension))) (Decides-and _ _ digits rest)

-- a text that is a size line
is_line-Decides : (l : ChunkLine) (b : List ℕ) → Decides (is_line l b) (ReadsChunkLine b l [])
is_line-Decides l b =
    Decides-like (is_line l b) (λ p. (p.0, p.1 ∙ sym (append-nil (print_chunk_line l)))) (λ k. (k.0, k.1 ∙ append-nil (print_chunk_line l)))
    (Decides-and (is_chunk_line l) (bytes_eq b (print_chunk_line l)) (is_chunk_line-Decides l) (bytes_eq-Decides b (print_chunk_line l)))

-- what the grammar reads is found
pub chunk_line_of-Some : (b : List ℕ) (l : ChunkLine) → ReadsChunkLine b l [] → chunk_line_of b ≡ Some l
unfolding chunk_line_of
chunk_line_of-Some b l r =
    let same : cut_chunk_line b ≡ l = ap cut_chunk_line r.1 ∙ cut_chunk_line-printed l r.0 in
    rw same (rw ((is_line-Decides l b).1 r))

-- what is found, the grammar reads
pub reads-chunk_line_of : (b : List ℕ) (l : ChunkLine) → chunk_line_of b ≡ Some l → ReadsChunkLine b l []
unfolding chunk_line_of
reads-chunk_line_of b l e =
    let k = cond-Some (is_line (cut_chunk_line b) b) (cut_chunk_line b) l e in
    subst (λ (g : ChunkLine). ReadsChunkLine b g []) k.1 ((is_line-Decides (cut_chunk_line b) b).0 k.0)

-- both ways
pub chunk_line_of_is_the_grammar : ChunkLineOfIsTheGrammar
chunk_line_of_is_the_grammar b l = (reads-chunk_line_of b l, chunk_line_of-Some b l)
