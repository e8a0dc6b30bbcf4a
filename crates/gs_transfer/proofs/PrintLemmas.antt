-- A body in chunks, as the grammar prints it, is read whole.
use Rattle.std.proofs.Common.{◌≡◌, ℕ, ◌+◌, ◌<◌, ◌≤◌, Bool, true, false, eqb, List, [], ◌∷◌, ◌++◌, length, refl, sym, ap, ◌∙◌, arith, append_assoc, append-nil, length-append, Option, Some, None}
use Rattle.std.specs.Prelude.{IsTrue, All, option_map}
use Rattle.std.specs.List.{flat_map}
use Rattle.std.specs.Char.{is_ascii_hexdigit}
use Rattle.std.proofs.lemmas.Bool.{false≢true, false_from_ne_true, eqb-true}
use Rattle.std.proofs.lemmas.List.Elements.{All-head, All-tail}
use Rattle.httparse.specs.Grammar.{ChunkLine, IsChunkLine, AllPass, IsExtension, is_ows, is_extension_byte, print_extension, print_chunk_line, chunk_size, ReadsChunkLine}
use Rattle.gs_model.proofs.TextLemmas.{AllOther}
use Rattle.gs_http.specs.declared.framing.Framing.TheVariants.{Chunked}
use Rattle.gs_http.specs.Chunks.{chunk_line_of, chunk_size_of}
use Rattle.gs_http.proofs.ChunkLemmas.{reads-chunk_line_of}
use Rattle.gs_model.specs.Ascii.{crlf}
use Rattle.gs_transfer.specs.Grammar.{IsSizeLine, Chunk, chunk_text, IsChunk, IsLine, trailer_text, chunk_data, IsChunked}
use Rattle.gs_transfer.specs.States.{TransferState, SizeLine, Trailer, Start, StartCr, sized}
use Rattle.gs_transfer.specs.Cuts.{BodyCut, Whole, ends, with_data, goes_on, cut_from, body_at}
use Rattle.gs_transfer.proofs.CutLemmas.{size-run, data-run, data_left-some, sized-fits}
use Rattle.gs_transfer.proofs.QuietLemmas.{byte-on, full-run, line-quiet}

-- a class that LF is not of
other-class : (test : ℕ → Bool) → test 10 ≡ false → (c : ℕ) → test c ≡ true → eqb c 10 ≡ false
other-class test fails c holds = false_from_ne_true (eqb c 10) (λ e. false≢true (sym fails ∙ ap test (sym (eqb-true c 10 e)) ∙ holds))

-- bytes of it
other-pass : (test : ℕ → Bool) → test 10 ≡ false → (xs : List ℕ) → AllPass test xs → AllOther 10 xs
other-pass test fails [] all = tt
other-pass test fails (x ∷ xs) all =
    let P : ℕ → Type 0 = λ b. IsTrue (test b) in
    (other-class test fails x (All-head P x xs all), other-pass test fails xs (All-tail P x xs all))

-- two runs without an LF
other-append : (xs ys : List ℕ) → AllOther 10 xs → AllOther 10 ys → AllOther 10 (xs ++ ys)
other-append [] ys a b = b
other-append (x ∷ xs) ys a b = (a.0, other-append xs ys a.1 b)

-- an extension has none
other-extension : (e : Option (List ℕ)) → IsExtension e → AllOther 10 (print_extension e)
other-extension None k = tt
other-extension (Some text) k = (refl, other-pass is_extension_byte refl text k)

-- the text of a size line before its CR LF
abbrev text_of : ChunkLine → List ℕ
text_of l = l.digits ++ l.pad ++ print_extension l.extension

-- nor has a size line before its own
front-other : (l : ChunkLine) → IsChunkLine l → AllOther 10 (text_of l ++ 13 ∷ [])
front-other l k =
    let digits = other-pass is_ascii_hexdigit refl l.digits k.digits.2 in
    let pads = other-append l.digits l.pad digits (other-pass is_ows refl l.pad k.pad) in
    let all = other-append (l.digits ++ l.pad) (print_extension l.extension) pads (other-extension l.extension k.extension) in
    other-append (text_of l) (13 ∷ []) all (refl, tt)

-- a size line, at its LF
front-end : (l : ChunkLine) → print_chunk_line l ≡ (text_of l ++ 13 ∷ []) ++ 10 ∷ []
unfolding print_chunk_line
front-end l = sym (append_assoc (text_of l) (13 ∷ []) (10 ∷ []))

-- the line that a size was read from
size-reads : (b : List ℕ) (size : ℕ) → chunk_size_of b ≡ Some size → (l : ChunkLine) × ReadsChunkLine b l []
unfolding chunk_size_of
size-reads b size e =
    elim (chunk_line_of b) as (λ o. chunk_line_of b ≡ o → option_map chunk_size o ≡ Some size → (l : ChunkLine) × ReadsChunkLine b l []) [
      | None ↦ λ h g. absurd cc
      | Some l ↦ λ h g. (l, reads-chunk_line_of b l h)
    ] refl e

-- a size line
line-run : (limit sum size : ℕ) (line z : List ℕ) → IsSizeLine line size → cut_from limit (SizeLine sum []) (line ++ z) ≡ goes_on (λ (t : TransferState). cut_from limit t z) 10 (sized limit sum (Some size))
line-run limit sum size line z h =
    let r = size-reads line size h.0 in
    let d : List ℕ = text_of r.0 ++ 13 ∷ [] in
    let whole : line ≡ d ++ 10 ∷ [] = r.1.1 ∙ append-nil (print_chunk_line r.0) ∙ front-end r.0 in
    let few : length d < 256 = omega (arith, h.1, ap length whole, length-append d (10 ∷ [])) in
    ap (λ (b : List ℕ). cut_from limit (SizeLine sum []) (b ++ z)) whole
    ∙ ap (cut_from limit (SizeLine sum [])) (append_assoc d (10 ∷ []) z)
    ∙ size-run limit sum [] d (10 ∷ z) (front-other r.0 r.1.0) (omega (arith, few))
    ∙ ap (λ (b : List ℕ). goes_on (λ (t : TransferState). cut_from limit t z) 10 (sized limit sum (chunk_size_of b))) (sym whole)
    ∙ ap (λ (o : Option ℕ). goes_on (λ (t : TransferState). cut_from limit t z) 10 (sized limit sum o)) h.0

-- the parts of a chunk, one after the other
chunk-parts : (l b z : List ℕ) → (l ++ b ++ crlf) ++ z ≡ l ++ (b ++ 13 ∷ 10 ∷ z)
chunk-parts l b z = simp append_assoc

-- a chunk
chunk-run : (limit sum : ℕ) (c : Chunk) (z : List ℕ) → IsChunk c → sum + length c.bytes ≤ limit → cut_from limit (SizeLine sum []) (chunk_text c ++ z) ≡ with_data c.bytes (cut_from limit (SizeLine (sum + length c.bytes) []) z)
chunk-run limit sum c z h fits =
    let n = length c.bytes in
    let rest : List ℕ = c.bytes ++ 13 ∷ 10 ∷ z in
    ap (cut_from limit (SizeLine sum [])) (chunk-parts c.line c.bytes z)
    ∙ line-run limit sum n c.line rest h.0
    ∙ ap (goes_on (λ (t : TransferState). cut_from limit t rest) 10) (sized-fits limit sum n h.1 fits)
    ∙ ap (λ (s : TransferState). cut_from limit s rest) (sym (data_left-some (sum + n) n h.1))
    ∙ data-run limit (sum + n) 0 n c.bytes (13 ∷ 10 ∷ z) (omega arith)

-- chunks
chunks-run : (limit sum : ℕ) (cs : List Chunk) (z : List ℕ) → All IsChunk cs → sum + length (chunk_data cs) ≤ limit
    → cut_from limit (SizeLine sum []) (flat_map chunk_text cs ++ z) ≡ with_data (chunk_data cs) (cut_from limit (SizeLine (sum + length (chunk_data cs)) []) z)
chunks-run limit sum [] z all fits = ap (λ (n : ℕ). cut_from limit (SizeLine n []) z) (omega arith)
chunks-run limit sum (c ∷ cs) z all fits =
    let n = length c.bytes in
    let more : List ℕ = chunk_data cs in
    let one : IsChunk c = All-head IsChunk c cs all in
    let len : length (c.bytes ++ more) ≡ n + length more = length-append c.bytes more in
    let r : BodyCut = cut_from limit (SizeLine (sum + length (c.bytes ++ more)) []) z in
    ap (cut_from limit (SizeLine sum [])) (append_assoc (chunk_text c) (flat_map chunk_text cs) z)
    ∙ chunk-run limit sum c (flat_map chunk_text cs ++ z) one (omega (arith, len))
    ∙ ap (with_data c.bytes) (chunks-run limit (sum + n) cs z (All-tail IsChunk c cs all) (omega (arith, len)))
    ∙ ap (λ (m : ℕ). with_data c.bytes (with_data more (cut_from limit (SizeLine m []) z))) (omega (arith, len))
    ∙ ap (λ (b : List ℕ). record { bytes = b; end = r.end }) (sym (append_assoc c.bytes more r.bytes))

-- the parts of a trailer section
pub line-parts : (l f z : List ℕ) → (((l ++ crlf) ++ f) ++ crlf) ++ z ≡ l ++ 13 ∷ 10 ∷ ((f ++ crlf) ++ z)
line-parts l f z = simp append_assoc

-- how long a section is
pub trailer-length : (l : List ℕ) (ls : List (List ℕ)) → length (trailer_text (l ∷ ls)) ≡ length l + 2 + length (trailer_text ls)
trailer-length l ls =
    let f : List ℕ = flat_map (λ k. k ++ crlf) ls in
    omega (arith, length-append ((l ++ crlf) ++ f) crlf, length-append (l ++ crlf) f, length-append l crlf, length-append f crlf)

-- a trailer section
trailer-run : (limit count : ℕ) (ls : List (List ℕ)) (z : List ℕ) → All IsLine ls → All (λ l. 0 < length l) ls → count + length (trailer_text ls) ≤ 16384
    → cut_from limit (Trailer Start count) (trailer_text ls ++ z) ≡ ends (Whole z)
trailer-run limit count [] z lines full short = byte-on limit count 13 Start StartCr (10 ∷ z) refl (omega arith)
trailer-run limit count (l ∷ ls) z lines full short =
    let f : List ℕ = flat_map (λ k. k ++ crlf) ls in
    let one : IsLine l = All-head IsLine l ls lines in
    let some : 0 < length l = All-head (λ (k : List ℕ). 0 < length k) l ls full in
    let len = trailer-length l ls in
    let last = length-append f crlf in
    ap (cut_from limit (Trailer Start count)) (line-parts l f z)
    ∙ full-run limit count l (trailer_text ls ++ z) some (line-quiet false l (λ e. absurd (false≢true e)) one) (omega (arith, len, last))
    ∙ trailer-run limit (count + length l + 2) ls z (All-tail IsLine l ls lines) (All-tail (λ (k : List ℕ). 0 < length k) l ls full) (omega (arith, len))

-- a body in chunks
pub printed : (limit : ℕ) (x body rest : List ℕ) → IsChunked limit x body rest → body_at limit Chunked x ≡ record { bytes = body; end = Whole rest }
unfolding body_at
printed limit x body rest g =
    let d : List ℕ = chunk_data g.chunks in
    let after : List ℕ = trailer_text g.trailer ++ rest in
    let fits : 0 + length d ≤ limit = omega (arith, g.fits, ap length g.bytes) in
    let parts : flat_map chunk_text g.chunks ++ g.last ++ trailer_text g.trailer ++ rest ≡ flat_map chunk_text g.chunks ++ (g.last ++ after) = simp append_assoc in
    ap (cut_from limit (SizeLine 0 [])) (g.text ∙ parts)
    ∙ chunks-run limit 0 g.chunks (g.last ++ after) g.are_chunks fits
    ∙ ap (with_data d) (line-run limit (0 + length d) 0 g.last after g.is_last ∙ trailer-run limit 0 g.trailer rest g.is_trailer.lines g.is_trailer.full (omega (arith, g.is_trailer.short)))
    ∙ ap (λ (b : List ℕ). record { bytes = b; end = Whole rest }) (append-nil d ∙ sym g.bytes)
