-- A body in chunks that is read whole is what the grammar prints.
use Rattle.std.proofs.Common.{◌≡◌, ℕ, zero, suc, ◌+◌, ◌<◌, ◌≤◌, true, false, cond, eqb, ltb, leb, List, [], ◌∷◌, ◌++◌, length, refl, sym, ap, ◌∙◌, subst, arith, append_assoc, length-append, Option, Some, None}
use Rattle.std.specs.Prelude.{All}
use Rattle.std.specs.List.{flat_map}
use Rattle.std.proofs.lemmas.Bool.{eqb-true, leb-false, ltb-false}
use Rattle.std.proofs.lemmas.List.Elements.{All-nil, All-cons}
use Rattle.gs_http.specs.Chunks.{chunk_size_of}
use Rattle.gs_model.specs.Ascii.{crlf}
use Rattle.gs_transfer.specs.Grammar.{IsSizeLine, Chunk, chunk_text, IsChunk, trailer_text, IsTrailer, chunk_data}
use Rattle.gs_transfer.specs.States.{TransferState, Left, SizeLine, Data, DataEnd, DataEndCr, Trailer, Over, Start, Passes, Fails, sized, data_left}
use Rattle.gs_transfer.specs.Cuts.{BodyCut, End, with_data, goes_on, cut_from, body_at}
use Rattle.gs_transfer.specs.Laws.{ChunkedIsTheGrammar}
use Rattle.gs_transfer.proofs.SectionLemmas.{IsWhole, fault-whole, open-whole, Section, section-read}
use Rattle.gs_transfer.proofs.PrintLemmas.{printed}

-- chunks after a sum, the last chunk, the trailer section, and what stands after them
record Tail (limit sum : ℕ) (x body rest : List ℕ) : Type 0 where
  chunks : List Chunk
  last : List ℕ
  trailer : List (List ℕ)
  are_chunks : All IsChunk chunks
  is_last : IsSizeLine last 0
  is_trailer : IsTrailer trailer
  text : x ≡ flat_map chunk_text chunks ++ last ++ trailer_text trailer ++ rest
  bytes : body ≡ chunk_data chunks
  fits : sum + length body ≤ limit

-- so many bytes of data, their line end, and the chunks after them
abbrev InData : ℕ → ℕ → ℕ → List ℕ → List ℕ → List ℕ → Type 0
InData limit sum n x body rest =
    (d : List ℕ) × (y : List ℕ) × (b : List ℕ) × (length d ≡ n) × (x ≡ d ++ 13 ∷ 10 ∷ y) × (body ≡ d ++ b) × Tail limit sum y b rest

-- the rest of a body, from a state on
abbrev Rest : ℕ → TransferState → List ℕ → List ℕ → List ℕ → Type 0
Rest limit (SizeLine sum l) x body rest = length l < 256 → sum ≤ limit → Tail limit sum (l ++ x) body rest
Rest limit (Data sum n) x body rest = 0 < n → sum ≤ limit → InData limit sum n x body rest
Rest limit (DataEnd sum) x body rest = sum ≤ limit → (y : List ℕ) × (x ≡ 13 ∷ 10 ∷ y) × Tail limit sum y body rest
Rest limit (DataEndCr sum) x body rest = sum ≤ limit → (y : List ℕ) × (x ≡ 10 ∷ y) × Tail limit sum y body rest
Rest limit s x body rest = Unit {0}

-- the last chunk
tail-last : (limit sum : ℕ) (line x rest : List ℕ) → IsSizeLine line 0 → sum ≤ limit → Section Start 0 x rest → Tail limit sum (line ++ x) [] rest
tail-last limit sum line x rest is fits h = record {
  chunks = [];
  last = line;
  trailer = h.0;
  are_chunks = All-nil IsChunk;
  is_last = is;
  is_trailer = record { lines = h.1; full = h.2; short = omega (arith, h.3) };
  text = ap (λ (z : List ℕ). line ++ z) h.4 ∙ sym (append_assoc line (trailer_text h.0) rest);
  bytes = refl;
  fits = omega arith;
}

-- the parts of a chunk before others
chunk-text : (l d f e t r : List ℕ) → l ++ (d ++ 13 ∷ 10 ∷ (f ++ e ++ t ++ r)) ≡ ((l ++ d ++ crlf) ++ f) ++ e ++ t ++ r
chunk-text l d f e t r = simp append_assoc

-- a chunk before others
tail-more : (limit sum : ℕ) (line d x y b rest : List ℕ) → IsSizeLine line (length d) → 0 < length d → x ≡ d ++ 13 ∷ 10 ∷ y → Tail limit (sum + length d) y b rest
    → Tail limit sum (line ++ x) (d ++ b) rest
tail-more limit sum line d x y b rest is some e t =
    let c : Chunk = record { line = line; bytes = d } in
    record {
      chunks = c ∷ t.chunks;
      last = t.last;
      trailer = t.trailer;
      are_chunks = All-cons IsChunk c t.chunks (is, some) t.are_chunks;
      is_last = t.is_last;
      is_trailer = t.is_trailer;
      text = ap (λ (z : List ℕ). line ++ z) (e ∙ ap (λ (z : List ℕ). d ++ 13 ∷ 10 ∷ z) t.text) ∙ chunk-text line d (flat_map chunk_text t.chunks) t.last (trailer_text t.trailer) rest;
      bytes = ap (λ (z : List ℕ). d ++ z) t.bytes;
      fits = omega (arith, t.fits, length-append d b);
    }

-- after a size line, from what follows it
tail-sized : (limit sum c : ℕ) (line x body rest : List ℕ) (o : Option ℕ) → chunk_size_of line ≡ o → length line ≤ 256 → sum ≤ limit
    → ((s : TransferState) → IsWhole (cut_from limit s x) body rest → Rest limit s x body rest)
    → IsWhole (goes_on (λ (t : TransferState). cut_from limit t x) c (sized limit sum o)) body rest → Tail limit sum (line ++ x) body rest
tail-sized limit sum c line x body rest None is few fits ih e = absurd (fault-whole 400 body rest e)
tail-sized limit sum c line x body rest (Some zero) is few fits ih e =
    let r = section-read limit 0 Start x body rest e in
    subst (λ (b : List ℕ). Tail limit sum (line ++ x) b rest) (sym r.0) (tail-last limit sum line x rest (is, few) fits r.1)
tail-sized limit sum c line x body rest (Some (suc n)) is few fits ih e =
    elim (ltb limit (sum + suc n)) as (λ b. ltb limit (sum + suc n) ≡ b → IsWhole (goes_on (λ (t : TransferState). cut_from limit t x) c (cond b (Fails 413) (Passes (Data (sum + suc n) (suc n))))) body rest → Tail limit sum (line ++ x) body rest) [
      | true ↦ λ t h. absurd (fault-whole 413 body rest h)
      | false ↦ λ t h.
          let r = ih (Data (sum + suc n) (suc n)) h (omega arith) (ltb-false limit (sum + suc n) t) in
          let size : chunk_size_of line ≡ Some (length r.0) = is ∙ ap (λ (m : ℕ). let z : Option ℕ = Some m in z) (sym r.3) in
          let tail = subst (λ (m : ℕ). Tail limit (sum + m) r.1 r.2 rest) (sym r.3) r.6 in
          subst (λ (z : List ℕ). Tail limit sum (line ++ x) z rest) (sym r.5) (tail-more limit sum line r.0 x r.1 r.2 rest (size, few) (omega (arith, r.3)) r.4 tail)
    ] refl e

-- after a byte of data, from what follows it
data-more : (limit sum c n : ℕ) (x body rest : List ℕ) → sum ≤ limit
    → ((s : TransferState) (b : List ℕ) → IsWhole (cut_from limit s x) b rest → Rest limit s x b rest)
    → IsWhole (with_data (c ∷ []) (cut_from limit (data_left sum n) x)) body rest → InData limit sum (suc n) (c ∷ x) body rest
data-more limit sum c zero x body rest fits ih e =
    let r : BodyCut = cut_from limit (DataEnd sum) x in
    let whole : IsWhole r r.bytes rest = ap (λ (z : End). record { bytes = r.bytes; end = z }) (ap (λ (d : BodyCut). d.end) e) in
    let q = ih (DataEnd sum) r.bytes whole fits in
    (c ∷ [], q.0, r.bytes, omega arith, ap (λ (z : List ℕ). c ∷ z) q.1, sym (ap (λ (d : BodyCut). d.bytes) e), q.2)
data-more limit sum c (suc n) x body rest fits ih e =
    let r : BodyCut = cut_from limit (Data sum (suc n)) x in
    let whole : IsWhole r r.bytes rest = ap (λ (z : End). record { bytes = r.bytes; end = z }) (ap (λ (d : BodyCut). d.end) e) in
    let q = ih (Data sum (suc n)) r.bytes whole (omega arith) fits in
    (c ∷ q.0, q.1, q.2, omega (arith, q.3), ap (λ (z : List ℕ). c ∷ z) q.4, sym (ap (λ (d : BodyCut). d.bytes) e) ∙ ap (λ (z : List ℕ). c ∷ z) q.5, q.6)

-- a byte that is due
due : (c d : ℕ) (f : TransferState → BodyCut) (s : TransferState) (body rest : List ℕ) → IsWhole (goes_on f c (cond (eqb c d) (Passes s) (Fails 400))) body rest → (c ≡ d) × IsWhole (f s) body rest
due c d f s body rest e =
    elim (eqb c d) as (λ b. eqb c d ≡ b → IsWhole (goes_on f c (cond b (Passes s) (Fails 400))) body rest → (c ≡ d) × IsWhole (f s) body rest) [
      | true ↦ λ t h. (eqb-true c d t, h)
      | false ↦ λ t h. absurd (fault-whole 400 body rest h)
    ] refl e

-- one byte more of a size line
line-byte : (limit sum c : ℕ) (l x body rest : List ℕ) → length l < 256 → sum ≤ limit
    → ((s : TransferState) → IsWhole (cut_from limit s x) body rest → Rest limit s x body rest)
    → IsWhole (cut_from limit (SizeLine sum l) (c ∷ x)) body rest → Tail limit sum (l ++ c ∷ x) body rest
line-byte limit sum c l x body rest few fits ih e =
    let line : List ℕ = l ++ c ∷ [] in
    let f : TransferState → BodyCut = λ t. cut_from limit t x in
    let len = length-append l (c ∷ []) in
    subst (λ (z : List ℕ). Tail limit sum z body rest) (append_assoc l (c ∷ []) x)
    (elim (eqb c 10) as (λ b. IsWhole (goes_on f c (cond b (sized limit sum (chunk_size_of line)) (cond (leb 256 (length l + 1)) (Fails 400) (Passes (SizeLine sum line))))) body rest → Tail limit sum (line ++ x) body rest) [
      | true ↦ λ h. tail-sized limit sum c line x body rest (chunk_size_of line) refl (omega (arith, len)) fits ih h
      | false ↦ λ h. elim (leb 256 (length l + 1)) as (λ b. leb 256 (length l + 1) ≡ b → IsWhole (goes_on f c (cond b (Fails 400) (Passes (SizeLine sum line)))) body rest → Tail limit sum (line ++ x) body rest) [
        | true ↦ λ t g. absurd (fault-whole 400 body rest g)
        | false ↦ λ t g. ih (SizeLine sum line) g (omega (arith, len, leb-false 256 (length l + 1) t)) fits
      ] refl h
    ] e)

-- from each state on
read : (limit : ℕ) (s : TransferState) (x body rest : List ℕ) → IsWhole (cut_from limit s x) body rest → Rest limit s x body rest
read limit (Left n) x body rest e = tt
read limit Over x body rest e = tt
read limit (Trailer p count) x body rest e = tt
read limit s [] body rest e = absurd (open-whole body rest e)
read limit (SizeLine sum l) (c ∷ x) body rest e = λ few fits. line-byte limit sum c l x body rest few fits (λ (s : TransferState). read limit s x body rest) e
read limit (Data sum zero) (c ∷ x) body rest e = λ some fits. absurd (omega arith)
read limit (Data sum (suc n)) (c ∷ x) body rest e = λ some fits.
    data-more limit sum c n x body rest fits (λ (s : TransferState) (b : List ℕ). read limit s x b rest)
    (subst (λ (m : ℕ). IsWhole (with_data (c ∷ []) (cut_from limit (data_left sum m) x)) body rest) (omega arith) e)
read limit (DataEnd sum) (c ∷ x) body rest e = λ fits.
    let d = due c 13 (λ (t : TransferState). cut_from limit t x) (DataEndCr sum) body rest e in
    let r = read limit (DataEndCr sum) x body rest d.1 fits in
    (r.0, ap (λ (z : ℕ). z ∷ x) d.0 ∙ ap (λ (z : List ℕ). 13 ∷ z) r.1, r.2)
read limit (DataEndCr sum) (c ∷ x) body rest e = λ fits.
    let d = due c 10 (λ (t : TransferState). cut_from limit t x) (SizeLine sum []) body rest e in
    (x, ap (λ (z : ℕ). z ∷ x) d.0, read limit (SizeLine sum []) x body rest d.1 (omega arith) fits)

-- the two are one
pub chunked-grammar : ChunkedIsTheGrammar
unfolding body_at
chunked-grammar limit x body rest = (
  λ e.
      let t = read limit (SizeLine 0 []) x body rest e (omega arith) (omega arith) in
      record {
        chunks = t.chunks;
        last = t.last;
        trailer = t.trailer;
        are_chunks = t.are_chunks;
        is_last = t.is_last;
        is_trailer = t.is_trailer;
        text = t.text;
        bytes = t.bytes;
        fits = omega (arith, t.fits);
      },
  printed limit x body rest,
)
