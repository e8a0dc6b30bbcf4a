-- What the answers of `parse_chunk_size` say of `chunk_size_of`.
use Rattle.std.proofs.Common.{◌≡◌, ℕ, List, [], ◌++◌, length, drop, sym, ap, ◌∙◌, arith, append-nil, length-append, Some, None}
use Rattle.std.specs.Prelude.{option_map}
use Rattle.std.proofs.lemmas.List.{drop_all}
use Rattle.httparse.specs.Grammar.{ChunkLine, chunk_size, print_chunk_line, ReadsChunkLine, HasNoChunkLine, NeverHasChunkLine}
use Rattle.httparse.specs.Spans.{IsChunkLineAt}
use Rattle.httparse.proofs.ChunkLemmas.{chunk_line_unique}
use Rattle.gs_http.specs.Chunks.{chunk_line_of, chunk_size_of}
use Rattle.gs_http.proofs.TestLemmas.{none-unless}
use Rattle.gs_http.proofs.ChunkLemmas.{chunk_line_of-Some, reads-chunk_line_of}

-- the bytes are no size line
none : (b : List ℕ) → ((l : ChunkLine) → ReadsChunkLine b l [] → ⊥) → chunk_size_of b ≡ None
unfolding chunk_size_of
none b f = ap (option_map chunk_size) (none-unless (chunk_line_of b) (λ l e. f l (reads-chunk_line_of b l e)))

-- the bytes end too early
pub none_partial : (b : List ℕ) → HasNoChunkLine b → chunk_size_of b ≡ None
none_partial b f = none b (λ l r. f l [] r)

-- a fault
pub none_error : (b : List ℕ) → NeverHasChunkLine b → chunk_size_of b ≡ None
none_error b f = none b (λ l r. f [] l [] (r.0, append-nil b ∙ r.1))

-- bytes are left after the line
pub none_longer : (b : List ℕ) (n size : ℕ) (l : ChunkLine) → IsChunkLineAt b n size l → (n ≡ length b → ⊥) → chunk_size_of b ≡ None
none_longer b n size l at more = none b (λ k s.
    let same = chunk_line_unique b l k (drop n b) [] at.reads s in
    let bare : length (drop n b) ≡ 0 = ap length same.1 in
    let whole = ap length at.reads.1 in
    more (omega (arith, whole, at.len_is, length-append (print_chunk_line l) (drop n b), bare)))

-- no byte is left
pub some : (b : List ℕ) (n size : ℕ) (l : ChunkLine) → IsChunkLineAt b n size l → n ≡ length b → chunk_size_of b ≡ Some size
unfolding chunk_size_of
some b n size l at e =
    let rest : drop n b ≡ [] = drop_all n b (omega (arith, e)) in
    ap (option_map chunk_size) (chunk_line_of-Some b l (at.reads.0, at.reads.1 ∙ ap (λ (t : List ℕ). print_chunk_line l ++ t) rest))
    ∙ ap Some (sym at.size_is)
