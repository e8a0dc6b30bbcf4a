-- A body in chunks (RFC 9112, section 7.1), as its text is printed.
use Rattle.std.specs.Prelude.{◌≡◌, ◌≤◌, ◌<◌, ℕ, List, [], ◌∷◌, ◌++◌, length, Some}
use Rattle.std.specs.List.{All, flat_map}
use Rattle.gs_model.specs.Ascii.{crlf}
use Rattle.gs_http.specs.Chunks.{chunk_size_of}
use Rattle.gs_transfer.specs.Limits.{max_size_line_bytes, max_trailer_bytes}

-- chunk-size, chunk-ext and the end of their line, within the bytes that such a line may have
abbrev pub IsSizeLine : List ℕ → ℕ → Type 0
IsSizeLine line size = (chunk_size_of line ≡ Some size) × (length line ≤ max_size_line_bytes)

-- a chunk: its size line and its data
pub record Chunk : Type 0 where
  pub line : List ℕ
  pub bytes : List ℕ

-- the text of a chunk
abbrev pub chunk_text : Chunk → List ℕ
chunk_text c = c.line ++ c.bytes ++ crlf

-- a chunk has data, as many bytes as its line says
abbrev pub IsChunk : Chunk → Type 0
IsChunk c = IsSizeLine c.line (length c.bytes) × (0 < length c.bytes)

-- the bytes of a line and its end have no end of a line but the last two
abbrev pub IsLine : List ℕ → Type 0
IsLine l = (front back : List ℕ) → l ++ crlf ≡ front ++ crlf ++ back → back ≡ []

-- trailer-section: lines that are not empty, and the empty line after them
abbrev pub trailer_text : List (List ℕ) → List ℕ
trailer_text ls = flat_map (λ l. l ++ crlf) ls ++ crlf

-- such lines, within the bytes that a trailer section may have
pub record IsTrailer (ls : List (List ℕ)) : Type 0 where
  pub lines : All IsLine ls
  pub full : All (λ l. 0 < length l) ls
  pub short : length (trailer_text ls) ≤ max_trailer_bytes

-- the data of chunks
abbrev pub chunk_data : List Chunk → List ℕ
chunk_data cs = flat_map (λ c. c.bytes) cs

-- chunked-body: chunks within the limit, the last chunk, the trailer section; and what stands after it
pub record IsChunked (limit : ℕ) (x body rest : List ℕ) : Type 0 where
  pub chunks : List Chunk
  pub last : List ℕ
  pub trailer : List (List ℕ)
  pub are_chunks : All IsChunk chunks
  pub is_last : IsSizeLine last 0
  pub is_trailer : IsTrailer trailer
  pub text : x ≡ flat_map chunk_text chunks ++ last ++ trailer_text trailer ++ rest
  pub bytes : body ≡ chunk_data chunks
  pub fits : length body ≤ limit
