-- Which size a chunk's line writes: chunk-size and chunk-ext of RFC 9112, section 7.1, as a function.
use Rattle.std.specs.Prelude.{◌≡◌, ℕ, ◌↔◌, Bool, true, ◌&&◌, List, [], ◌∷◌, length, if◌then◌else◌, ◌==◌, nat_lt, nat_le, Option, Some, None, option_map}
use Rattle.std.specs.List.{list_all}
use Rattle.std.specs.Str.{bytes_eq}
use Rattle.std.specs.Char.{is_ascii_hexdigit}
use Rattle.httparse.specs.Grammar.{ChunkLine, is_ows, is_extension_byte, print_chunk_line, chunk_size, ReadsChunkLine}
use Rattle.gs_model.specs.Punctuation.{semicolon}

-- the bytes up to the first that fails the test
abbrev pub passing : (ℕ → Bool) → List ℕ → List ℕ
passing test [] = []
passing test (x ∷ xs) = if test x then x ∷ passing test xs else []

-- the bytes from the first that fails the test
abbrev pub after_passing : (ℕ → Bool) → List ℕ → List ℕ
after_passing test [] = []
after_passing test (x ∷ xs) = if test x then after_passing test xs else x ∷ xs

-- chunk-ext (section 7.1.1): it stands after a semicolon, to the end of the line
abbrev pub extension_of : List ℕ → Option (List ℕ)
extension_of [] = None
extension_of (x ∷ xs) = if x == semicolon then Some (passing is_extension_byte xs) else None

-- the only size line that a text can be
unfoldable pub cut_chunk_line : List ℕ → ChunkLine
cut_chunk_line b =
    let pad : List ℕ = after_passing is_ascii_hexdigit b in
    record {
      digits = passing is_ascii_hexdigit b;
      pad = passing is_ows pad;
      extension = extension_of (after_passing is_ows pad);
    }

-- an extension has no CR and no LF
abbrev pub is_extension : Option (List ℕ) → Bool
is_extension None = true
is_extension (Some text) = list_all is_extension_byte text

-- 1 to 16 hexadecimal digits, white space, and an extension
abbrev pub is_chunk_line : ChunkLine → Bool
is_chunk_line l =
    (nat_lt 0 (length l.digits) && (nat_le (length l.digits) 16 && list_all is_ascii_hexdigit l.digits))
    && (list_all is_ows l.pad && is_extension l.extension)

-- the text is exactly this line
abbrev pub is_line : ChunkLine → List ℕ → Bool
is_line l b = is_chunk_line l && bytes_eq b (print_chunk_line l)

-- the size line that a text is, if it is one
unfoldable pub chunk_line_of : List ℕ → Option ChunkLine
chunk_line_of b = if is_line (cut_chunk_line b) b then Some (cut_chunk_line b) else None

-- the size that it writes
unfoldable pub chunk_size_of : List ℕ → Option ℕ
chunk_size_of b = option_map chunk_size (chunk_line_of b)

-- `chunk_line_of` is the relation of `httparse`'s grammar, as a function.
abbrev pub ChunkLineOfIsTheGrammar : Type 0
ChunkLineOfIsTheGrammar = (b : List ℕ) (l : ChunkLine) → (chunk_line_of b ≡ Some l) ↔ ReadsChunkLine b l []
