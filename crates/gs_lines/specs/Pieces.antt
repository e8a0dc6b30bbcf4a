-- The lines of a root's keys from a place on, and a piece of them.
use Rattle.std.specs.Prelude.{◌≡◌, ℕ, ◌-◌, false, nat_le, List, length, map, take, drop, slice_get, Option, Some, None}
use Rattle.std.specs.List.{concat}
use Rattle.gs_model.specs.Triples.{line_of}
use Rattle.gs_pool.specs.declared.nodes.Key.{Key}
use Rattle.gs_pool.specs.Pool.{Nodes}
use Rattle.gs_tree.specs.Reading.{keys_at, keys_from}
use Rattle.gs_keys.specs.Texts.{Terms, triple_at, key_cmp, IsGiven}
use Rattle.gs_lines.specs.declared.pieces.Piece.{Piece}

-- the line of a key: that of its triple
abbrev pub line_at : Terms → Key → List ℕ
line_at terms k = line_of (triple_at terms k)

-- the bytes of the lines of keys, one after another
abbrev pub bytes_of : Terms → List Key → List ℕ
bytes_of terms ks = concat (map (line_at terms) ks)

-- the keys of a root above the one given, and all where none is, in the order of their texts
abbrev pub keys_left : Terms → Nodes → Option ℕ → Option Key → List Key
keys_left terms p root from = keys_from (key_cmp terms) from (keys_at p root)

-- the lines of these keys
abbrev pub lines_from : Terms → Nodes → Option ℕ → Option Key → List (List ℕ)
lines_from terms p root from = map (line_at terms) (keys_left terms p root from)

-- the last of these keys
abbrev pub last_key : List Key → Option Key
last_key ks = slice_get ks (length ks - 1)

-- a place to read from: the beginning, or a key whose numbers have terms
abbrev pub IsCursor : Terms → Option Key → Type 0
IsCursor terms None = Unit {0}
IsCursor terms (Some k) = IsGiven terms k

-- The piece has the next lines of a root from a place on, `count` of them or as many as are left; it is the end where no
-- more are left, and else its last key is the place where the rest begins.
pub record IsPiece (terms : Terms) (p : Nodes) (root : Option ℕ) (from : Option Key) (count : ℕ) (piece : Piece) : Type 0 where
  pub bytes : piece.lines.items ≡ concat (take count (lines_from terms p root from))
  pub end : piece.is_end ≡ nat_le (length (lines_from terms p root from)) count
  pub last : piece.last ≡ last_key (take count (keys_left terms p root from))
  pub last_given : IsCursor terms piece.last
  pub rest : piece.is_end ≡ false → lines_from terms p root piece.last ≡ drop count (lines_from terms p root from)
