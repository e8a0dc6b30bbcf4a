-- A piece of the lines of all graphs of a version.
use Rattle.std.specs.Prelude.{◌≡◌, ℕ, ◌-◌, true, false, nat_le, List, length, take, drop, slice_get, Option, Some, None}
use Rattle.std.specs.List.{concat}
use Rattle.gs_pool.specs.Pool.{Nodes}
use Rattle.gs_keys.specs.Texts.{Terms, IsGiven}
use Rattle.gs_keys.specs.Roots.{IsGraphAt}
use Rattle.gs_records.specs.Records.{Record, Recorded}
use Rattle.gs_records.specs.Order.{has_number}
use Rattle.gs_quads.specs.declared.pieces.QuadPiece.{QuadPiece}
use Rattle.gs_quads.specs.Places.{Place, root_at, places_left, quads_left}

-- what version v has are the versions of graphs, in this pool and among these terms
abbrev pub AreGraphs : Terms → Nodes → ℕ → List Record → Type 0
AreGraphs terms p v rs = (n : ℕ) → has_number v rs n ≡ true → IsGraphAt terms p (root_at rs n)

-- a place to read from: the beginning, or a key whose numbers have terms, of a record that version v has
abbrev pub IsQuadPlace : Terms → ℕ → List Record → Option Place → Type 0
IsQuadPlace terms v rs None = Unit {0}
IsQuadPlace terms v rs (Some x) = (has_number v rs x.0 ≡ true) × IsGiven terms x.1

-- the last of these places
abbrev pub last_place : List Place → Option Place
last_place xs = slice_get xs (length xs - 1)

-- The piece has the next lines of version v from a place on, `count` of them or as many as are left; it is the end where no
-- more are left, and else its last place is where the rest begins.
pub record IsQuadPiece (terms : Terms) (p : Nodes) (v : ℕ) (r : Recorded) (from : Option Place) (count : ℕ) (piece : QuadPiece) : Type 0 where
  pub bytes : piece.lines.items ≡ concat (take count (quads_left terms p v r from))
  pub end : piece.is_end ≡ nat_le (length (quads_left terms p v r from)) count
  pub last : piece.last ≡ last_place (take count (places_left terms p v r from))
  pub last_given : IsQuadPlace terms v r.records piece.last
  pub rest : piece.is_end ≡ false → quads_left terms p v r piece.last ≡ drop count (quads_left terms p v r from)
