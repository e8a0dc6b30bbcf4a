-- Where a head ends (RFC 9112, sections 2.1 and 2.2): at its first empty line.
use Rattle.std.specs.Prelude.{ℕ, ◌==◌, nat_le, if◌then◌else◌, List, [], ◌∷◌, length, take, drop, Option, Some, None}
use Rattle.gs_model.specs.Ascii.{carriage_return, line_feed}
use Rattle.gs_stream.specs.Limits.{max_head_bytes}

-- without the ends of lines that stand before a head
abbrev pub stripped : List ℕ → List ℕ
stripped [] = []
stripped (c ∷ []) = if c == line_feed then [] else c ∷ []
stripped (c ∷ (d ∷ cs)) =
    if c == line_feed then stripped (d ∷ cs)
    else if c == carriage_return then if d == line_feed then stripped cs else c ∷ (d ∷ cs)
    else c ∷ (d ∷ cs)

-- a text cut after its first part
abbrev pub Parted : Type 0
Parted = Option (List ℕ × List ℕ)

-- one byte more before a part
abbrev pub put : ℕ → Parted → Parted
put c None = None
put c (Some p) = Some (c ∷ p.0, p.1)

-- an empty line at the front: LF, or CR LF
abbrev pub empty_line : List ℕ → Parted
empty_line [] = None
empty_line (c ∷ []) = if c == line_feed then Some (c ∷ [], []) else None
empty_line (c ∷ (d ∷ cs)) =
    if c == line_feed then Some (c ∷ [], d ∷ cs)
    else if c == carriage_return then if d == line_feed then Some (c ∷ (d ∷ []), cs) else None
    else None

-- after an LF: the empty line, if one follows, or what comes later
abbrev pub or_later : ℕ → Parted → Parted → Parted
or_later c None later = put c later
or_later c (Some p) later = put c (Some p)

-- through the first empty line, which follows an LF
abbrev pub through_empty_line : List ℕ → Parted
through_empty_line [] = None
through_empty_line (c ∷ cs) =
    if c == line_feed then or_later c (empty_line cs) (through_empty_line cs) else put c (through_empty_line cs)

-- a head that has not ended yet, that is too long, or that is whole, with what stands after it
pub data HeadCut : Type 0 where
  Open : HeadCut
  TooLong : HeadCut
  Whole : (head rest : List ℕ) → HeadCut

-- by the first empty line within so many bytes
abbrev pub cut_at : List ℕ → Parted → HeadCut
cut_at x None = if nat_le max_head_bytes (length x) then TooLong else Open
cut_at x (Some p) = Whole p.0 (drop (length p.0) x)

-- the head at the front of a text
unfoldable pub head_at : List ℕ → HeadCut
head_at x = cut_at x (through_empty_line (take max_head_bytes x))
