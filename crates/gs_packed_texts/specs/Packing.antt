-- How texts are packed. They take turns at three memories, as the terms of triples do. A text is its memory's last one, or
-- the last one that was another, or bytes of its own, or a prefix of the memory's anchor with bytes of its own after it.
use Rattle.std.specs.Prelude.{ℕ, ◌==◌, if◌then◌else◌, List, [], ◌∷◌, ◌++◌, take, drop}

-- what is remembered of texts: the last that was an anchor, the last one, and the last that was another one
pub record Memory : Type 0 where
  pub anchor : List ℕ
  pub last : List ℕ
  pub earlier : List ℕ

-- before any text
abbrev pub no_memory : Memory
no_memory = record { anchor = []; last = []; earlier = [] }

-- how a text stands: as the last one, as the earlier one, whole (then it is the anchor from there on), or so many bytes of
-- the anchor and its own
pub data TextMark : Type 0 where
  Last : TextMark
  Earlier : TextMark
  Whole : TextMark
  Front : (count : ℕ) → TextMark

-- the mark of a byte
abbrev pub text_mark_of : ℕ → TextMark
text_mark_of b = if b == 255 then Last else if b == 254 then Earlier else if b == 253 then Whole else Front b

-- what is not read yet: the memories, whose turn comes first, second and third, and texts' own bytes, in their order
pub record Source : Type 0 where
  pub first : Memory
  pub second : Memory
  pub third : Memory
  pub pieces : List (List ℕ)

-- the first piece, and nothing where there is none
abbrev pub piece_of : List (List ℕ) → List ℕ
piece_of [] = []
piece_of (p ∷ ps) = p

-- the text that stands so, by its memory and by bytes of its own
abbrev pub text_by : TextMark → Memory → List ℕ → List ℕ
text_by Last m own = m.last
text_by Earlier m own = m.earlier
text_by Whole m own = own
text_by (Front n) m own = take n m.anchor ++ own

-- the memory after a text that stands so
abbrev pub memory_after : TextMark → List ℕ → Memory → Memory
memory_after Last x m = m
memory_after Earlier x m = record { anchor = m.anchor; last = m.earlier; earlier = m.last }
memory_after Whole x m = record { anchor = x; last = x; earlier = m.last }
memory_after (Front n) x m = record { anchor = m.anchor; last = x; earlier = m.last }

-- the pieces after it
abbrev pub pieces_after : TextMark → List (List ℕ) → List (List ℕ)
pieces_after Last ps = ps
pieces_after Earlier ps = ps
pieces_after Whole ps = drop 1 ps
pieces_after (Front n) ps = drop 1 ps

-- the next text, if it stands so
abbrev pub next_text : TextMark → Source → List ℕ
next_text m s = text_by m s.first (piece_of s.pieces)

-- what is left after it: the text after it is the second memory's
abbrev pub left_after : TextMark → Source → Source
left_after m s = record {
  first = s.second;
  second = s.third;
  third = memory_after m (next_text m s) s.first;
  pieces = pieces_after m s.pieces;
}

-- the texts of these marks
abbrev pub unpacked : List ℕ → Source → List (List ℕ)
unpacked [] s = []
unpacked (b ∷ bs) s = next_text (text_mark_of b) s ∷ unpacked bs (left_after (text_mark_of b) s)

-- bytes cut into pieces, of so many bytes each
abbrev pub cut_by : List ℕ → List ℕ → List (List ℕ)
cut_by [] x = []
cut_by (n ∷ ns) x = take n x ∷ cut_by ns (drop n x)

-- from the first text on
abbrev pub source_of : List ℕ → List ℕ → Source
source_of counts bytes = record { first = no_memory; second = no_memory; third = no_memory; pieces = cut_by counts bytes }
