-- How packed texts are kept: marks, the counts of their own bytes, those bytes, and where each memory's texts stand.
use Rattle.std.specs.Prelude.{◌≡◌, ℕ, ◌+◌, ◌≤◌, List, [], ◌∷◌, ◌++◌, length, min, drop, slice_range}
use Rattle.std.specs.List.{sum}
use Rattle.gs_packed_texts.specs.Packing.{Memory, TextMark, Last, Earlier, Whole, Front, text_mark_of, text_by, Source, left_after, source_of}
use Rattle.gs_packed_texts.specs.declared.windows.Span.{Span}
use Rattle.gs_packed_texts.specs.declared.windows.Parts.{Parts}
use Rattle.gs_packed_texts.specs.declared.windows.Window.{Window}
use Rattle.gs_packed_texts.specs.declared.places.Place.{Place}

-- the bytes of a span
abbrev pub span_in : List ℕ → Span → List ℕ
span_in x s = slice_range x s.start (s.start + s.count)

-- the bytes of two spans
abbrev pub parts_in : List ℕ → Parts → List ℕ
parts_in x p = span_in x p.front ++ span_in x p.rest

-- the texts of a window
abbrev pub memory_in : List ℕ → Window → Memory
memory_in x w = record { anchor = span_in x w.anchor; last = parts_in x w.last; earlier = parts_in x w.earlier }

-- a span of no bytes
abbrev pub no_span : Span
no_span = record { start = 0; count = 0 }

-- a text of no bytes
abbrev pub no_parts : Parts
no_parts = record { front = no_span; rest = no_span }

-- before any text
abbrev pub no_window : Window
no_window = record { anchor = no_span; last = no_parts; earlier = no_parts }

-- so many bytes of a span, as far as there are so many
abbrev pub front_of : ℕ → Span → Span
front_of n s = record { start = s.start; count = min n s.count }

-- where a memory's texts stand after a text that stands so, with these bytes of its own
abbrev pub window_after : TextMark → Span → Window → Window
window_after Last own w = w
window_after Earlier own w = record { anchor = w.anchor; last = w.earlier; earlier = w.last }
window_after Whole own w = record { anchor = own; last = record { front = no_span; rest = own }; earlier = w.last }
window_after (Front n) own w = record { anchor = w.anchor; last = record { front = front_of n w.anchor; rest = own }; earlier = w.last }

-- a span lies in so many bytes
abbrev pub IsSpanIn : ℕ → Span → Type 0
IsSpanIn n s = s.start + s.count ≤ n

-- both spans lie in so many bytes
abbrev pub ArePartsIn : ℕ → Parts → Type 0
ArePartsIn n p = IsSpanIn n p.front × IsSpanIn n p.rest

-- each span of a window lies in so many bytes
pub record IsWindowIn (n : ℕ) (w : Window) : Type 0 where
  pub anchor : IsSpanIn n w.anchor
  pub last : ArePartsIn n w.last
  pub earlier : ArePartsIn n w.earlier

-- how many counts are kept of a text that stands so
abbrev pub own_by : TextMark → ℕ
own_by Last = 0
own_by Earlier = 0
own_by Whole = 1
own_by (Front n) = 1

-- how many are kept of the texts of these marks
abbrev pub own_in : List ℕ → ℕ
own_in [] = 0
own_in (b ∷ bs) = own_by (text_mark_of b) + own_in bs

-- the count that is kept of a text with so many bytes of its own
abbrev pub own_counts : TextMark → ℕ → List ℕ
own_counts Last n = []
own_counts Earlier n = []
own_counts Whole n = n ∷ []
own_counts (Front k) n = n ∷ []

-- what is left after all these marks
abbrev pub left_after_all : List ℕ → Source → Source
left_after_all [] s = s
left_after_all (b ∷ bs) s = left_after_all bs (left_after (text_mark_of b) s)

-- The counts are of all bytes, and there is one for each mark with bytes of its own; after all marks nothing is left, and
-- the memories are those of the windows.
pub record IsPacked (marks counts bytes : List ℕ) (first second third : Window) : Type 0 where
  pub counted : sum counts ≡ length bytes
  pub owned : own_in marks ≡ length counts
  pub first_in : IsWindowIn (length bytes) first
  pub second_in : IsWindowIn (length bytes) second
  pub third_in : IsWindowIn (length bytes) third
  pub left : left_after_all marks (source_of counts bytes) ≡ record {
    first = memory_in bytes first;
    second = memory_in bytes second;
    third = memory_in bytes third;
    pieces = [];
  }

-- what a reader has before it: the counts are of the bytes from a place on, and there is one for each mark with bytes of
-- its own
pub record IsReady (marks counts bytes : List ℕ) (at : ℕ) (first second third : Window) : Type 0 where
  pub counted : at + sum counts ≡ length bytes
  pub owned : own_in marks ≡ length counts
  pub first_in : IsWindowIn (length bytes) first
  pub second_in : IsWindowIn (length bytes) second
  pub third_in : IsWindowIn (length bytes) third

-- A text can stand so after the texts of a window, where what is left of it after a prefix are its own bytes. A text with no
-- bytes of its own has none left.
pub record IsWindowPlace (bytes : List ℕ) (w : Window) (x : List ℕ) (p : Place) : Type 0 where
  pub front : p.front ≤ length x
  pub text : text_by (text_mark_of p.mark) (memory_in bytes w) (drop p.front x) ≡ x
  pub none : own_by (text_mark_of p.mark) ≡ 0 → p.front ≡ length x
