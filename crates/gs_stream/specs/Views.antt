-- What the code finds of a head.
use Rattle.std.specs.Prelude.{ℕ, ◌≤◌, ◌<◌, List, length, take, drop, Option, Some, None}
use Rattle.gs_stream.specs.declared.heads.HeadEnd.{HeadEnd}
use Rattle.gs_stream.specs.declared.heads.HeadEnd.TheVariants as end
use Rattle.gs_stream.specs.Heads.{Parted, HeadCut, Open, TooLong, Whole}

-- how long the first part of a text is
abbrev pub part_size : Parted → Option ℕ
part_size None = None
part_size (Some p) = Some (length p.0)

-- the cut of a buffer that an end is
abbrev pub head_cut_by : List ℕ → HeadEnd → HeadCut
head_cut_by x end.Open = Open
head_cut_by x end.TooLong = TooLong
head_cut_by x (end.After n) = Whole (take n x) (drop n x)

-- the end lies in so many bytes, and not at their front
abbrev pub IsWithinBuffer : ℕ → HeadEnd → Type 0
IsWithinBuffer n (end.After m) = (m ≤ n) × (0 < m)
IsWithinBuffer n other = Unit {0}
