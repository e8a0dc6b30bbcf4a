-- What is said of the bytes of a trailer section.
use Rattle.std.specs.Prelude.{◌≡◌, ◌+◌, ◌≤◌, ◌<◌, ℕ, List, ◌++◌, length, drop, Option, Some, None}
use Rattle.gs_transfer.specs.Limits.{max_trailer_bytes}
use Rattle.gs_transfer.specs.States.{TrailerPlace, Trailer, Over, Passes, trailer_byte, trailer_goes}
use Rattle.gs_transfer.specs.States as state
use Rattle.gs_transfer.specs.Cuts.{Faulty, Whole, ends, cut_from}
use Rattle.gs_transfer.specs.declared.trailers.Line.{Line}
use Rattle.gs_transfer.specs.declared.trailers.Line.TheVariants as line
use Rattle.gs_transfer.specs.declared.trailers.Trailing.{Trailing}
use Rattle.gs_transfer.specs.declared.trailers.Trailing.TheVariants.{Ends, Long, GoesOn}

-- a place in a trailer section
abbrev pub trailer_line_at : Line → TrailerPlace
trailer_line_at line.Start = state.Start
trailer_line_at line.StartCr = state.StartCr
trailer_line_at line.Inside = state.Inside
trailer_line_at line.InsideCr = state.InsideCr

-- one byte ends the body, or leaves the section there, after one byte more
abbrev pub IsLineAfter : Line → ℕ → Option Line → Type 0
IsLineAfter at c None = (count : ℕ) → trailer_byte (trailer_line_at at) count c ≡ Passes Over
IsLineAfter at c (Some after) = (count : ℕ) → trailer_byte (trailer_line_at at) count c ≡ trailer_goes (trailer_line_at after) (count + 1)

-- Bytes of a section, however the text goes on: the body ends after so many; there are too many; or the section goes on.
abbrev pub IsTrailing : Line → ℕ → List ℕ → Trailing → Type 0
IsTrailing at count x (Ends n) = (0 < n) × (n ≤ length x) × ((limit : ℕ) (y : List ℕ) → cut_from limit (Trailer (trailer_line_at at) count) (x ++ y) ≡ ends (Whole (drop n x ++ y)))
IsTrailing at count x Long = (limit : ℕ) (y : List ℕ) → cut_from limit (Trailer (trailer_line_at at) count) (x ++ y) ≡ ends (Faulty 400)
IsTrailing at count x (GoesOn after m) = (m < max_trailer_bytes) × ((limit : ℕ) (y : List ℕ) → cut_from limit (Trailer (trailer_line_at at) count) (x ++ y) ≡ cut_from limit (Trailer (trailer_line_at after) m) y)
