use Rattle.std.proofs.Common.{◌≡◌, ◌<◌, ℕ, List, ◌++◌, drop}
use Rattle.gs_transfer.specs.Limits.{max_trailer_bytes}
use Rattle.gs_transfer.specs.States.{Trailer}
use Rattle.gs_transfer.specs.Cuts.{cut_from}
use Rattle.gs_transfer.specs.Trailers.{trailer_line_at}
use Rattle.gs_transfer.proofs.trailers.pass_trailer.Given as goal

abbrev pub invariant-loop-i : goal.invariant-loop-i
invariant-loop-i l = record {
  room : l.count < max_trailer_bytes;
  goes_on : (limit : ℕ) (y : List ℕ) → cut_from limit (Trailer (trailer_line_at l.fn.start) l.fn.before) (l.bytes ++ y) ≡ cut_from limit (Trailer (trailer_line_at l.line) l.count) (drop l.i l.bytes ++ y);
}
