use Rattle.std.proofs.Common.{◌≡◌, take, false}
use Rattle.gs_versions.specs.Pins.{is_pinned}
use Rattle.gs_versions.proofs.versions.Versions.seat_of.Given as goal

abbrev pub invariant-loop-found : goal.invariant-loop-found
invariant-loop-found l = is_pinned (take l.found l.self.seats) l.version ≡ false
