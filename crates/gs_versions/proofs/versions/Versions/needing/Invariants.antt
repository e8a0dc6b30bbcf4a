use Rattle.std.proofs.Common.{◌≡◌, ℕ, ◌<◌, Some}
use Rattle.std.specs.List.{slice_get}
use Rattle.gs_versions.specs.Pins.{LiesIn}
use Rattle.gs_versions.proofs.versions.Versions.needing.Given as goal

abbrev pub invariant-loop-seat : goal.invariant-loop-seat
invariant-loop-seat l = (k v : ℕ) → k < l.seat → slice_get l.self.seats k ≡ Some (Some v) → LiesIn v l.birth l.death → ⊥
