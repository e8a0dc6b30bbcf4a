use Rattle.std.proofs.Common.{◌≡◌, ◌-◌, ◌≤◌, length, drop}
use Rattle.gs_model.specs.Iris.{is_scheme_rest}
use Rattle.gs_ntterm.proofs.wholes.has_scheme.Given as goal

abbrev pub invariant-loop-i : goal.invariant-loop-i
invariant-loop-i l = record { within : l.i ≤ length l.iri; same : is_scheme_rest (drop 1 l.iri) ≡ is_scheme_rest (drop l.i l.iri) }

abbrev pub decreases-loop-i : goal.decreases-loop-i
decreases-loop-i l = length l.iri - l.i
