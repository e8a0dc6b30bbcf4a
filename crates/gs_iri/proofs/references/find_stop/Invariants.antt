-- none of the bytes so far is one of the stops
use Rattle.std.proofs.Common.{◌≡◌, ℕ, ◌<◌, false, get_or}
use Rattle.gs_iri.specs.References.{is_one_of}
use Rattle.gs_iri.proofs.references.find_stop.Given as goal

abbrev pub invariant-loop-i : goal.invariant-loop-i
invariant-loop-i l = (k : ℕ) → k < l.i → is_one_of l.stops (get_or l.bytes k 0) ≡ false
