-- the keys are those of the triples that were gone through
use Rattle.std.proofs.Common.{take}
use Rattle.gs_patch.specs.Known.{AreKnown}
use Rattle.gs_patch.proofs.known.known_keys.Given as goal

abbrev pub invariant-loop-three : goal.invariant-loop-three
invariant-loop-three l = AreKnown l.dict.terms (take l.three-index l.fn.triples.items) l.keys.items
