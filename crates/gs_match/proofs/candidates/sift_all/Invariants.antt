-- those of the keys that were gone through are appended
use Rattle.std.proofs.Common.{take}
use Rattle.gs_match.specs.Candidates.{Sifts}
use Rattle.gs_match.proofs.candidates.sift_all.Given as goal

abbrev pub invariant-loop-key : goal.invariant-loop-key
invariant-loop-key l = Sifts l.fn.bound.items l.bound.items l.sought (take l.key-index l.keys) l.fn.to.items l.to.items
