-- added are the keys that were gone through
use Rattle.std.proofs.Common.{take}
use Rattle.gs_match.specs.Found.{GainsKeys}
use Rattle.gs_match.proofs.found.Found.add_each.Given as goal

abbrev pub invariant-loop-key : goal.invariant-loop-key
invariant-loop-key l = GainsKeys l.order.dict.now.terms l.fn.self l.self (take l.key-index l.keys)
