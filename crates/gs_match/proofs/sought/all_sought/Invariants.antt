-- sought are the patterns that were gone through
use Rattle.std.proofs.Common.{◌≡◌, map, take}
use Rattle.gs_match.specs.Patterns.{pattern_of, AreGiven}
use Rattle.gs_match.proofs.sought.all_sought.Given as goal

abbrev pub invariant-loop-pattern : goal.invariant-loop-pattern
invariant-loop-pattern l = AreGiven l.dict.terms l.all.items × (map (pattern_of l.dict.terms) l.all.items ≡ take l.pattern-index l.patterns)
