-- what was found is such a list
use Rattle.std.proofs.Common.{MatchOption}
use Rattle.gs_match.specs.Seeds.{IsSeed}
use Rattle.gs_match.proofs.seeds.seed_for.Given as goal

abbrev pub invariant-loop-at : goal.invariant-loop-at
invariant-loop-at l = MatchOption l.seed (Unit {0}) (IsSeed l.lots l.name)
