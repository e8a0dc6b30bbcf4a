use Rattle.std.proofs.Common.{◌≡◌, length}
use Rattle.gs_small_triples.proofs.packings.predicates_of.Given as goal

abbrev pub invariant-loop-three : goal.invariant-loop-three
invariant-loop-three l = length l.is_predicate.items ≡ l.terms
