use Rattle.std.proofs.Common.{◌≡◌, take}
use Rattle.gs_small_triples.specs.Small.{small_triples}
use Rattle.gs_small_triples.proofs.triples.SmallTriples.to_vec.Given as goal

abbrev pub invariant-loop-place : goal.invariant-loop-place
invariant-loop-place l = l.triples.items ≡ take l.place (small_triples l.self)
