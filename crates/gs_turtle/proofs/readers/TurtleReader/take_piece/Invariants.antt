use Rattle.std.proofs.Common.{length}
use Rattle.gs_turtle.proofs.PieceLemmas.{Walks}
use Rattle.gs_turtle.proofs.readers.TurtleReader.take_piece.Given as goal

abbrev pub invariant-loop-rest : goal.invariant-loop-rest
invariant-loop-rest l = Walks l.fn.self l.self l.piece l.rest l.fn.triples.items l.triples.items

abbrev pub decreases-loop-rest : goal.decreases-loop-rest
decreases-loop-rest l = length l.rest
