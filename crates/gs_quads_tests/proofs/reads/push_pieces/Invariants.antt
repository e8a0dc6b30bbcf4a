-- the next piece begins at a place of the version
use Rattle.gs_quads.specs.Pieces.{IsQuadPlace}
use Rattle.gs_quads_tests.proofs.reads.push_pieces.Given as goal

abbrev pub invariant-pieces : goal.invariant-pieces
invariant-pieces l = IsQuadPlace l.dict.terms l.version l.records.records l.from
