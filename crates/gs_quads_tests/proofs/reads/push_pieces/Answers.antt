use Rattle.gs_quads_tests.proofs.reads.push_pieces.Goals as goal

pub pieces-preserved : goal.pieces-preserved
pieces-preserved c = c.in_ok-piece.ensures.last_given
