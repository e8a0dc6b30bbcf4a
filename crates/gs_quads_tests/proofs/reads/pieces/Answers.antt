use Rattle.gs_quads_tests.proofs.Readable.{readable}
use Rattle.gs_quads_tests.proofs.reads.pieces.Goals as goal

pub push_pieces-requires-clause-graphs : goal.push_pieces-requires-clause-graphs
push_pieces-requires-clause-graphs c = readable c.args.dict.now.terms c.args.pool.now c.args.roots.now c.args.version c.args.records.now.records c.requires.trees (c.in_ok-is_readable.ensures c.if-not-is_readable.false)
