use Rattle.gs_turtle.proofs.PieceLemmas.{feeds}
use Rattle.gs_turtle.proofs.readers.TurtleReaderBodyReader.feed.Goals as goal

pub returns-in-Ok-clause-given : goal.returns-in-Ok-clause-given
returns-in-Ok-clause-given c = feeds c.args.self.now c.take_piece.new.self c.args.piece.now c.args.triples.now.items c.take_piece.new.triples.items c.in-Ok.ensures.ok c.in-Ok.ensures.kept
