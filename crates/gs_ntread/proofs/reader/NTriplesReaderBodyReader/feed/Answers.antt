use Rattle.gs_ntread.proofs.Histories.{feeds, faults}
use Rattle.gs_ntread.proofs.reader.NTriplesReaderBodyReader.feed.Goals as goal

pub returns-in-Ok-clause-given : goal.returns-in-Ok-clause-given
returns-in-Ok-clause-given c = feeds c.args.self.now c.take_piece.new.self c.args.piece.now c.args.triples.now.items c.take_piece.new.triples.items c.in-Ok.ensures.ok c.in-Ok.ensures.unbroken

pub returns-in-Err-clause-fault : goal.returns-in-Err-clause-fault
returns-in-Err-clause-fault c = λ x ts l y. faults c.in-Err.refusal c.args.self.now c.args.piece.now c.in-Err.ensures.fault x ts l y
