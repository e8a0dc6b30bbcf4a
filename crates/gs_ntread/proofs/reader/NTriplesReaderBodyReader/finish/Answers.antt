use Rattle.gs_ntread.proofs.Histories.{finishes, faults-end}
use Rattle.gs_ntread.proofs.reader.NTriplesReaderBodyReader.finish.Goals as goal

pub returns-in-Ok-clause-given : goal.returns-in-Ok-clause-given
returns-in-Ok-clause-given c = finishes c.args.self.now c.args.triples.now.items c.take_end-ended.new.triples.items c.in-Ok.ensures.ok

pub returns-in-Err-clause-fault : goal.returns-in-Err-clause-fault
returns-in-Err-clause-fault c = λ x ts l. faults-end c.in-Err.refusal c.args.self.now c.in-Err.ensures.fault x ts l
