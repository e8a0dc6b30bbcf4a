use Rattle.gs_upload.proofs.WrappingLemmas.{ntriples_finishes, ntriples_end_faults, turtle_finishes, turtle_end_faults}
use Rattle.gs_upload.proofs.readers.TextReaderBodyReader.finish.Goals as goal

pub returns-in-NTriples-clause-given : goal.returns-in-NTriples-clause-given
returns-in-NTriples-clause-given c =
    let lent = c.deref_mut in
    ntriples_finishes c.finish.result c.args.self.now c.in-NTriples.reader lent.result.now c.args.triples.now.items _ c.in-NTriples.is lent.ensures.value c.finish.ensures.given

pub returns-in-NTriples-clause-fault : goal.returns-in-NTriples-clause-fault
returns-in-NTriples-clause-fault c =
    let lent = c.deref_mut in
    ntriples_end_faults c.finish.result c.args.self.now c.in-NTriples.reader lent.result.now c.in-NTriples.is lent.ensures.value c.finish.ensures.fault

pub returns-in-Turtle-clause-given : goal.returns-in-Turtle-clause-given
returns-in-Turtle-clause-given c =
    let lent = c.deref_mut-in-Turtle in
    turtle_finishes c.finish-in-Turtle.result c.args.self.now c.in-Turtle.reader lent.result.now c.args.triples.now.items _ c.in-Turtle.is lent.ensures.value c.finish-in-Turtle.ensures.given

pub returns-in-Turtle-clause-fault : goal.returns-in-Turtle-clause-fault
returns-in-Turtle-clause-fault c =
    let lent = c.deref_mut-in-Turtle in
    turtle_end_faults c.finish-in-Turtle.result c.args.self.now c.in-Turtle.reader lent.result.now c.in-Turtle.is lent.ensures.value c.finish-in-Turtle.ensures.fault
