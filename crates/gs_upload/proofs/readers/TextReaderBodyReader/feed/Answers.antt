use Rattle.gs_upload.proofs.WrappingLemmas.{ntriples_feeds, ntriples_faults, turtle_feeds, turtle_faults}
use Rattle.gs_upload.proofs.readers.TextReaderBodyReader.feed.Goals as goal

pub returns-in-NTriples-clause-given : goal.returns-in-NTriples-clause-given
returns-in-NTriples-clause-given c =
    let fed = c.feed in
    let lent = c.deref_mut in
    ntriples_feeds fed.result c.args.self.now c.in-NTriples.reader lent.result.now fed.new.self c.args.piece.now c.args.triples.now.items _ c.in-NTriples.is lent.ensures.value fed.ensures.given

pub returns-in-NTriples-clause-fault : goal.returns-in-NTriples-clause-fault
returns-in-NTriples-clause-fault c =
    let lent = c.deref_mut in
    ntriples_faults c.feed.result c.args.self.now c.in-NTriples.reader lent.result.now c.args.piece.now c.in-NTriples.is lent.ensures.value c.feed.ensures.fault

pub returns-in-Turtle-clause-given : goal.returns-in-Turtle-clause-given
returns-in-Turtle-clause-given c =
    let fed = c.feed-in-Turtle in
    let lent = c.deref_mut-in-Turtle in
    turtle_feeds fed.result c.args.self.now c.in-Turtle.reader lent.result.now fed.new.self c.args.piece.now c.args.triples.now.items _ c.in-Turtle.is lent.ensures.value fed.ensures.given

pub returns-in-Turtle-clause-fault : goal.returns-in-Turtle-clause-fault
returns-in-Turtle-clause-fault c =
    let lent = c.deref_mut-in-Turtle in
    turtle_faults c.feed-in-Turtle.result c.args.self.now c.in-Turtle.reader lent.result.now c.args.piece.now c.in-Turtle.is lent.ensures.value c.feed-in-Turtle.ensures.fault
