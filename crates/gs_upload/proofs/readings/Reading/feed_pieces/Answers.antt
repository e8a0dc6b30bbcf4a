use Rattle.gs_upload.proofs.ReadingLemmas.{feeds_pieces}
use Rattle.gs_upload.proofs.readings.Reading.feed_pieces.Goals as goal

pub returns-in-Ok-clause-given : goal.returns-in-Ok-clause-given
returns-in-Ok-clause-given g c =
    let b = g.R.BodyReader in
    let cut = c.in-Ok.ensures.pieces in
    feeds_pieces b.meaning_of b.Leads b.is_closed c.args.length cut.0 c.args.text.now c.args.self.now c.feed_each.new.self c.args.triples.now.items c.feed_each.new.triples.items cut.1 cut.2
