use Rattle.gs_upload.proofs.ReadingLemmas.{ends_kept}
use Rattle.gs_upload.proofs.readings.Reading.finish.Goals as goal

pub returns-in-Some-clause-ended : goal.returns-in-Some-clause-ended
returns-in-Some-clause-ended g c =
    let b = g.R.BodyReader in
    ends_kept b.meaning_of b.Leads b.is_closed c.args.self c.in-Some.fault c.args.triples.now.items c.in-Some.is
