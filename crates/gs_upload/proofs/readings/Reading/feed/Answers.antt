use Rattle.std.proofs.Common.{sym, ◌∙◌, refl}
use Rattle.gs_upload.proofs.ReadingLemmas.{no_fault, drops_piece, takes_piece}
use Rattle.gs_upload.proofs.readings.Reading.feed.Goals as goal

pub returns-then-is_some-clause-given : goal.returns-then-is_some-clause-given
returns-then-is_some-clause-given g c =
    let b = g.R.BodyReader in
    drops_piece b.meaning_of b.Leads b.is_closed c.args.self.now c.args.piece.now c.args.triples.now.items (sym c.is_some.ensures ∙ c.if-is_some.true)

pub returns-clause-given : goal.returns-clause-given
returns-clause-given g c =
    let b = g.R.BodyReader in
    let none = no_fault c.args.self.now.fault (sym c.is_some.ensures ∙ c.if-is_some.false) in
    let fed = c.feed.ensures in
    takes_piece b.meaning_of b.Leads b.is_closed c.feed.result c.in_ok-self.field-0 c.args.self.now (record { reader = c.feed.new.self; fault = c.in_ok-self.field-0 }) c.args.piece.now
    c.args.triples.now.items c.feed.new.triples.items none refl c.in_ok-self.ensures.fault fed.given fed.open_still fed.reading fed.kept fed.fault
