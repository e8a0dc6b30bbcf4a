use Rattle.std.proofs.Common.{ℕ, subst}
use Rattle.gs_feeding.specs.SeatTexts.{FeedsText, first_context}
use Rattle.gs_drill.proofs.SeatLemmas.{text_fed}
use Rattle.gs_drill.proofs.uploads.Uploads.feed.Goals as goal

pub returns-clause-given : goal.returns-clause-given
returns-clause-given c = λ o there.
    let old = c.args.self.now.texts.items in
    let given = c.in_ok-fed.given.items in
    let P : ℕ → Type 0 = λ n. FeedsText n (first_context c.args.language o) c.take-held.result c.args.text.now given c.in_ok-fed.fed in
    let feeds = subst P c.take-held.ensures.cut (c.in_ok-fed.ensures o (rw c.take-held.ensures.openings there)) in
    text_fed c.args.self.now.cut old c.take-held.new.self.texts.items c.put.new.self.texts.items c.args.seat c.take-held.result c.in_ok-fed.fed (first_context c.args.language o) c.args.text.now given
    c.take-held.ensures.taken c.take-held.ensures.texts feeds c.put.ensures.texts
