use Rattle.std.proofs.Common.{◌∷◌, [], ◌++◌, ◌≤◌, ◌<◌, length, sym, arith, subst, List}
use Rattle.std.proofs.lemmas.Result.{on_err_weaker, on_ok_weaker}
use Rattle.gs_model.specs.Triples.{RdfTriple}
use Rattle.gs_machine.specs.Machines.{Begins}
use Rattle.gs_upload.specs.Readings.{IsClosedReading}
use Rattle.gs_upload.proofs.ReadingLemmas.{FeedsEach-more, any_err, each_grows}
use Rattle.gs_upload.proofs.CuttingLemmas.{cutting-more, cutting-last}
use Rattle.gs_upload.proofs.readings.Reading.feed_each.Goals as goal
use Rattle.gs_upload.proofs.readings.Reading.feed_each.Goals.{then-loop-rest-test+else-length-rest, else-loop-rest-test}

pub returns-in_err-feed-clause-kept : goal.returns-in_err-feed-clause-kept
returns-in_err-feed-clause-kept g c =
    let b = g.R.BodyReader in
    let i = c.loop-rest.invariant in
    let P : List RdfTriple → Type 0 = λ ts. Begins ts c.args.triples.now.items in
    any_err c.from_residual.result _ (subst P (sym c.in_err-feed.ensures.kept) (each_grows b.meaning_of b.Leads b.is_closed i.0 c.args.self.now c.loop-rest.self c.args.triples.now.items c.loop-rest.triples.items i.2))

pub loop-rest-preserved : goal.loop-rest-preserved
loop-rest-preserved g c =
    let b = g.R.BodyReader in
    let i = c.loop-rest.invariant in
    let piece = c.split_at.result.0.now in (
      i.0 ++ piece ∷ [],
      cutting-more c.args.length c.args.text.now c.loop-rest.rest.now piece c.split_at.result.1.now i.0 i.1 (omega arith) (omega arith) c.split_at.ensures.front c.split_at.ensures.back,
      FeedsEach-more b.meaning_of b.Leads b.is_closed i.0 c.args.self.now c.loop-rest.self c.feed.new.self piece c.args.triples.now.items c.loop-rest.triples.items c.feed.new.triples.items i.2 c.in_ok-feed.ensures.given,
      (λ h. Prim.cc (c.in_ok-feed.ensures.closed (subst (λ k. IsClosedReading b.is_closed k) (sym (i.3 h)) h))),
    )

pub returns-clause-pieces : goal.returns-clause-pieces
returns-clause-pieces g c =
    let b = g.R.BodyReader in
    let i = c.loop-rest.invariant in
    let rest = c.loop-rest.rest.now in
    let short : 0 < c.args.length → length rest ≤ c.args.length =
    λ some. elim c.loop-rest-test.branch [ then-loop-rest-test+else-length-rest w ↦ omega arith | else-loop-rest-test w ↦ omega arith ] in
    on_ok_weaker c.feed-2.result
    (λ fed. (
      i.0 ++ rest ∷ [],
      cutting-last c.args.length c.args.text.now rest i.0 i.1 short,
      FeedsEach-more b.meaning_of b.Leads b.is_closed i.0 c.args.self.now c.loop-rest.self c.feed-2.new.self rest c.args.triples.now.items c.loop-rest.triples.items c.feed-2.new.triples.items i.2 fed,
    )) c.feed-2.ensures.given

pub returns-clause-kept : goal.returns-clause-kept
returns-clause-kept g c =
    let b = g.R.BodyReader in
    let i = c.loop-rest.invariant in
    let P : List RdfTriple → Type 0 = λ ts. Begins ts c.args.triples.now.items in
    on_err_weaker c.feed-2.result (λ same. subst P (sym same) (each_grows b.meaning_of b.Leads b.is_closed i.0 c.args.self.now c.loop-rest.self c.args.triples.now.items c.loop-rest.triples.items i.2)) c.feed-2.ensures.kept

pub returns-clause-closed : goal.returns-clause-closed
returns-clause-closed g c h =
    let b = g.R.BodyReader in
    c.feed-2.ensures.closed (subst (λ k. IsClosedReading b.is_closed k) (sym (c.loop-rest.invariant.3 h)) h)
