use Rattle.std.proofs.Common.{sym, ◌∙◌}
use Rattle.gs_stream.proofs.HeadLemmas.{rest-found, rest-more, rest-none}
use Rattle.gs_stream.proofs.heads.find_empty_line.Goals as goal

pub returns-in-Some-empty_line : goal.returns-in-Some-empty_line
returns-in-Some-empty_line c =
    let i = c.loop-place.invariant in
    rest-found c.args.front.now c.loop-place.from c.in-Some.place c.in-Some-empty_line.size i.within i.same c.in-Some.ensures c.in-Some-empty_line.ensures

pub loop-place-preserved : goal.loop-place-preserved
loop-place-preserved c =
    let i = c.loop-place.invariant in
    let f = rest-more c.args.front.now c.loop-place.from c.in-Some.place i.within i.same c.in-Some.ensures (sym c.in_default-empty_line.is ∙ c.empty_line.ensures) in
    record { within = f.0; same = f.1 }

pub returns : goal.returns
returns c = rest-none c.args.front.now c.loop-place.from c.loop-place.invariant.same (sym c.in_default.is ∙ c.first_line_feed.ensures)
