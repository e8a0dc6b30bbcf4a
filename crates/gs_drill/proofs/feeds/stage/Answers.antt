use Rattle.gs_drill.specs.Standing.{desk_of}
use Rattle.gs_commands.proofs.WordLemmas.{filled, emptied}
use Rattle.gs_drill.proofs.FeedLemmas.{stages_none, stages_some}
use Rattle.gs_drill.proofs.feeds.stage.Goals as goal

pub returns-then-is_empty-clause-does : goal.returns-then-is_empty-clause-does
returns-then-is_empty-clause-does c = λ st. (st, stages_none (desk_of st) c.args.seat c.args.given.items (emptied c.args.given.items c.is_empty.result c.is_empty.ensures c.if-is_empty.true))

pub returns-clause-does : goal.returns-clause-does
returns-clause-does c = λ st.
    let en = c.answer.ensures.does st in
    (en.0, stages_some (desk_of st) (desk_of en.0) c.args.seat c.args.given c.answer.result (filled c.args.given.items c.is_empty.result c.is_empty.ensures c.if-is_empty.false) en.1)
