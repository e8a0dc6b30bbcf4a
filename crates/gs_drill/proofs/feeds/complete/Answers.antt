use Rattle.gs_drill.proofs.FeedLemmas.{completes, completes_not}
use Rattle.gs_drill.proofs.feeds.complete.Goals as goal

pub returns-in-Staged-clause-does : goal.returns-in-Staged-clause-does
returns-in-Staged-clause-does c =
    completes c.args.store.now c.stage.new.store c.answer.new.store c.args.uploads.now c.stage.new.uploads c.answer.new.uploads c.args.seat c.args.given.items c.stage.result c.answer.result
    c.in-Staged.is c.stage.ensures.does c.answer.ensures.does

pub returns-in_default : goal.returns-in_default
returns-in_default c = record {
  does = completes_not c.args.store.now c.stage.new.store c.args.uploads.now c.stage.new.uploads c.args.seat c.args.given.items c.stage.result c.in_default.not-Staged c.stage.ensures.does;
  cut = c.stage.ensures.cut;
}
