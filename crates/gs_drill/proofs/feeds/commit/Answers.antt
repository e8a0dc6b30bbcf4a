use Rattle.std.proofs.Common.{ap, option_map}
use Rattle.gs_triple_lists.specs.Lists.{Listed}
use Rattle.gs_drill.specs.Printing.{reply_text}
use Rattle.gs_drill.proofs.FeedLemmas.{commits, ends_by}
use Rattle.gs_drill.proofs.feeds.commit.Goals as goal

pub returns-in-Some-clause-does : goal.returns-in-Some-clause-does
returns-in-Some-clause-does c =
    let some = ap (option_map (λ (l : Listed). l.items)) c.in-Some.is in
    commits c.args.store.now c.complete.new.store c.args.uploads.now c.finish.new.self c.complete.new.uploads c.args.seat _ (reply_text c.complete.result)
    c.in_ok-given.ensures.openings c.finish.ensures.patches c.in_ok-given.ensures.even (ends_by c.args.uploads.now.texts.items c.finish.new.self.texts.items c.args.seat _ _ some c.in_ok-given.ensures.given) c.complete.ensures.does

pub returns-in-None-clause-does : goal.returns-in-None-clause-does
returns-in-None-clause-does c =
    let none = ap (option_map (λ (l : Listed). l.items)) c.in-None.is in
    commits c.args.store.now c.give_up.new.store c.args.uploads.now c.finish.new.self c.give_up.new.uploads c.args.seat _ (reply_text c.give_up.result)
    c.in_ok-given.ensures.openings c.finish.ensures.patches c.in_ok-given.ensures.even (ends_by c.args.uploads.now.texts.items c.finish.new.self.texts.items c.args.seat _ _ none c.in_ok-given.ensures.given) c.give_up.ensures.does
