use Rattle.gs_changes_tests.proofs.ReadyLemmas.{made_draft}
use Rattle.gs_changes_tests.proofs.commits.change.Goals as goal

pub take_back-requires : goal.take_back-requires
take_back-requires c =
    let half = c.in-Err.ensures.half in
    made_draft c.args.pool.now c.add_keys.new.pool c.remove_all.new.pool c.args.roots c.in_ok-more.more.root c.in-Err.half.root c.in_ok-more.more.added half.0 c.requires.ready c.in_ok-more.ensures.ok half.1

pub returns-in-Ok : goal.returns-in-Ok
returns-in-Ok c = made_draft c.args.pool.now c.add_keys.new.pool c.remove_all.new.pool c.args.roots c.in_ok-more.more.root c.in-Ok.less.root c.in_ok-more.more.added c.in-Ok.less.removed c.requires.ready c.in_ok-more.ensures.ok c.in-Ok.ensures.ok
