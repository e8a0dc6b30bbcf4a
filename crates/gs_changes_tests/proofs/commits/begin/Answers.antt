use Rattle.gs_changes_tests.proofs.ReadyLemmas.{made_ready}
use Rattle.gs_changes_tests.proofs.commits.begin.Goals as goal

pub returns : goal.returns
returns c = made_ready c.args.pool.now c.union.new.pool c.union-2.new.pool c.args.other.now c.args.set.now c.in_ok-theirs.theirs c.in_ok-ours.ours c.requires.none_aside c.in_ok-theirs.ensures.ok c.in_ok-ours.ensures.ok
