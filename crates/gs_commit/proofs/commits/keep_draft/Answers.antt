use Rattle.std.proofs.Common.{arith}
use Rattle.gs_commit.proofs.CommitLemmas.{kept_draft}
use Rattle.gs_commit.proofs.commits.keep_draft.Goals as goal

pub returns-clause-ledgers : goal.returns-clause-ledgers
returns-clause-ledgers c = kept_draft c.args.versions.now c.advance.new.self c.args.pool.now c.retire_replaced.new.pool _ c.retire_replaced.ensures (omega (arith, c.commit-death.ensures)) c.advance.ensures
