use Rattle.std.proofs.Common.{arith}
use Rattle.gs_commit.proofs.CommitLemmas.{dropped}
use Rattle.gs_commit.proofs.commits.drop_tree.Goals as goal

pub returns-clause-ledgers : goal.returns-clause-ledgers
returns-clause-ledgers c = dropped c.args.pool.now c.retire_root.new.pool c.args.root _ c.requires c.retire_root.ensures.retires (omega arith)
