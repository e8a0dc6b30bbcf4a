use Rattle.std.proofs.Common.{arith}
use Rattle.gs_commit.proofs.CommitLemmas.{handed_over}
use Rattle.gs_commit.proofs.commits.end_tree.Goals as goal

pub returns-clause-ledgers : goal.returns-clause-ledgers
returns-clause-ledgers c = handed_over c.args.versions.now c.advance.new.self c.args.pool.now c.retire_root.new.pool c.args.root _ c.requires.root c.retire_root.ensures.retires (omega (arith, c.commit-death.ensures)) c.advance.ensures
