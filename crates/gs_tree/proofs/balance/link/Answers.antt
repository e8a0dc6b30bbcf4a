use Rattle.std.proofs.Common.{rules}
use Rattle.gs_tree.proofs.balance.link.Goals as goal

pub returns : goal.returns
returns c = search rules
