use Rattle.std.proofs.Common.{rules, sym, ◌∙◌}
use Rattle.gs_pass.proofs.CellLemmas.{gives}
use Rattle.gs_pass.proofs.stamp_logs.StampLog.issue.Goals as goal

pub split_pass-token-requires : goal.split_pass-token-requires
split_pass-token-requires g c = (search rules, (search rules, (c.args.self.now.table ∙ sym c.requires.cell, gives _ _)))
