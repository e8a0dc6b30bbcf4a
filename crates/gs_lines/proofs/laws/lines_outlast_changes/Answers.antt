use Rattle.gs_lines.proofs.PieceLemmas.{lines_outlast}
use Rattle.gs_lines.proofs.laws.lines_outlast_changes.Goals as goal

pub returns : goal.returns
returns c = lines_outlast
