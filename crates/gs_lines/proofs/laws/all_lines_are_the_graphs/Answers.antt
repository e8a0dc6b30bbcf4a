use Rattle.gs_lines.proofs.PieceLemmas.{all_lines}
use Rattle.gs_lines.proofs.laws.all_lines_are_the_graphs.Goals as goal

pub returns : goal.returns
returns c = all_lines
