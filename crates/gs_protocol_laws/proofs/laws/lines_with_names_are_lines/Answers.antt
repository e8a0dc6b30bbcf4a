use Rattle.gs_protocol_laws.proofs.LineLemmas.{stands_in_line, lines_tell}
use Rattle.gs_protocol_laws.proofs.laws.lines_with_names_are_lines.Goals as goal

pub returns-clause-line : goal.returns-clause-line
returns-clause-line c = stands_in_line

pub returns-clause-tell : goal.returns-clause-tell
returns-clause-tell c = lines_tell
