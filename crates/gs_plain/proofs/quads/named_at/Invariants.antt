-- the graphs with names are found in the rows that were looked at
use Rattle.std.proofs.Common.{take}
use Rattle.gs_plain.specs.Past.{dataset_at}
use Rattle.gs_plain.specs.Quads.{HasNamed}
use Rattle.gs_plain.proofs.quads.named_at.Given as goal

abbrev pub invariant-loop-row : goal.invariant-loop-row
invariant-loop-row l = HasNamed l.found (dataset_at l.version (take l.row-index l.rows))
