-- the default graph is found in the rows that were looked at
use Rattle.std.proofs.Common.{◌≡◌, take}
use Rattle.gs_plain.specs.Past.{dataset_at}
use Rattle.gs_plain.specs.Quads.{graph_if}
use Rattle.gs_plain.proofs.quads.default_at.Given as goal

abbrev pub invariant-loop-row : goal.invariant-loop-row
invariant-loop-row l = graph_if l.found ≡ (dataset_at l.version (take l.row-index l.rows)).unnamed
