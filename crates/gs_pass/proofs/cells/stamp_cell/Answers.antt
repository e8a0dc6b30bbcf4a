use Rattle.std.proofs.Common.{rules, [], ◌∷◌}
use Rattle.gs_pass.proofs.CellLemmas.{begins}
use Rattle.gs_pass.proofs.cells.stamp_cell.Goals as goal

pub ruled-requires : goal.ruled-requires
ruled-requires c = (search rules, (search rules, begins (0 ∷ 0 ∷ 0 ∷ 0 ∷ [])))
