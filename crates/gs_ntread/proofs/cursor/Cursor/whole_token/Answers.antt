use Rattle.std.proofs.Common.{arith}
use Rattle.gs_ntread.specs.Runs.{stays}
use Rattle.gs_ntread.proofs.cursor.Cursor.whole_token.Goals as goal

pub returns-in_default : goal.returns-in_default
returns-in_default c = record { bound = omega arith; run = stays _ }
