use Rattle.gs_ntread.proofs.WalkLines.{read_is}
use Rattle.gs_ntread.proofs.laws.read_by_characters.Goals as goal

pub returns : goal.returns
returns c = read_is
