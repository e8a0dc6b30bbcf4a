use Rattle.gs_quads.proofs.Joined.{pieces_joined}
use Rattle.gs_quads.proofs.laws.pieces_are_all_lines.Goals as goal

pub returns : goal.returns
returns c = pieces_joined
