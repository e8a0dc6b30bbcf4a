use Rattle.gs_quads.proofs.Lasting.{read_goes_on}
use Rattle.gs_quads.proofs.laws.quads_outlast_changes.Goals as goal

pub returns : goal.returns
returns c terms later keep p q v old new from al al_new graphs place same trees = read_goes_on terms later keep p q v old new al al_new graphs same trees from place
