use Rattle.gs_index.proofs.AgeLemmas.{texts_same}
use Rattle.gs_index.proofs.ages.is_same.Goals as goal

pub returns : goal.returns
returns c = rw (c.eq.ensures, c.text_of.ensures, c.text_of-2.ensures) (texts_same c.args.a.now c.args.b.now)
