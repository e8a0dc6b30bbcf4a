use Rattle.std.proofs.Common.{refl}
use Rattle.gs_update_places.proofs.StartLemmas.{deleting_starts}
use Rattle.gs_update_places.proofs.blocks.deleting.Goals as goal

pub returns : goal.returns
returns c = deleting_starts c.args.scope _ (record {
  context = c.within.ensures.context;
  numbers = c.within.ensures.numbers;
  triples = c.no_triples.ensures;
  within = refl;
  since = refl;
  most = refl;
})
