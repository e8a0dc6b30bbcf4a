use Rattle.std.proofs.Common.{refl}
use Rattle.gs_update_places.proofs.StartLemmas.{seeking_starts}
use Rattle.gs_update_places.proofs.blocks.seeking.Goals as goal

pub returns : goal.returns
returns c = seeking_starts c.args.scope _ (record {
  context = c.within.ensures.context;
  numbers = c.within.ensures.numbers;
  triples = c.no_triples.ensures;
  within = refl;
  since = refl;
  most = refl;
})
