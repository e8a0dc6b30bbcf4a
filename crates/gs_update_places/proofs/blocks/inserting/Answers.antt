use Rattle.std.proofs.Common.{refl, ap, ◌∙◌}
use Rattle.std.specs.Prelude.{Some}
use Rattle.gs_blank.specs.Numbers.{Numbers}
use Rattle.gs_update_places.proofs.StartLemmas.{inserting_starts}
use Rattle.gs_update_places.proofs.blocks.inserting.Goals as goal

pub returns : goal.returns
returns c = inserting_starts c.args.scope _ (record {
  context = c.within-parser.ensures.context;
  numbers = c.within-parser.ensures.numbers;
  triples = c.no_triples.ensures;
  within = refl;
  since = ap Some (c.last_number.ensures ∙ ap (λ (z : Numbers). z.1) c.within-parser.ensures.numbers);
  most = refl;
})
