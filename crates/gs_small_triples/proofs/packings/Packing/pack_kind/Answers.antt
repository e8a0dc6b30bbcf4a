use Rattle.std.proofs.Common.{below_more}
use Rattle.gs_small_triples.proofs.packings.Packing.pack_kind.Goals as goal

pub loop-number-preserved : goal.loop-number-preserved
loop-number-preserved c = record {
  noted = c.pack_if.ensures.noted;
  placed = below_more _ _ (λ k below kind. c.pack_if.ensures.stay k (c.loop-number.invariant.placed k below kind)) c.in_ok-pack_if.ensures.placed;
  stay = λ k there. c.pack_if.ensures.stay k (c.loop-number.invariant.stay k there);
}
