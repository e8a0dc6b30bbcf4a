use Rattle.std.proofs.Common.{refl, arith}
use Rattle.gs_dict.proofs.EntryLemmas.{relinked, agree_set}
use Rattle.gs_dict.proofs.chains.relink.Goals as goal

pub loop-i-preserved : goal.loop-i-preserved
loop-i-preserved c = record {
  linked = relinked _ _ _ _ c.bucket-b.ensures.value (omega arith) (omega arith) c.loop-i.invariant.linked;
  kept = agree_set _ _ _ _ c.loop-i.invariant.kept (omega arith) refl refl;
}
