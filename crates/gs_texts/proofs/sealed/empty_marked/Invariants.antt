-- each marked block that was passed is without bytes, and only marked ones are
use Rattle.std.proofs.Common.{map}
use Rattle.std.specs.Arc.{arc_value}
use Rattle.gs_texts.specs.Releasing.{EmptiesMarked, AreEmptied}
use Rattle.gs_texts.proofs.sealed.empty_marked.Given as goal

abbrev pub invariant-loop-i : goal.invariant-loop-i
invariant-loop-i l = record {
  kept : EmptiesMarked l.gone (map arc_value l.initial.blocks) (map arc_value l.blocks);
  done : AreEmptied l.gone (map arc_value l.blocks) l.i;
}
