-- the texts so far are moved, and their entries are spared
use Rattle.gs_dict.specs.Compaction.{MovesTexts, AreSpared}
use Rattle.gs_dict.proofs.compaction.move_texts.Given as goal

abbrev pub invariant-loop-number : goal.invariant-loop-number
invariant-loop-number l = record {
  moved : MovesTexts l.initial.texts l.initial.entries l.texts l.entries;
  spared : AreSpared l.gone l.entries l.number;
}
