use Rattle.std.proofs.Common.{◌≡◌}
use Rattle.gs_chronicle.specs.KeptLists.{all_triples}
use Rattle.gs_chronicle.proofs.uploads.move_all.Given as goal

abbrev pub invariant-loop-list : goal.invariant-loop-list
invariant-loop-list l = all_triples l.lists ≡ all_triples l.fn.lists
