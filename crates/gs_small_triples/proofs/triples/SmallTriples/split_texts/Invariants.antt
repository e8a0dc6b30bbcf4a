use Rattle.std.proofs.Common.{◌≡◌, ◌++◌, length, map}
use Rattle.gs_packed_texts.specs.Texts.{left_of, split_bytes}
use Rattle.gs_packed_texts.specs.Closed.{closed_texts}
use Rattle.gs_small_triples.proofs.triples.SmallTriples.split_texts.Given as goal

abbrev pub invariant-loop-text : goal.invariant-loop-text
invariant-loop-text l = map split_bytes l.texts.items ++ left_of l.left ≡ closed_texts l.self.texts

abbrev pub decreases-loop-text : goal.decreases-loop-text
decreases-loop-text l = length (left_of l.left)
