-- what was found stands for the terms that were gone through, with room for the rest
use Rattle.std.proofs.Common.{◌≡◌, ◌<◌, ◌≤◌, ℕ, length, vec_len, vec_capacity}
use Rattle.gs_dict.specs.Numbering.{LooksUp}
use Rattle.gs_triple_lists.specs.Kept.{term_of_number}
use Rattle.gs_patch.specs.Known.{found_at}
use Rattle.gs_patch.proofs.known.find_all.Given as goal

abbrev pub invariant-loop-term : goal.invariant-loop-term
invariant-loop-term l = record {
  each : (n : ℕ) → n < l.term-index → LooksUp l.dict.terms (term_of_number l.terms n) (found_at l.ids.items n);
  count : vec_len l.ids ≡ l.term-index;
  room : length l.terms ≤ vec_capacity l.ids;
}
