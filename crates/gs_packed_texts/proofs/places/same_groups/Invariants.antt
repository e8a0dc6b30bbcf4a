-- Both begin with the same groups, as far as the loop has come.
use Rattle.std.proofs.Common.{◌≡◌, ◌*◌, take}
use Rattle.gs_packed_texts.proofs.places.same_groups.Given as goal

abbrev pub invariant-loop-group : goal.invariant-loop-group
invariant-loop-group l = take (8 * l.group) l.a ≡ take (8 * l.group) l.b
