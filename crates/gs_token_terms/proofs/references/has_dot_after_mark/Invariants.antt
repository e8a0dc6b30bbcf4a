-- what is seen and what is left decide together as the whole does
use Rattle.std.proofs.Common.{◌≡◌, false, drop, ◌||◌, ◌==◌}
use Rattle.gs_token_terms.specs.References.{has_dot_after}
use Rattle.gs_token_terms.proofs.references.has_dot_after_mark.Given as goal

abbrev pub invariant-loop-b : goal.invariant-loop-b
invariant-loop-b l = (l.has || has_dot_after (l.before == 47 || l.before == 58) (drop l.b-index l.bytes)) ≡ has_dot_after false l.bytes
