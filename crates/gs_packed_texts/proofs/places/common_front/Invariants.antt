-- Both begin with the same bytes, as far as the loop has come.
use Rattle.std.proofs.Common.{◌≡◌, take}
use Rattle.gs_packed_texts.proofs.places.common_front.Given as goal

abbrev pub invariant-loop-count : goal.invariant-loop-count
invariant-loop-count l = take l.count l.anchor ≡ take l.count l.text
