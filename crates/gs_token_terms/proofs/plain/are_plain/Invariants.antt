-- what is seen and what is left decide together as the whole does
use Rattle.std.proofs.Common.{◌≡◌, drop, ◌&&◌}
use Rattle.std.specs.List.{list_all}
use Rattle.gs_token_terms.specs.Plain.{is_plain_in}
use Rattle.gs_token_terms.proofs.plain.are_plain.Given as goal

abbrev pub invariant-loop-b : goal.invariant-loop-b
invariant-loop-b l = (l.are && list_all (is_plain_in l.quote) (drop l.b-index l.bytes)) ≡ list_all (is_plain_in l.quote) l.bytes
