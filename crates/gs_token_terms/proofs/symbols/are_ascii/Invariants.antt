-- what is seen and what is left decide together as the whole does
use Rattle.std.proofs.Common.{◌≡◌, drop, ◌&&◌}
use Rattle.std.specs.Char.{is_ascii}
use Rattle.std.specs.List.{list_all}
use Rattle.gs_token_terms.proofs.symbols.are_ascii.Given as goal

abbrev pub invariant-loop-b : goal.invariant-loop-b
invariant-loop-b l = (l.are && list_all is_ascii (drop l.b-index l.bytes)) ≡ list_all is_ascii l.bytes
