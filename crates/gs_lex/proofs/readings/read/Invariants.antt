use Rattle.std.proofs.Common.{◌+◌, ◌-◌, drop, length}
use Rattle.gs_lex.specs.Readings.{Went, GrowsByTokens, HasRead, IsWithin, bit}
use Rattle.gs_lex.proofs.readings.read.Given as goal

abbrev pub invariant-steps : goal.invariant-steps
invariant-steps l = record {
  within : IsWithin l.at l.text;
  went : HasRead l.is_end l.fn.from (drop l.fn.from.cut l.text) → Went l.is_end l.text l.fn.from l.at l.fn.tokens.items l.tokens.items;
  kept : GrowsByTokens l.fn.tokens.items l.tokens.items;
}

abbrev pub decreases-steps : goal.decreases-steps
decreases-steps l = (length l.text - l.at.cut) + (length l.text - l.at.cut) + bit l.at.in_comment
