use Rattle.std.proofs.Common.{Bool, List, ◌+◌, ◌-◌, ◌≤◌, length}
use Rattle.gs_lex.specs.Readings.{IsWithin, bit}
use Rattle.gs_lex.specs.Cutting.{HasCutOff}
use Rattle.gs_lex.specs.Tokens.{Lexeme}
use Rattle.gs_lex.proofs.texts.next_from.Given as goal

abbrev pub invariant-steps : goal.invariant-steps
invariant-steps l = record {
  within : IsWithin l.at l.text;
  onward : l.fn.from.cut ≤ l.at.cut;
  given : (updates : Bool) (ts : List Lexeme) → HasCutOff updates l.fn.from l.text ts → HasCutOff updates l.at l.text ts;
}

abbrev pub decreases-steps : goal.decreases-steps
decreases-steps l = (length l.text - l.at.cut) + (length l.text - l.at.cut) + bit l.at.in_comment
