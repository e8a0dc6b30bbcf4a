use Rattle.std.proofs.Common.{Bool, List, ℕ, ◌+◌, ◌-◌, ◌≤◌, length, drop}
use Rattle.gs_lex.specs.Readings.{IsWithin, bit}
use Rattle.gs_lex.specs.Standing.{StandsAfter}
use Rattle.gs_lex.specs.Tokens.{Lexeme}
use Rattle.gs_lex.proofs.pieces.advance_in.Given as goal

abbrev pub invariant-steps : goal.invariant-steps
invariant-steps l = record {
  within : IsWithin l.at l.text;
  onward : l.fn.from.cut ≤ l.at.cut;
  stands : (updates : Bool) (x : List ℕ) (ts : List Lexeme) → StandsAfter l.is_end updates l.fn.from (drop l.fn.from.cut l.text) x ts → StandsAfter l.is_end updates l.at (drop l.at.cut l.text) x ts;
}

abbrev pub decreases-steps : goal.decreases-steps
decreases-steps l = (length l.text - l.at.cut) + (length l.text - l.at.cut) + bit l.at.in_comment
