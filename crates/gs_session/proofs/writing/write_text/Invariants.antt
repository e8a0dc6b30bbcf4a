use Rattle.std.proofs.Common.{◌≤◌, length, take}
use Rattle.std.specs.Io.KnownBytes.{Appends}
use Rattle.gs_session.proofs.writing.write_text.Given as goal

abbrev pub invariant-loop : goal.invariant-loop
invariant-loop g l = record {
  within : l.at ≤ length l.text;
  front : Appends (g.W.Write.contents l.fn.writer) (g.W.Write.contents l.writer) (take l.at l.text);
}
