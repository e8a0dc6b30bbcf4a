-- there is room for the lines that are left, and with them all are written
use Rattle.std.proofs.Common.{◌≡◌, ◌+◌, ◌≤◌, ◌++◌, length, drop, vec_len, vec_capacity}
use Rattle.gs_texts.specs.Lines.{lines_placed}
use Rattle.gs_texts.proofs.parts.append_lines.Given as goal

abbrev pub invariant-loop-line : goal.invariant-loop-line
invariant-loop-line l = record {
  room : vec_len l.bytes + length (lines_placed l.texts l.tails (drop l.line-index l.lines)) ≤ vec_capacity l.bytes;
  written : l.bytes.items ++ lines_placed l.texts l.tails (drop l.line-index l.lines) ≡ l.fn.bytes.items ++ lines_placed l.texts l.tails l.lines;
}
