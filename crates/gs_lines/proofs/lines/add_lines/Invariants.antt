-- with the lines of the keys that are left all are added
use Rattle.std.proofs.Common.{◌≡◌, ◌++◌, drop}
use Rattle.gs_tree.specs.Keys.{AllKeys}
use Rattle.gs_keys.specs.Texts.{IsGiven}
use Rattle.gs_lines.specs.Graphs.{bytes_in}
use Rattle.gs_lines.specs.Lines.{line_tail}
use Rattle.gs_lines.proofs.lines.add_lines.Given as goal

abbrev pub invariant-loop-key : goal.invariant-loop-key
invariant-loop-key l = record {
  terms : l.lines.terms ≡ l.fn.lines.terms;
  tail : l.lines.tail ≡ line_tail l.graph;
  given : AllKeys (IsGiven l.lines.terms) (drop l.key-index l.keys);
  added : l.lines.items ++ bytes_in l.lines.terms l.graph (drop l.key-index l.keys) ≡ l.fn.lines.items ++ bytes_in l.fn.lines.terms l.graph l.keys;
}
