use Rattle.std.proofs.Common.{◌≡◌, ◌++◌, drop}
use Rattle.std.specs.Prelude.{false}
use Rattle.gs_model.specs.Texts.{lexical_of}
use Rattle.gs_commands.proofs.lines.unescaped.Given as goal

abbrev pub invariant-loop-i : goal.invariant-loop-i
invariant-loop-i l = lexical_of false l.bytes ≡ (l.lexical.items ++ (lexical_of l.is_escaped (drop l.i l.bytes)).0, (lexical_of l.is_escaped (drop l.i l.bytes)).1)
