use Rattle.std.proofs.Common.{◌≡◌, ◌++◌, take, drop}
use Rattle.gs_model.specs.Texts.{split_first}
use Rattle.gs_commands.proofs.words.split.Given as goal

abbrev pub invariant-loop-i : goal.invariant-loop-i
invariant-loop-i l = split_first l.at l.bytes ≡ (take l.i l.bytes ++ (split_first l.at (drop l.i l.bytes)).0, (split_first l.at (drop l.i l.bytes)).1)
