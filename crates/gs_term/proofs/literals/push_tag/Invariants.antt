use Rattle.std.proofs.Common.{◌≡◌, ◌++◌, ◌∷◌, [], take, map}
use Rattle.std.specs.Char.{to_ascii_lowercase}
use Rattle.gs_term.proofs.literals.push_tag.Given as goal

abbrev pub invariant-loop-b : goal.invariant-loop-b
invariant-loop-b l = l.bytes.items ≡ (l.fn.bytes.items ++ 64 ∷ []) ++ map to_ascii_lowercase (take l.b-index l.tag)
