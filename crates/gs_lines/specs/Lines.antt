-- What stands after the texts of a line.
use Rattle.std.specs.Prelude.{ℕ, List, [], ◌∷◌, ◌++◌}
use Rattle.gs_model.specs.Characters.{line_feed, space, dot}
use Rattle.gs_term.specs.declared.names.Target.{Target}
use Rattle.gs_term.specs.declared.names.Target.TheVariants.{Default, Named}
use Rattle.gs_term.specs.Names.{in_brackets}

-- what a line in a graph has after its three texts, and the space after each
abbrev pub line_tail : Target → List ℕ
line_tail Default = dot ∷ line_feed ∷ []
line_tail (Named name) = in_brackets name ++ space ∷ dot ∷ line_feed ∷ []
