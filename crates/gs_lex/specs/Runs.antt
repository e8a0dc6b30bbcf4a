-- Runs of plain characters in a comment: bytes of ASCII that do not end it.
use Rattle.std.specs.Prelude.{ℕ, Bool, not, ◌&&◌}
use Rattle.std.specs.Char.{is_ascii}
use Rattle.gs_automaton.specs.Classes.{is_line_end}

-- in a comment: not the end of a line
abbrev pub plain_comment : ℕ → Bool
plain_comment c = is_ascii c && not (is_line_end c)
