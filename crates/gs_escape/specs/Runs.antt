-- How a text with escapes is cut, for private contracts: the bytes at its front that stand, and the escape after them.
use Rattle.std.specs.Prelude.{ℕ, ◌+◌, ◌==◌, if◌then◌else◌, List, [], ◌∷◌, Option, None, drop, option_map}
use Rattle.gs_model.specs.Characters.{backslash}
use Rattle.gs_escape.specs.declared.forms.Form.{Form}
use Rattle.gs_escape.specs.Escapes.{escape}
use Rattle.gs_escape.specs.Meanings.{stands}

-- how many bytes at the front stand as they are
unfoldable pub run_of : Form → List ℕ → ℕ
run_of f [] = 0
run_of f (c ∷ cs) = if stands f c cs then 1 + run_of f cs else 0

-- the character of the escape at the front, and the text after it
unfoldable pub front_escape : Form → List ℕ → Option (ℕ × List ℕ)
front_escape f [] = None
front_escape f (c ∷ cs) = if c == backslash then option_map (λ e. (e.0, drop e.1 cs)) (escape f cs) else None
