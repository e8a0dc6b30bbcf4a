-- Blank node labels, byte by byte, of any length.
use Rattle.std.specs.Prelude.{ℕ, zero, suc, List, ◌++◌, string_bytes}
use Rattle.std.specs.Char.{encode_utf8}
use Rattle.gs_model.specs.Characters.{dot}
use Rattle.gs_ntterm.specs.declared.labels.Label.{Label}

-- the bytes of a label so far
abbrev pub label_of : Label → List ℕ
label_of l = string_bytes l.text

-- with so many dots more
abbrev pub add_dots : List ℕ → ℕ → List ℕ
add_dots label zero = label
add_dots label (suc n) = add_dots label n ++ encode_utf8 dot
