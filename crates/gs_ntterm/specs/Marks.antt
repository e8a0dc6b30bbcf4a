-- Characters with their places.
use Rattle.std.specs.Prelude.{ℕ, ◌+◌, ◌-◌, ◌^◌, min, List, [], ◌∷◌}
use Rattle.std.specs.Char.{len_utf8}
use Rattle.gs_machine.specs.Machines.{Machine}

-- a character, and the number of bytes of the text up to its end
abbrev pub Mark : Type 0
Mark = ℕ × ℕ

-- a number of bytes, which stops at the greatest `u64`
abbrev pub counted : ℕ → ℕ
counted n = min n (2 ^ 64 - 1)

-- the end of a character after n bytes
abbrev pub char_end : ℕ → ℕ → ℕ
char_end n c = counted (n + len_utf8 c)

-- the characters of a text with their places, where n bytes stand before
unfoldable pub marks : ℕ → List ℕ → List Mark
marks n [] = []
marks n (c ∷ cs) = (c, char_end n c) ∷ marks (char_end n c) cs

-- the same as a machine, whose state is the number of bytes so far
abbrev pub places : Machine ℕ ℕ Mark (Unit {0})
places = record { step = λ n c. (char_end n c, (c, char_end n c) ∷ []); ended = λ n. ([], tt) }
