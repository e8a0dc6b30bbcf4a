-- Lines that are put together later.
use Rattle.std.specs.Prelude.{ℕ, ◌+◌, ◌≤◌, List, [], length, Option, Some, None, Vec, Box, vec_len, vec_capacity}
use Rattle.std.specs.List.{All}
use Rattle.std.specs.declared.alloc.Global.{Global}
use Rattle.gs_texts.specs.declared.parts.Parts.{Parts}
use Rattle.gs_texts.specs.Lines.{lines_placed, LiesThere}

-- the lines that are made of these parts
abbrev pub lines_in : Parts → List ℕ
lines_in p = lines_placed p.texts p.tails p.lines.items

-- their texts are there
abbrev pub AreThere : Parts → Type 0
AreThere p = All (LiesThere p.texts p.tails) p.lines.items

-- the lines that are due, if any are
abbrev pub due_in : Option (Box Parts Global) → List ℕ
due_in None = []
due_in (Some b) = lines_in b.value

-- the texts of the lines that are due are there, and there is room for these lines
abbrev pub HasRoomForDue : Vec ℕ Global → Option (Box Parts Global) → Type 0
HasRoomForDue bytes None = Unit {0}
HasRoomForDue bytes (Some b) = AreThere b.value × (vec_len bytes + length (lines_in b.value) ≤ vec_capacity bytes)
