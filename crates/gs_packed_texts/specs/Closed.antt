-- What packed texts are after which no more come.
use Rattle.std.specs.Prelude.{ℕ, List, vec_capacity}
use Rattle.gs_packed_texts.specs.Packing.{source_of, unpacked}
use Rattle.gs_packed_texts.specs.declared.closed.ClosedTexts.{ClosedTexts}

-- the texts, the first one first
abbrev pub closed_texts : ClosedTexts → List (List ℕ)
closed_texts t = unpacked t.marks.items (source_of t.counts.items t.bytes.items)

-- for how many bytes of their own there is room, those of the texts too
abbrev pub closed_room : ClosedTexts → ℕ
closed_room t = vec_capacity t.bytes
