-- How many bytes the texts of triples have, and what room for texts is left after one.
use Rattle.std.specs.Prelude.{ℕ, ◌+◌, List, length}
use Rattle.std.specs.List.{sum_by}
use Rattle.gs_model.specs.Terms.{text_of}
use Rattle.gs_model.specs.Triples.{RdfTriple}
use Rattle.gs_packed_texts.specs.Texts.{HasRoom}
use Rattle.gs_packed_texts.specs.declared.texts.PackedTexts.{PackedTexts}

-- how many bytes the three texts of a triple have
abbrev pub triple_bytes : RdfTriple → ℕ
triple_bytes t = length (text_of t.subject) + length (text_of t.predicate) + length (text_of t.object)

-- how many bytes the texts of all these triples have
abbrev pub triples_bytes : List RdfTriple → ℕ
triples_bytes ts = sum_by triple_bytes ts

-- a text takes room for one text, of its bytes, and leaves the rest
abbrev pub LeavesRoom : PackedTexts → List ℕ → PackedTexts → Type 0
LeavesRoom p x q = (n k : ℕ) → HasRoom p (n + 1) (k + length x) → HasRoom q n k
