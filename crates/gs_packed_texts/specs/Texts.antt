-- What packed texts are, and what a reader of them has before it.
use Rattle.std.specs.Prelude.{◌≡◌, ℕ, ◌+◌, ◌≤◌, List, [], ◌∷◌, ◌++◌, drop, vec_len, vec_capacity, Option, Some, None}
use Rattle.gs_packed_texts.specs.Packing.{source_of, unpacked, cut_by}
use Rattle.gs_packed_texts.specs.Kept.{memory_in}
use Rattle.gs_packed_texts.specs.declared.texts.PackedTexts.{PackedTexts}
use Rattle.gs_packed_texts.specs.declared.readers.Texts.{Texts}
use Rattle.gs_packed_texts.specs.declared.readers.SplitText.{SplitText}

-- the texts, the first one first
abbrev pub texts_of : PackedTexts → List (List ℕ)
texts_of p = unpacked p.marks.items (source_of p.counts.items p.bytes.items)

-- there is room for so many texts more, with so many bytes in all
pub record HasRoom (p : PackedTexts) (n k : ℕ) : Type 0 where
  pub marks : vec_len p.marks + n ≤ vec_capacity p.marks
  pub counts : vec_len p.counts + n ≤ vec_capacity p.counts
  pub bytes : vec_len p.bytes + k ≤ vec_capacity p.bytes

-- how many bytes of their own the texts have
abbrev pub own_bytes : PackedTexts → ℕ
own_bytes p = vec_len p.bytes

-- the bytes that a text of two parts has from an earlier text
abbrev pub split_front : SplitText → List ℕ
split_front s = s.front.now

-- the bytes after them
abbrev pub split_rest : SplitText → List ℕ
split_rest s = s.rest.now

-- the text of two parts
abbrev pub split_bytes : SplitText → List ℕ
split_bytes s = split_front s ++ split_rest s

-- the texts that a reader has before it
abbrev pub left_of : Texts → List (List ℕ)
left_of r = unpacked r.marks.now (record {
  first = memory_in r.bytes.now r.first;
  second = memory_in r.bytes.now r.second;
  third = memory_in r.bytes.now r.third;
  pieces = cut_by r.counts.now (drop r.at r.bytes.now);
})

-- a reader gave the first of the texts before it, or there was none
abbrev pub Gives : List (List ℕ) → Option SplitText → List (List ℕ) → Type 0
Gives old None new = (old ≡ []) × (new ≡ [])
Gives old (Some s) new = old ≡ split_bytes s ∷ new
