-- Where texts stand: places in blocks of bytes.
use Rattle.std.specs.Prelude.{◌≡◌, ℕ, ◌+◌, ◌-◌, ◌/◌, ◌%◌, ◌^◌, ◌<◌, ◌≤◌, List, [], ◌++◌, length, take, slice_index_or, slice_range}
use Rattle.gs_texts.specs.declared.places.Place.{Place}

-- the number of a place's block: the upper 30 of 64 bits
unfoldable pub block_of : Place → ℕ
block_of p = p.bits / 2 ^ 34

-- where its text begins in the block: the next 18 bits
unfoldable pub offset_of : Place → ℕ
offset_of p = p.bits / 2 ^ 16 % 2 ^ 18

-- how many bytes its text has: the lower 16 bits
unfoldable pub length_of : Place → ℕ
length_of p = p.bits % 2 ^ 16

-- the place of so many bytes from an offset on, in the block of a number
pub record IsPlaceOf (p : Place) (block offset count : ℕ) : Type 0 where
  pub block_is : block_of p ≡ block
  pub offset_is : offset_of p ≡ offset
  pub length_is : length_of p ≡ count

-- the bytes of the block of a number, and none where there is no such block
abbrev pub block_at : List (List ℕ) → ℕ → List ℕ
block_at blocks b = slice_index_or blocks b []

-- the last block, which is written to
abbrev pub last_block : List (List ℕ) → List ℕ
last_block blocks = block_at blocks (length blocks - 1)

-- those before it, which are sealed
abbrev pub sealed_of : List (List ℕ) → List (List ℕ)
sealed_of blocks = take (length blocks - 1) blocks

-- the text at a place
unfoldable pub text_in : List (List ℕ) → Place → List ℕ
text_in blocks p = slice_range (block_at blocks (block_of p)) (offset_of p) (offset_of p + length_of p)

-- the place's block is there, and has all its bytes
pub record LiesInBlock (blocks : List (List ℕ)) (p : Place) : Type 0 where
  pub block : block_of p < length blocks
  pub inside : offset_of p + length_of p ≤ length (block_at blocks (block_of p))

-- the place has this text
pub record HoldsText (blocks : List (List ℕ)) (p : Place) (x : List ℕ) : Type 0 where
  pub lies : LiesInBlock blocks p
  pub text : text_in blocks p ≡ x

-- each block has the bytes that it had, and maybe more after them, and there may be more blocks
pub record KeepsBytes (old new : List (List ℕ)) : Type 0 where
  pub count : length old ≤ length new
  pub begins : (b : ℕ) → b < length old → (more : List ℕ) × (block_at new b ≡ block_at old b ++ more)
