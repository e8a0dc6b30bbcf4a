-- Blocks that are given back: which are to go, and what stays of the others.
use Rattle.std.specs.Prelude.{◌≡◌, ◌⊎◌, ℕ, ◌+◌, ◌-◌, ◌<◌, Bool, true, false, List, [], length, slice_index_or}
use Rattle.gs_texts.specs.declared.places.Place.{Place}
use Rattle.gs_texts.specs.Places.{block_of, offset_of, length_of, block_at}

-- whether the block of a number is to go: it is marked
abbrev pub is_gone : List Bool → ℕ → Bool
is_gone gone b = slice_index_or gone b false

-- as many blocks; each that is not to go has the bytes that it had, and one that is to go has them or none
pub record EmptiesMarked (gone : List Bool) (old new : List (List ℕ)) : Type 0 where
  pub count : length new ≡ length old
  pub others : (b : ℕ) → is_gone gone b ≡ false → block_at new b ≡ block_at old b
  pub either : (b : ℕ) → (block_at new b ≡ block_at old b) ⊎ (block_at new b ≡ [])

-- of the first n blocks, each that is to go has no byte
abbrev pub AreEmptied : List Bool → List (List ℕ) → ℕ → Type 0
AreEmptied gone blocks n = (b : ℕ) → b < n → is_gone gone b ≡ true → block_at blocks b ≡ []

-- as many blocks; the last one, and each that is not to go, has the bytes that it had; one that is to go has them or none
pub record KeepsOthers (gone : List Bool) (old new : List (List ℕ)) : Type 0 where
  pub count : length new ≡ length old
  pub last : block_at new (length old - 1) ≡ block_at old (length old - 1)
  pub others : (b : ℕ) → is_gone gone b ≡ false → block_at new b ≡ block_at old b
  pub either : (b : ℕ) → (block_at new b ≡ block_at old b) ⊎ (block_at new b ≡ [])

-- each sealed block that is to go has no byte
abbrev pub HasNone : List Bool → List (List ℕ) → Type 0
HasNone gone blocks = AreEmptied gone blocks (length blocks - 1)

-- the place keeps its text: its block is not to go, or it is the empty text at the beginning of a block
abbrev pub IsSpared : List Bool → Place → Type 0
IsSpared gone p = (is_gone gone (block_of p) ≡ false) ⊎ (offset_of p + length_of p ≡ 0)
