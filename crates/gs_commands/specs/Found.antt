-- What a reader of one text finds.
use Rattle.std.specs.Prelude.{◌≡◌, ◌++◌, ◌≤◌, List, ℕ, Option, Some, Result, IfOk, MatchOption}
use Rattle.gs_model.specs.Terms.{Term, IsTerm, numeral}

-- the value that the text says, and none only where the text says no value
abbrev pub Finds : {X : Type 0} → (X → List ℕ → Type 0) → List ℕ → Option X → Type 0
Finds Says text found = MatchOption found ((x : _) → ¬ (Says x text)) (λ x. Says x text)

-- the same of two values that a text says together
abbrev pub FindsPair : {X Y : Type 0} → (X → Y → List ℕ → Type 0) → List ℕ → Option (X × Y) → Type 0
FindsPair Says text found = MatchOption found ((x : _) (y : _) → ¬ (Says x y text)) (λ p. Says p.0 p.1 text)

-- a word with a space after it, and then what the rest says
pub record SaysAfter (word : List ℕ) (SaysRest : List ℕ → Type 0) (x : List ℕ) : Type 0 where
  pub rest : List ℕ
  pub parts : x ≡ word ++ rest
  pub says : SaysRest rest

-- the greatest number of 16 bits
abbrev pub last_u16 : ℕ
last_u16 = 65_535

-- the greatest number of 32 bits
abbrev pub last_u32 : ℕ
last_u32 = 4_294_967_295

-- the greatest number of 64 bits
abbrev pub last_u64 : ℕ
last_u64 = 18_446_744_073_709_551_615

-- a number of at most so much, in decimal and without leading zeros
abbrev pub SaysNumber : ℕ → ℕ → List ℕ → Type 0
SaysNumber most n x = (x ≡ numeral n) × (n ≤ most)

-- a call that got memory finds this term, if it is one
abbrev pub ReadsTerm : {E : Type 0} → Term → Result (Option Term) E → Type 0
ReadsTerm t outcome = IsTerm t → IfOk outcome (λ found. found ≡ Some t)
