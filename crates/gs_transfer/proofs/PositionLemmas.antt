-- What it says that no byte passes a test.
use Rattle.std.proofs.Common.{◌≡◌, ℕ, zero, suc, ◌+◌, ◌<◌, ◌≤◌, Bool, true, false, cond, not, List, [], ◌∷◌, length, get_or, refl, arith, Some, None}
use Rattle.std.specs.List.{position, position_or_len}
use Rattle.std.proofs.lemmas.Bool.{ltb-false}

-- a place that is not the first
later : (b : Bool) (m n : ℕ) → suc m ≤ cond (not b) (1 + n) 0 → (b ≡ false) × (m ≤ n)
later true m n h = absurd (omega arith)
later false m n h = (refl, omega arith)

-- the place after the last: no byte before it passes
len-none : (p : ℕ → Bool) (x : List ℕ) → length x ≤ position_or_len p x → (k : ℕ) → k < length x → p (get_or x k 0) ≡ false
len-none p [] h k lt = absurd (omega arith)
len-none p (c ∷ x) h zero lt = (later (p c) (length x) (position_or_len p x) h).0
len-none p (c ∷ x) h (suc k) lt = len-none p x (later (p c) (length x) (position_or_len p x) h).1 k (omega arith)

-- no place was given
cond-none : (b : Bool) (n : ℕ) → cond b (Some n) None ≡ None → b ≡ false
cond-none true n e = cc
cond-none false n e = refl

-- no place
pub position-none : (p : ℕ → Bool) (x : List ℕ) → position p x ≡ None → (k : ℕ) → k < length x → p (get_or x k 0) ≡ false
position-none p x e = len-none p x (ltb-false (position_or_len p x) (length x) (cond-none _ (position_or_len p x) e))
