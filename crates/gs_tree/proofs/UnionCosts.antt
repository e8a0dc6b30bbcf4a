-- What a union costs, at one level.
use Rattle.std.proofs.Common.{ℕ, ◌+◌, ◌*◌, ◌≤◌, true, false, cond, ltb, arith}
use Rattle.std.proofs.Math.Nat.{add-mul, mul-add}
use Rattle.std.proofs.lemmas.Nat.{mul-le}
use Rattle.gs_tree.specs.Sets.{union_cost}
use Rattle.gs_tree.specs.Joining.{copies, joins}
use Rattle.gs_tree.proofs.Costs.{copies_mono}

-- the costs of a union, at one level
pub cost_side : (since h n k m : ℕ) → h ≤ k → n ≤ m → union_cost since h n ≤ union_cost since k m
cost_side since h n k m a b = omega (arith, mul-le n (copies since (4 * h)) m (copies since (4 * k)) b (copies_mono since (4 * h) (4 * k) (omega arith)))

pub cost_sides : (since a b h m n k : ℕ) → a ≤ h → b ≤ h → m + n ≤ k → union_cost since a m + union_cost since b n ≤ union_cost since h k
cost_sides since a b h m n k ha hb le =
    let c = copies since (4 * h) in
    let x : m * copies since (4 * a) ≤ m * c = mul-le m (copies since (4 * a)) m c (omega arith) (copies_mono since (4 * a) (4 * h) (omega arith)) in
    let y : n * copies since (4 * b) ≤ n * c = mul-le n (copies since (4 * b)) n c (omega arith) (copies_mono since (4 * b) (4 * h) (omega arith)) in
    let z : (m + n) * c ≤ k * c = mul-le (m + n) c k c le (omega arith) in
    omega (arith, add-mul m n c)

-- The copies of one level: its node, and a join of trees whose heights differ by the sides' growth and one. Four a key pay for it.
pub cost_level : (since a b h m n k : ℕ) → a + 1 ≤ h → b + 1 ≤ h → m + n ≤ k → 1 ≤ m + n → union_cost since a m + union_cost since b n + copies since 1 + copies since (3 * (m + n)) ≤ union_cost since h k
cost_level since a b h m n k ha hb le some = elim (ltb 0 since) as (λ t. (m + m * cond t (4 * a) 0) + (n + n * cond t (4 * b) 0) + cond t 1 0 + cond t (3 * (m + n)) 0 ≤ k + k * cond t (4 * h) 0) [
  | true ↦
      let x : m * (4 * a + 4) ≤ m * (4 * h) = mul-le m (4 * a + 4) m (4 * h) (omega arith) (omega arith) in
      let y : n * (4 * b + 4) ≤ n * (4 * h) = mul-le n (4 * b + 4) n (4 * h) (omega arith) (omega arith) in
      let z : (m + n) * (4 * h) ≤ k * (4 * h) = mul-le (m + n) (4 * h) k (4 * h) le (omega arith) in
      omega (arith, add-mul m n (4 * h), mul-add m (4 * a) 4, mul-add n (4 * b) 4)
  | false ↦ omega arith
]

pub joins_grown : (since l r l' r' m n : ℕ) → l ≤ r + 1 → r ≤ l + 1 → l ≤ l' → l' ≤ l + m → r ≤ r' → r' ≤ r + n → 1 ≤ m + n → copies since (joins l' r') ≤ copies since (3 * (m + n))
joins_grown since l r l' r' m n a b c d e f some = copies_mono since _ _ (few l r l' r' m n a b c d e f some)
  where
    few : (l r l' r' m n : ℕ) → l ≤ r + 1 → r ≤ l + 1 → l ≤ l' → l' ≤ l + m → r ≤ r' → r' ≤ r + n → 1 ≤ m + n → joins l' r' ≤ 3 * (m + n)
    few l r l' r' m n a b c d e f some = omega arith
