-- The first line of an input, and what stands after it.
use Rattle.std.proofs.Common.{◌≡◌, ℕ, ◌<◌, true, false, cond, ◌==◌, List, [], ◌∷◌, length, refl, ap, arith}
use Rattle.gs_model.specs.Texts.{split_first}
use Rattle.gs_commands.specs.Commands.{lines_in, before_first}

-- the first line, and the rest of the input
pub lines_in-split : (x : List ℕ) → ¬ (x ≡ []) → lines_in x ≡ (split_first 10 x).0 ∷ lines_in (split_first 10 x).1
lines_in-split [] some = absurd (some refl)
lines_in-split (c ∷ []) some =
    elim (c == 10) as (λ b. (c == 10) ≡ b → let p : List ℕ × List ℕ = cond b ([], []) (c ∷ [], []) in cond b ([] ∷ []) ((c ∷ []) ∷ []) ≡ p.0 ∷ lines_in p.1) [
      | true ↦ λ e. refl
      | false ↦ λ e. refl
    ] refl
lines_in-split (c ∷ d ∷ ds) some =
    elim (c == 10) as (λ b. (c == 10) ≡ b → let q = split_first 10 (d ∷ ds) in let p : List ℕ × List ℕ = cond b ([], d ∷ ds) (c ∷ q.0, q.1) in
    cond b ([] ∷ lines_in (d ∷ ds)) (before_first c (lines_in (d ∷ ds))) ≡ p.0 ∷ lines_in p.1) [
      | true ↦ λ e. refl
      | false ↦ λ e. ap (before_first c) (lines_in-split (d ∷ ds) (λ h. cc))
    ] refl

-- what stands after it is shorter
pub length-split : (x : List ℕ) → ¬ (x ≡ []) → length (split_first 10 x).1 < length x
length-split [] some = absurd (some refl)
length-split (c ∷ []) some =
    elim (c == 10) as (λ b. let p : List ℕ × List ℕ = cond b ([], []) (c ∷ [], []) in length p.1 < length (c ∷ [])) [
      | true ↦ omega arith
      | false ↦ omega arith
    ]
length-split (c ∷ d ∷ ds) some =
    elim (c == 10) as (λ b. let q = split_first 10 (d ∷ ds) in let p : List ℕ × List ℕ = cond b ([], d ∷ ds) (c ∷ q.0, q.1) in length p.1 < length (c ∷ d ∷ ds)) [
      | true ↦ omega arith
      | false ↦ let h = length-split (d ∷ ds) (λ h. cc) in omega arith
    ]
