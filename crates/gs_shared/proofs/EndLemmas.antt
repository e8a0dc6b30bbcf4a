-- What is known once all passes are back.
use Rattle.std.proofs.Common.{◌≡◌, ℕ, zero, suc, ◌+◌, ◌<◌, ◌≤◌, min, List, [], ◌∷◌, ◌++◌, length, map, get_or, Some, refl, ap, ◌∙◌, subst, arith}
use Rattle.std.specs.List.{slice_get, sum_by, All, range_with_len}
use Rattle.std.proofs.lemmas.List.Sums.{sum_by-cons}
use Rattle.gs_chronicle.specs.Pages.{Row, AreNumbered}
use Rattle.gs_pass.specs.declared.stamps.Stamp.{Stamp}
use Rattle.gs_pass.specs.declared.receipts.Receipt.{Receipt}
use Rattle.gs_pass.specs.declared.records.Record.{Record}
use Rattle.gs_pass.specs.Stamps.{stamp}
use Rattle.gs_pass.specs.Backing.{Backed, IsBacked}
use Rattle.gs_shared.specs.Counts.{stamp_in, stamps_in}
use Rattle.gs_shared.specs.Ends.{StandFrom, ReceiptsStand}
use Rattle.gs_shared.specs.Seats.{From}

-- the row of a stamp, where rows are numbered from n
row_at : (n : ℕ) (rows : List Row) (k : ℕ) (s : Stamp) → map (λ r. r.number) rows ≡ range_with_len n (length rows) → slice_get (stamps_in rows) k ≡ Some s → (r : Row) × (slice_get rows k ≡ Some r) × (stamp_in r ≡ s) × (r.number ≡ n + k)
row_at n [] k s numbered is = absurd (cc)
row_at n (r ∷ rows) zero s numbered is =
    let number : r.number ≡ n = cc in
    let same : stamp_in r ≡ s = cc in
    (r, refl, same, omega (arith, number))
row_at n (r ∷ rows) (suc k) s numbered is =
    let rest : map (λ r. r.number) rows ≡ range_with_len (n + 1) (length rows) = cc in
    let x = row_at (n + 1) rows k s rest is in
    (x.0, x.1, x.2, omega (arith, x.3))

-- receipts that have stamps, where the stamps are those of the rows, stand in the page
stand_from : (rows : List Row) (seat from : ℕ) (rs : List Receipt) → AreNumbered rows → Backed (stamps_in rows) seat from rs → StandFrom from rows seat rs
stand_from rows seat from [] numbered b = tt
stand_from rows seat from (r ∷ rs) numbered b =
    let x = row_at 0 rows b.0 (stamp seat r) numbered b.2 in
    let row = x.0 in
    let number : row.number ≡ r.number = ap (λ (s : Stamp). s.receipt.number) x.2 in
    let place : b.0 ≡ r.number = omega (arith, x.3, number) in (
      row.call,
      subst (λ n. from ≤ n) place b.1,
      subst (λ n. slice_get rows n ≡ Some row) place x.1 ∙ (λ i. Some (record { number = number i; call = row.call })),
      ap (λ (s : Stamp). s.seat) x.2,
      ap (λ (s : Stamp). s.receipt.kind) x.2,
      ap (λ (s : Stamp). s.receipt.status) x.2,
      stand_from rows seat (suc r.number) rs numbered (subst (λ n. Backed (stamps_in rows) seat (suc n) rs) place b.3),
    )

-- the receipts of all these passes stand in the page, where they have stamps and the stamps are those of the rows
pub all_stand : (all : List Stamp) (rows : List Row) (records : List Record) → AreNumbered rows → all ≡ stamps_in rows → All (IsBacked all) records → All (ReceiptsStand rows) records
all_stand all rows records numbered same h k d lt =
    stand_from rows _ 0 _ numbered (subst (λ l. IsBacked l (get_or records k d)) same (h k d lt))

-- counts that stop at a last number add up to the amounts, where their sum is below it
pub amounts_below : {X : Type 0} (count amount : X → ℕ) (most : ℕ) (xs : List X) → ((x : X) → count x ≡ min (amount x) most) → sum_by count xs < most → sum_by amount xs ≡ sum_by count xs
amounts_below count amount most [] h small = refl
amounts_below count amount most (x ∷ xs) h small =
    let a = sum_by-cons amount x xs in
    let c = sum_by-cons count x xs in
    let here = h x in
    let rest = amounts_below count amount most xs h (omega (arith, c, small)) in
    omega (arith, a, c, here, rest, small)

-- the same, where the amounts are known to be small
pub counts_below : {X : Type 0} (count amount : X → ℕ) (most : ℕ) (xs : List X) → ((x : X) → count x ≡ min (amount x) most) → sum_by amount xs < most → sum_by amount xs ≡ sum_by count xs
counts_below count amount most [] h small = refl
counts_below count amount most (x ∷ xs) h small =
    let a = sum_by-cons amount x xs in
    let c = sum_by-cons count x xs in
    let here = h x in
    let rest = counts_below count amount most xs h (omega (arith, a, small)) in
    omega (arith, a, c, here, rest, small)

-- the sum over a mapped list
pub sum_by-map : {X Y : Type 0} (f : X → Y) (count : Y → ℕ) (xs : List X) → sum_by count (map f xs) ≡ sum_by (λ x. count (f x)) xs
sum_by-map f count [] = refl
sum_by-map f count (x ∷ xs) =
    let a = sum_by-cons count (f x) (map f xs) in
    let c = sum_by-cons (λ y. count (f y)) x xs in
    let rest = sum_by-map f count xs in
    omega (arith, a, c, rest)

-- a number that is not above 0 is 0
pub zero_of : (n : ℕ) → (0 < n → ⊥) → n ≡ 0
zero_of zero h = refl
zero_of (suc n) h = absurd (h (omega arith))

-- what holds from a number on of a list holds of one more
pub from_push : {X : Type 0} (P : ℕ → X → Type 0) (n : ℕ) (xs : List X) (x : X) → From P n xs → P (n + length xs) x → From P n (xs ++ x ∷ [])
from_push P n [] x h p = let e : n + 0 ≡ n = omega arith in (subst (λ k. P k x) e p, tt)
from_push P n (y ∷ xs) x h p =
    (h.0, from_push P (n + 1) xs x h.1 (let e : n + suc (length xs) ≡ n + 1 + length xs = omega arith in subst (λ k. P k x) e p))
