-- What is shown of the elements of a list, and how many of them pass a test.
use Rattle.std.proofs.Common.{◌≡◌, ◌≢◌, ℕ, zero, suc, ◌+◌, ◌<◌, ◌≤◌, Bool, true, false, cond, List, [], ◌∷◌, ◌++◌, map, length, get_or, set, inl, inr, Option, Some, None, is_some, IsSome, count_by, slice_get, refl, sym, ap, ◌∙◌, arith, true≢false}
use Rattle.std.specs.Prelude.{is_none}
use Rattle.std.proofs.lemmas.Bool.{cases_lt}
use Rattle.std.proofs.lemmas.List.{map_push, map-set, length-map, length_push, get_or_past, get_or_append_left, get_or_push, get_or-set_same, get_or-set_other}
use Rattle.std.proofs.lemmas.List.Sums.{sum_by-cons, sum_by_push, count_by-le-length}

-- what is read at a number, by itself
pub at_itself : {A : Type 0} (items : List A) (id : ℕ) (d : A) → get_or items id d ≡ get_or items id (get_or items id d)
at_itself [] id d = refl
at_itself (s ∷ items) zero d = refl
at_itself (s ∷ items) (suc id) d = at_itself items id d

-- something is not nothing
pub some_not_none : {A : Type 0} (o : Option A) → IsSome o → is_none o ≡ false
some_not_none None h = absurd (true≢false (sym h))
some_not_none (Some n) h = refl

-- each number has something or nothing
pub all_counted : {A : Type 0} (os : List (Option A)) → count_by is_some os + count_by is_none os ≡ length os
all_counted [] = refl
all_counted (o ∷ os) =
    let a = sum_by-cons (λ o. cond (is_some o) 1 0) o os in
    let b = sum_by-cons (λ o. cond (is_none o) 1 0) o os in
    elim o as (λ o. count_by is_some (o ∷ os) ≡ cond (is_some o) 1 0 + count_by is_some os → count_by is_none (o ∷ os) ≡ cond (is_none o) 1 0 + count_by is_none os → count_by is_some (o ∷ os) + count_by is_none (o ∷ os) ≡ suc (length os)) [
      | None ↦ λ p q. omega (arith, p, q, all_counted os)
      | Some n ↦ λ p q. omega (arith, p, q, all_counted os)
    ] a b

-- 1 for a test that is passed is never more than 1
flag_most : (b : Bool) → cond {A = ℕ} b 1 0 ≤ 1
flag_most true = omega arith
flag_most false = omega arith

-- an element that passes a test counts
pub one_counted : {A : Type 0} (test : A → Bool) (items : List A) (id : ℕ) (s : A) → slice_get items id ≡ Some s → test s ≡ true → 0 < count_by test items
one_counted test [] id s found is = absurd (let e : None ≡ Some s = found in cc)
one_counted test (d ∷ items) zero s found is =
    let same : d ≡ s = let e : Some d ≡ Some s = found in cc in
    omega (arith, sum_by-cons (λ o. cond (test o) 1 0) d items, ap (λ b. cond {A = ℕ} b 1 0) (ap test same ∙ is))
one_counted test (d ∷ items) (suc id) s found is = omega (arith, sum_by-cons (λ o. cond (test o) 1 0) d items, one_counted test items id s found is)

-- and two of them count twice
pub two_counted : {A : Type 0} (test : A → Bool) (items : List A) (i j : ℕ) (s r : A) → slice_get items i ≡ Some s → slice_get items j ≡ Some r → i ≢ j → test s ≡ true → test r ≡ true → 1 < count_by test items
two_counted test [] i j s r found other ne is also = absurd (let e : None ≡ Some s = found in cc)
two_counted test (d ∷ items) zero zero s r found other ne is also = absurd (ne refl)
two_counted test (d ∷ items) zero (suc j) s r found other ne is also =
    let same : d ≡ s = let e : Some d ≡ Some s = found in cc in
    omega (arith, sum_by-cons (λ o. cond (test o) 1 0) d items, ap (λ b. cond {A = ℕ} b 1 0) (ap test same ∙ is), one_counted test items j r other also)
two_counted test (d ∷ items) (suc i) zero s r found other ne is also =
    let same : d ≡ r = let e : Some d ≡ Some r = other in cc in
    omega (arith, sum_by-cons (λ o. cond (test o) 1 0) d items, ap (λ b. cond {A = ℕ} b 1 0) (ap test same ∙ also), one_counted test items i s found is)
two_counted test (d ∷ items) (suc i) (suc j) s r found other ne is also =
    omega (arith, sum_by-cons (λ o. cond (test o) 1 0) d items, two_counted test items i j s r found other (λ e. ne (ap suc e)) is also)

-- where one does not, not all do
pub not_all : {A : Type 0} (test : A → Bool) (items : List A) (id : ℕ) (s : A) → slice_get items id ≡ Some s → test s ≡ false → count_by test items < length items
not_all test [] id s found off = absurd (let e : None ≡ Some s = found in cc)
not_all test (d ∷ items) zero s found off =
    let same : d ≡ s = let e : Some d ≡ Some s = found in cc in
    omega (arith, sum_by-cons (λ o. cond (test o) 1 0) d items, ap (λ b. cond {A = ℕ} b 1 0) (ap test same ∙ off), count_by-le-length test items)
not_all test (d ∷ items) (suc id) s found off = omega (arith, sum_by-cons (λ o. cond (test o) 1 0) d items, flag_most (test d), not_all test items id s found off)

-- two views of a list that differ nowhere are one
pub map_same : {A B : Type 0} (f g : A → B) (items : List A) → ((j : ℕ) (r : A) → slice_get items j ≡ Some r → f r ≡ g r) → map f items ≡ map g items
map_same f g [] h = refl
map_same f g (s ∷ items) h = ap (λ b. b ∷ map f items) (h 0 s refl) ∙ ap (λ bs. g s ∷ bs) (map_same f g items (λ j r e. h (suc j) r e))

-- two views of a list that differ at a number alone, where an element is written
pub map_apart : {A B : Type 0} (f g : A → B) (items : List A) (id : ℕ) (s : A) → ((j : ℕ) (r : A) → j ≢ id → slice_get items j ≡ Some r → f r ≡ g r) → map f (set items id s) ≡ set (map g items) id (f s)
map_apart f g [] id s h = refl
map_apart f g (d ∷ items) zero s h = ap (λ bs. f s ∷ bs) (map_same f g items (λ j r e. h (suc j) r (λ p. absurd (omega (arith, p))) e))
map_apart f g (d ∷ items) (suc id) s h =
    ap (λ b. b ∷ map f (set items id s)) (h 0 d (λ p. absurd (omega (arith, p))) refl)
    ∙ ap (λ bs. g d ∷ bs) (map_apart f g items id s (λ j r ne e. h (suc j) r (λ p. ne (omega (arith, p))) e))

-- counting what is shown is counting the elements that show it
pub count_shown : {A B : Type 0} (test : B → Bool) (show : A → B) (items : List A) → count_by test (map show items) ≡ count_by (λ s. test (show s)) items
count_shown test show [] = refl
count_shown test show (s ∷ items) =
    omega (arith, sum_by-cons (λ b. cond (test b) 1 0) (show s) (map show items), sum_by-cons (λ p. cond (test (show p)) 1 0) s items, count_shown test show items)

-- how many pass a test after an element more
pub counted_push : {A B : Type 0} (test : B → Bool) (show : A → B) (items : List A) (s : A) → count_by test (map show (items ++ s ∷ [])) ≡ count_by test (map show items) + cond (test (show s)) 1 0
counted_push test show items s = rw (map_push show items s) (sum_by_push (λ o. cond (test o) 1 0) (map show items) (show s))

-- what is shown of a list
module _ {A B : Type 0} (show : A → B) (none : B) (items : List A) where
  -- what is shown after a write, there and elsewhere
  pub shown_here : (id : ℕ) (s : A) → id < length items → get_or (map show (set items id s)) id none ≡ show s
  shown_here id s within = rw (map-set show items id s) (get_or-set_same (map show items) id (show s) none (omega (arith, length-map items show)))

  pub shown_else : (id x : ℕ) (s : A) → x ≢ id → get_or (map show (set items id s)) x none ≡ get_or (map show items) x none
  shown_else id x s ne = rw (map-set show items id s) (get_or-set_other (map show items) id x (show s) none ne)

  -- what is shown after an element more, under its number and elsewhere
  pub shown_last : (s : A) → get_or (map show (items ++ s ∷ [])) (length items) none ≡ show s
  shown_last s = rw (map_push show items s) (get_or_push (map show items) (show s) none (length items) (length-map items show))

  pub shown_push : (s : A) (x : ℕ) → x ≢ length items → get_or (map show (items ++ s ∷ [])) x none ≡ get_or (map show items) x none
  shown_push s x ne =
      rw (map_push show items s) (elim (cases_lt x (length items)) [
        | inl here ↦ get_or_append_left (map show items) (show s ∷ []) none x (omega (arith, length-map items show))
        | inr past ↦ get_or_past (map show items ++ show s ∷ []) x none (omega (arith, length-map items show, length_push (map show items) (show s))) ∙ sym (get_or_past (map show items) x none (omega (arith, length-map items show)))
      ])
