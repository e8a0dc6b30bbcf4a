-- Walks over the listed numbers, piece by piece.
use Rattle.std.proofs.Common.{◌≡◌, ℕ, zero, suc, ◌<◌, ◌-◌, Bool, true, false, cond, ltb, ◌||◌, ◌==◌, List, [], ◌∷◌, ◌++◌, length, take, drop, Option, Some, None, refl, sym, ap, subst, ◌∙◌, inl, inr, arith, append_assoc}
use Rattle.std.specs.Prelude.{slice_get}
use Rattle.std.specs.List.{filter}
use Rattle.std.specs.List.Sorted.{IsStrictlySortedBy}
use Rattle.std.specs.declared.cmp.Ordering.{Ordering}
use Rattle.std.specs.declared.cmp.Ordering.TheVariants.{Less}
use Rattle.std.proofs.lemmas.Bool.{cases_Bool, le-ltb, ltb-true, ltb-false}
use Rattle.std.proofs.lemmas.List.{take-append-drop, length-take-le, take_all}
use Rattle.std.proofs.lemmas.List.Elements.{filter-append}
use Rattle.std.proofs.lemmas.Map.Views.{exact_unsigned_eq}
use Rattle.gs_index.specs.Ages.{aged_number_cmp}
use Rattle.gs_index.specs.Indexes.{is_listed, after_number, numbers_after}
use Rattle.gs_records.specs.Records.{Record}
use Rattle.gs_records.specs.Order.{has_number, age_at, AreListed, search_goes_on}
use Rattle.gs_records.specs.Laws.{piece_after, IsWalk, ends, goes}
use Rattle.gs_records.proofs.Listing.{same_number, all_less}
use Rattle.gs_records.proofs.Ordering.{number_tied}

-- what is listed after the numbers before
record IsRest (listed rest : List ℕ) : Type 0 where
  before : List ℕ
  whole : listed ≡ before ++ rest

rest_after : (n : ℕ) (ns : List ℕ) → IsRest ns (after_number n ns)
rest_after n [] = record { before = []; whole = refl }
rest_after n (m ∷ ms) = go (rest_after n ms) (m == n)
  where
    go : IsRest ms (after_number n ms) → (b : Bool) → IsRest (m ∷ ms) (cond b ms (after_number n ms))
    go r true = record { before = m ∷ []; whole = refl }
    go r false = record { before = m ∷ r.before; whole = ap (λ xs. m ∷ xs) r.whole }

rest_from : (from : Option ℕ) (ns : List ℕ) → IsRest ns (numbers_after from ns)
rest_from None ns = record { before = []; whole = refl }
rest_from (Some n) ns = rest_after n ns

is_in : (n : ℕ) (xs ys : List ℕ) → is_listed n (xs ++ n ∷ ys) ≡ true
is_in n [] ys = ap (λ b. b || is_listed n ys) (same_number n)
is_in n (x ∷ xs) ys = go (x == n) (is_in n xs ys)
  where
    go : (b : Bool) → is_listed n (xs ++ n ∷ ys) ≡ true → (b || is_listed n (xs ++ n ∷ ys)) ≡ true
    go true later = refl
    go false later = later

-- what stands after a number, where all numbers rise
after_risen : (cmp : ℕ → ℕ → Ordering) → ((k : ℕ) → cmp k k ≡ Less → ⊥) → (n : ℕ) (xs ys : List ℕ) → IsStrictlySortedBy cmp (xs ++ n ∷ ys) → after_number n (xs ++ n ∷ ys) ≡ ys
unfolding IsStrictlySortedBy
after_risen cmp apart n [] ys s = ap (λ b. cond b ys (after_number n ys)) (same_number n)
after_risen cmp apart n (x ∷ xs) ys s = elim (cases_Bool (x == n)) [
  | inl here ↦ absurd (apart n (ap (λ k. cmp k n) (sym (exact_unsigned_eq x n here)) ∙ all_less cmp x n (xs ++ n ∷ ys) s.0 (is_in n xs ys)))
  | inr off ↦ ap (λ b. cond b (xs ++ n ∷ ys) (after_number n (xs ++ n ∷ ys))) off ∙ after_risen cmp apart n xs ys s.1
]

-- numbers with this one as the last
record IsLast (n : ℕ) (ns : List ℕ) : Type 0 where
  front : List ℕ
  same : ns ≡ front ++ n ∷ []

last_at : (n : ℕ) (ns : List ℕ) (i : ℕ) → suc i ≡ length ns → slice_get ns i ≡ Some n → IsLast n ns
last_at n [] i many e = absurd (let bad : None ≡ Some n = e in cc)
last_at n (x ∷ []) zero many e = let same : x ≡ n = cc in record { front = []; same = ap (λ k. k ∷ []) same }
last_at n (x ∷ []) (suc i) many e = absurd (omega (arith, many))
last_at n (x ∷ y ∷ ys) zero many e = absurd (omega (arith, many))
last_at n (x ∷ y ∷ ys) (suc i) many e =
    let rest = last_at n (y ∷ ys) i (omega (arith, many)) e in
    record { front = x ∷ rest.front; same = ap (λ xs. x ∷ xs) rest.same }

none_at : (ns : List ℕ) (i : ℕ) → i < length ns → slice_get ns i ≡ None → ⊥
none_at [] i lt e = absurd (omega (arith, lt))
none_at (x ∷ xs) zero lt e = absurd (let bad : Some x ≡ None = e in cc)
none_at (x ∷ xs) (suc i) lt e = none_at xs i (omega (arith, lt)) e

last_is : (n : ℕ) (ns : List ℕ) → slice_get ns (length ns - 1) ≡ Some n → IsLast n ns
last_is n [] e = absurd (let bad : None ≡ Some n = e in cc)
last_is n (x ∷ xs) e = last_at n (x ∷ xs) (length (x ∷ xs) - 1) (omega arith) e

-- where a walk goes on, it has the last number of a piece
goes_last : (most n : ℕ) (ns : List ℕ) → search_goes_on most ns ≡ Some n → IsLast n ns
goes_last most n ns e = elim (cases_Bool (ltb (length ns) most)) [
  | inl few ↦ absurd (let bad : None ≡ Some n = sym (ap (λ b. cond b None (slice_get ns (length ns - 1))) few) ∙ e in cc)
  | inr many ↦ last_is n ns (sym (ap (λ b. cond b None (slice_get ns (length ns - 1))) many) ∙ e)
]

-- where a walk ends, a piece is all that was left
ends_whole : (most : ℕ) (xs : List ℕ) → 0 < most → search_goes_on most (take most xs) ≡ None → take most xs ≡ xs
ends_whole most xs some e = elim (cases_Bool (ltb (length xs) most)) [
  | inl few ↦ let lt = ltb-true (length xs) most few in take_all most xs (omega (arith, lt))
  | inr many ↦
      let ns = take most xs in
      let full : length ns ≡ most = length-take-le most xs (ltb-false (length xs) most many) in
      let off : ltb (length ns) most ≡ false = le-ltb (length ns) most (omega (arith, full)) in
      absurd (none_at ns (length ns - 1) (omega (arith, full, some)) (sym (ap (λ b. cond b None (slice_get ns (length ns - 1))) off) ∙ e))
]

module _ (most v : ℕ) (rs : List Record) (listed : List ℕ) (some : 0 < most) (al : AreListed rs listed) where
  -- what is listed after the last number of a piece is what follows the piece
  goes_after : (from : Option ℕ) (n : ℕ) → search_goes_on most (piece_after most from listed) ≡ Some n → after_number n listed ≡ drop most (numbers_after from listed)
  goes_after from n e =
      let r = rest_from from listed in
      let xs = numbers_after from listed in
      let l = goes_last most n (take most xs) e in
      let rest = drop most xs in
      let piece : xs ≡ l.front ++ n ∷ rest = sym (take-append-drop most xs) ∙ ap (λ zs. zs ++ rest) l.same ∙ append_assoc l.front (n ∷ []) rest in
      let whole : listed ≡ (r.before ++ l.front) ++ n ∷ rest = r.whole ∙ ap (λ zs. r.before ++ zs) piece ∙ sym (append_assoc r.before l.front (n ∷ rest)) in
      ap (after_number n) whole ∙ after_risen (aged_number_cmp (age_at rs)) (number_tied (age_at rs)) n (r.before ++ l.front) rest (subst (IsStrictlySortedBy (aged_number_cmp (age_at rs))) whole al.rising)

  -- a walk gives all that the version has of what is listed after its beginning
  pub walk_has : (from : Option ℕ) (ns : List ℕ) → IsWalk most v rs listed from ns → ns ≡ filter (has_number v rs) (numbers_after from listed)
  walk_has from ns (ends _ e) = ap (filter (has_number v rs)) (ends_whole most (numbers_after from listed) some e)
  walk_has from ns (goes _ n rest e w) =
      let test = has_number v rs in
      let xs = numbers_after from listed in
      ap (λ zs. filter test (take most xs) ++ zs) (walk_has (Some n) rest w ∙ ap (filter test) (goes_after from n e))
      ∙ sym (filter-append test (take most xs) (drop most xs))
      ∙ ap (filter test) (take-append-drop most xs)
