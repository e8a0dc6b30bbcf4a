-- Numbers that are listed in order, and those of them that a version has: what stands after one, and walks over them.
use Rattle.std.proofs.Common.{◌≡◌, ℕ, ◌+◌, ◌-◌, ◌<◌, ◌≤◌, Bool, true, false, cond, ◌==◌, ◌||◌, ltb, List, [], ◌∷◌, ◌++◌, length, get_or, take, drop, slice_get, Option, Some, None, refl, sym, ap, ◌∙◌, subst, inl, inr, arith, append_assoc, length-append, true≢false}
use Rattle.std.specs.List.{All, AllByRecursion, filter}
use Rattle.std.specs.List.Sorted.{IsStrictlySortedBy}
use Rattle.std.specs.declared.cmp.Ordering.TheVariants.{Less}
use Rattle.std.proofs.lemmas.Bool.{cases_Bool, ltb-true, ltb-false}
use Rattle.std.proofs.lemmas.List.{take-append-drop, length-take, take_all, get_or-take, append-nil}
use Rattle.std.proofs.lemmas.List.Elements.{filter-append}
use Rattle.std.proofs.lemmas.List.Kept.{IsStrictlySortedBy-filter}
use Rattle.std.proofs.lemmas.Map.Views.{exact_unsigned_eq}
use Rattle.std.proofs.lemmas.Option.{slice_get-get_or, get_or_from_slice_get}
use Rattle.gs_index.specs.Ages.{aged_number_cmp}
use Rattle.gs_index.specs.Indexes.{is_listed, after_number, numbers_after}
use Rattle.gs_records.specs.Records.{Record, Recorded}
use Rattle.gs_records.specs.Order.{has_number, age_at, AreListed, search_goes_on}
use Rattle.gs_records.specs.Laws.{piece_after}
use Rattle.gs_records.proofs.Listing.{same_number}
use Rattle.gs_records.proofs.Ordering.{number_tied}
use Rattle.gs_quads.specs.Places.{version_numbers}
use Rattle.gs_quads.specs.Found.{AreNext}
use Rattle.gs_quads.proofs.Lists.{cut_at, filter_passes}

-- what stands after a number is the end of the list
record IsEnd (ns end : List ℕ) : Type 0 where
  before : List ℕ
  whole : ns ≡ before ++ end

-- the end that stands after a number
end_after : (n : ℕ) (ns : List ℕ) → IsEnd ns (after_number n ns)
end_after n [] = record { before = []; whole = refl }
end_after n (m ∷ ms) = go (end_after n ms) (m == n)
  where
    go : IsEnd ms (after_number n ms) → (b : Bool) → IsEnd (m ∷ ms) (cond b ms (after_number n ms))
    go e true = record { before = m ∷ []; whole = refl }
    go e false = record { before = m ∷ e.before; whole = ap (λ xs. m ∷ xs) e.whole }

-- the same, and the whole list where no number is given
end_from : (from : Option ℕ) (ns : List ℕ) → IsEnd ns (numbers_after from ns)
end_from None ns = record { before = []; whole = refl }
end_from (Some n) ns = end_after n ns

-- what holds of all numbers holds of one among them
all_there : (P : ℕ → Type 0) (xs : List ℕ) (n : ℕ) (ys : List ℕ) → AllByRecursion P (xs ++ n ∷ ys) → P n
all_there P [] n ys h = h.0
all_there P (x ∷ xs) n ys h = all_there P xs n ys h.1

-- it is listed
listed_there : (n : ℕ) (xs ys : List ℕ) → is_listed n (xs ++ n ∷ ys) ≡ true
listed_there n [] ys = ap (λ b. b || is_listed n ys) (same_number n)
listed_there n (x ∷ xs) ys = go (x == n) (listed_there n xs ys)
  where
    go : (b : Bool) → is_listed n (xs ++ n ∷ ys) ≡ true → (b || is_listed n (xs ++ n ∷ ys)) ≡ true
    go true later = refl
    go false later = later

module _ (rs : List Record) where
  -- after a number stands what follows it, where all numbers rise
  after_here : (n : ℕ) (xs ys : List ℕ) → IsStrictlySortedBy (aged_number_cmp (age_at rs)) (xs ++ n ∷ ys) → after_number n (xs ++ n ∷ ys) ≡ ys
  unfolding IsStrictlySortedBy
  after_here n [] ys s = ap (λ b. cond b ys (after_number n ys)) (same_number n)
  after_here n (x ∷ xs) ys s = elim (cases_Bool (x == n)) [
    | inl here ↦
        let less : aged_number_cmp (age_at rs) x n ≡ Less = all_there (λ k. aged_number_cmp (age_at rs) x k ≡ Less) xs n ys s.0 in
        absurd (number_tied (age_at rs) n (ap (λ k. aged_number_cmp (age_at rs) k n) (sym (exact_unsigned_eq x n here)) ∙ less))
    | inr off ↦ ap (λ b. cond b (xs ++ n ∷ ys) (after_number n (xs ++ n ∷ ys))) off ∙ after_here n xs ys s.1
  ]

  module _ (ns : List ℕ) (sorted : IsStrictlySortedBy (aged_number_cmp (age_at rs)) ns) (from : Option ℕ) (xs : List ℕ) (n : ℕ) (ys : List ℕ) (cut : numbers_after from ns ≡ xs ++ n ∷ ys) where
    -- the list, cut at the number
    whole : ns ≡ ((end_from from ns).before ++ xs) ++ n ∷ ys
    whole =
        let e = end_from from ns in
        e.whole ∙ ap (λ zs. e.before ++ zs) cut ∙ sym (append_assoc e.before xs (n ∷ ys))

    -- after a number of those that stand after another come those that stand after both
    pub after_cut : after_number n ns ≡ ys
    after_cut =
        let front = (end_from from ns).before ++ xs in
        ap (after_number n) whole ∙ after_here n front ys (subst (IsStrictlySortedBy (aged_number_cmp (age_at rs))) whole sorted)

    -- it is listed
    pub listed_cut : is_listed n ns ≡ true
    listed_cut = ap (is_listed n) whole ∙ listed_there n ((end_from from ns).before ++ xs) ys

-- a test keeps what stands after a number that passes it
pub after_filter : (p : ℕ → Bool) (n : ℕ) → p n ≡ true → (ns : List ℕ) → filter p (after_number n ns) ≡ after_number n (filter p ns)
after_filter p n passes [] = refl
after_filter p n passes (m ∷ ms) = go (m == n) refl (p m) refl (after_filter p n passes ms)
  where
    go : (b : Bool) → (m == n) ≡ b → (c : Bool) → p m ≡ c → filter p (after_number n ms) ≡ after_number n (filter p ms)
        → filter p (cond b ms (after_number n ms)) ≡ after_number n (cond c (m ∷ filter p ms) (filter p ms))
    go true is true has rest = sym (ap (λ b. cond b (filter p ms) (after_number n (filter p ms))) is)
    go true is false has rest = absurd (true≢false (sym passes ∙ sym (ap p (exact_unsigned_eq m n is)) ∙ has))
    go false is true has rest = rest ∙ sym (ap (λ b. cond b (filter p ms) (after_number n (filter p ms))) is)
    go false is false has rest = rest

-- the numbers of a version are in order
pub numbers_sorted : (v : ℕ) (r : Recorded) → AreListed r.records r.listed → IsStrictlySortedBy (aged_number_cmp (age_at r.records)) (version_numbers v r)
numbers_sorted v r al = IsStrictlySortedBy-filter (aged_number_cmp (age_at r.records)) (has_number v r.records) r.listed al.rising

-- and the version has them
pub numbers_had : (v : ℕ) (r : Recorded) → All (λ n. has_number v r.records n ≡ true) (version_numbers v r)
numbers_had v r = filter_passes (has_number v r.records) r.listed

-- so it has those that stand after one of them
pub had_after : (P : ℕ → Type 0) (n : ℕ) (ns : List ℕ) → AllByRecursion P ns → AllByRecursion P (after_number n ns)
had_after P n [] h = tt
had_after P n (m ∷ ms) h = go (m == n) (had_after P n ms h.1)
  where
    go : (b : Bool) → AllByRecursion P (after_number n ms) → AllByRecursion P (cond b ms (after_number n ms))
    go true rest = h.1
    go false rest = rest

-- where a search for so many goes on, its last number is cut out
goes_cut : (most n : ℕ) (xs : List ℕ) → 0 < most → search_goes_on most (take most xs) ≡ Some n → xs ≡ take (most - 1) xs ++ n ∷ drop most xs
goes_cut most n xs some e = elim (cases_Bool (ltb (length (take most xs)) most)) [
  | inl few ↦ absurd (let bad : None ≡ Some n = sym (ap (λ b. cond b None (slice_get (take most xs) (length (take most xs) - 1))) few) ∙ e in cc)
  | inr many ↦
      let le : most ≤ length (take most xs) = ltb-false (length (take most xs)) most many in
      let long : length (take most xs) ≡ most = omega (arith, length-take most xs) in
      let within : most ≤ length xs = omega (arith, length-take most xs) in
      let last : slice_get (take most xs) (length (take most xs) - 1) ≡ Some n = sym (ap (λ b. cond b None (slice_get (take most xs) (length (take most xs) - 1))) many) ∙ e in
      let is : get_or (take most xs) (length (take most xs) - 1) n ≡ n = get_or_from_slice_get (take most xs) (length (take most xs) - 1) n n last in
      let place : most - 1 ≡ length (take most xs) - 1 = omega arith in
      let at : get_or xs (most - 1) n ≡ n = sym (get_or-take most xs (most - 1) n (omega arith)) ∙ ap (λ m. get_or (take most xs) m n) place ∙ is in
      let next : most - 1 + 1 ≡ most = omega arith in
      cut_at xs (most - 1) n (omega arith) ∙ (λ i. take (most - 1) xs ++ at i ∷ drop (next i) xs)
]

-- where it ends, it gave all
ends_whole : (most : ℕ) (xs : List ℕ) → 0 < most → search_goes_on most (take most xs) ≡ None → take most xs ≡ xs
ends_whole most xs some e = elim (cases_Bool (ltb (length (take most xs)) most)) [
  | inl few ↦
      let lt : length (take most xs) < most = ltb-true (length (take most xs)) most few in
      take_all most xs (omega (arith, length-take most xs))
  | inr many ↦
      let le : most ≤ length (take most xs) = ltb-false (length (take most xs)) most many in
      let is : slice_get (take most xs) (length (take most xs) - 1) ≡ Some (get_or (take most xs) (length (take most xs) - 1) 0) = slice_get-get_or (take most xs) (length (take most xs) - 1) 0 (omega arith) in
      absurd (let bad : Some (get_or (take most xs) (length (take most xs) - 1) 0) ≡ None = sym is ∙ sym (ap (λ b. cond b None (slice_get (take most xs) (length (take most xs) - 1))) many) ∙ e in cc)
]

module _ (most v : ℕ) (r : Recorded) (some : 0 < most) (al : AreListed r.records r.listed) (from : Option ℕ) (numbers : List ℕ) where
  -- what is searched
  abbrev xs : List ℕ
  xs = numbers_after from r.listed

  -- whether the version has a number
  abbrev has : ℕ → Bool
  has = has_number v r.records

  -- what a search for so many numbers gave are the next ones
  pub next_are : (on : Option ℕ) → numbers ≡ filter has (piece_after most from r.listed) → on ≡ search_goes_on most (piece_after most from r.listed) → AreNext v r from numbers on
  next_are None is on_is = record {
    first = ap (filter has) (sym (ends_whole most xs some (sym on_is))) ∙ sym is ∙ sym (append-nil numbers);
    had = subst (All (λ n. has n ≡ true)) (sym is) (filter_passes has (take most xs));
    farther = tt;
  }
  next_are (Some n) is on_is =
      let cut : xs ≡ take (most - 1) xs ++ n ∷ drop most xs = goes_cut most n xs some (sym on_is) in
      let after : after_number n r.listed ≡ drop most xs = after_cut r.records r.listed al.rising from (take (most - 1) xs) n (drop most xs) cut in
      let all : length xs ≡ length (take (most - 1) xs) + length (n ∷ drop most xs) = ap length cut ∙ length-append (take (most - 1) xs) (n ∷ drop most xs) in
      let long : length (after_number n r.listed) ≡ length (drop most xs) = ap length after in
      record {
        first =
            ap (filter has) (sym (take-append-drop most xs))
            ∙ filter-append has (take most xs) (drop most xs)
            ∙ (λ i. sym is i ++ filter has (sym after i));
        had = subst (All (λ n. has n ≡ true)) (sym is) (filter_passes has (take most xs));
        farther = (listed_cut r.records r.listed al.rising from (take (most - 1) xs) n (drop most xs) cut, omega (arith, all, long));
      }
