-- Numbers in one order are the same where they have the same members; so are those of a version, among later records that have it.
use Rattle.std.proofs.Common.{◌≡◌, ℕ, Bool, true, false, cond, ◌==◌, ◌||◌, ◌&&◌, List, [], ◌∷◌, refl, sym, ap, ◌∙◌, subst, inl, inr, true≢false}
use Rattle.std.specs.List.{All, AllByRecursion, filter}
use Rattle.std.specs.List.Sorted.{IsStrictlySortedBy}
use Rattle.std.specs.Ordering.{ordering_then, nat_cmp}
use Rattle.std.specs.declared.cmp.Ordering.TheVariants.{Less}
use Rattle.std.proofs.lemmas.Bool.{cases_Bool}
use Rattle.std.proofs.lemmas.List.Elements.{All-weaker, recursion_from_All}
use Rattle.std.proofs.lemmas.Map.Views.{exact_unsigned_eq}
use Rattle.gs_index.specs.Ages.{Age, age_cmp, aged_number_cmp, aged_key_total}
use Rattle.gs_index.specs.Indexes.{is_listed}
use Rattle.gs_index.specs.Kept.{number_key}
use Rattle.gs_records.specs.Records.{Recorded, record_at, is_kept, has_at}
use Rattle.gs_records.specs.Order.{entry_of, has_number, age_at, AreListed}
use Rattle.gs_records.proofs.Listing.{same_number, all_less}
use Rattle.gs_records.proofs.Ordering.{number_tied}
use Rattle.gs_quads.specs.Places.{version_numbers}
use Rattle.gs_quads.specs.Laws.{HasSame}
use Rattle.gs_quads.proofs.Numbers.{numbers_sorted, numbers_had}

-- a list has its first number
first_listed : (x : ℕ) (xs : List ℕ) → is_listed x (x ∷ xs) ≡ true
first_listed x xs = ap (λ b. b || is_listed x xs) (same_number x)

-- one that is not the first is later
later_listed : (x y : ℕ) (xs : List ℕ) → (x == y) ≡ false → is_listed y (x ∷ xs) ≡ is_listed y xs
later_listed x y xs off = ap (λ b. b || is_listed y xs) off

module _ (age : ℕ → Age) where
  -- no two numbers come each before the other
  less_twice : (m n : ℕ) → aged_number_cmp age m n ≡ Less → aged_number_cmp age n m ≡ Less → ⊥
  less_twice m n a b = number_tied age m ((aged_key_total age).trans (number_key m) (number_key n) (number_key m) a b)

  -- a number is not among those above it
  not_above : (n : ℕ) (ns : List ℕ) → AllByRecursion (λ m. aged_number_cmp age n m ≡ Less) ns → is_listed n ns ≡ false
  not_above n ns above = go (is_listed n ns) refl
    where
      go : (b : Bool) → is_listed n ns ≡ b → is_listed n ns ≡ false
      go true is = absurd (number_tied age n (all_less (aged_number_cmp age) n n ns above is))
      go false is = is

  module _ (x y : ℕ) (xs ys : List ℕ) (above_x : AllByRecursion (λ m. aged_number_cmp age x m ≡ Less) xs) (above_y : AllByRecursion (λ m. aged_number_cmp age y m ≡ Less) ys) (same : (n : ℕ) → is_listed n (x ∷ xs) ≡ is_listed n (y ∷ ys)) where
    -- the first of both are the same
    first_same : x ≡ y
    first_same = elim (cases_Bool (x == y)) [
      | inl is ↦ exact_unsigned_eq x y is
      | inr off ↦ elim (cases_Bool (y == x)) [
        | inl is ↦ sym (exact_unsigned_eq y x is)
        | inr back ↦
            let y_later : is_listed y xs ≡ true = sym (later_listed x y xs off) ∙ same y ∙ first_listed y ys in
            let x_later : is_listed x ys ≡ true = sym (later_listed y x ys back) ∙ sym (same x) ∙ first_listed x xs in
            absurd (less_twice x y (all_less (aged_number_cmp age) x y xs above_x y_later) (all_less (aged_number_cmp age) y x ys above_y x_later))
      ]
    ]

    -- the others have the same members
    rest_same : (n : ℕ) → is_listed n xs ≡ is_listed n ys
    rest_same n = elim (cases_Bool (x == n)) [
      | inl is ↦
          let here : x ≡ n = exact_unsigned_eq x n is in
          subst (λ m. is_listed m xs ≡ is_listed m ys) here
          (not_above x xs above_x ∙ sym (ap (λ m. is_listed m ys) first_same ∙ not_above y ys above_y))
      | inr off ↦
          let off_y : (y == n) ≡ false = ap (λ m. m == n) (sym first_same) ∙ off in
          sym (later_listed x n xs off) ∙ same n ∙ later_listed y n ys off_y
    ]

  -- lists with the same members are the same
  pub same_members : (xs ys : List ℕ) → IsStrictlySortedBy (aged_number_cmp age) xs → IsStrictlySortedBy (aged_number_cmp age) ys → ((n : ℕ) → is_listed n xs ≡ is_listed n ys) → xs ≡ ys
  unfolding IsStrictlySortedBy
  same_members [] [] sx sy same = refl
  same_members [] (y ∷ ys) sx sy same = absurd (true≢false (sym (same y ∙ first_listed y ys)))
  same_members (x ∷ xs) [] sx sy same = absurd (true≢false (sym (first_listed x xs) ∙ same x))
  same_members (x ∷ xs) (y ∷ ys) sx sy same =
      let first : x ≡ y = first_same x y xs ys sx.0 sy.0 same in
      let rest : xs ≡ ys = same_members xs ys sx.1 sy.1 (rest_same x y xs ys sx.0 sy.0 same) in
      λ i. first i ∷ rest i

-- numbers in one order are in another that orders them alike
all_alike : (f g : ℕ → Age) (n : ℕ) (ns : List ℕ) → f n ≡ g n → AllByRecursion (λ m. f m ≡ g m) ns → AllByRecursion (λ m. aged_number_cmp f n m ≡ Less) ns → AllByRecursion (λ m. aged_number_cmp g n m ≡ Less) ns
all_alike f g n [] is alike h = tt
all_alike f g n (m ∷ ms) is alike h =
    let other : f m ≡ g m = alike.0 in
    let eq : aged_number_cmp f n m ≡ aged_number_cmp g n m = λ i. ordering_then (age_cmp (is i) (other i)) (nat_cmp m n) in
    (sym eq ∙ h.0, all_alike f g n ms is alike.1 h.1)

-- the same of a whole list
pub sorted_alike : (f g : ℕ → Age) (ns : List ℕ) → AllByRecursion (λ n. f n ≡ g n) ns → IsStrictlySortedBy (aged_number_cmp f) ns → IsStrictlySortedBy (aged_number_cmp g) ns
unfolding IsStrictlySortedBy
sorted_alike f g [] alike s = tt
sorted_alike f g (n ∷ ns) alike s = (all_alike f g n ns alike.0 alike.1 s.0, sorted_alike f g ns alike.1 s.1)

-- a number is in what a test leaves where it was there and passes
filter_listed : (p : ℕ → Bool) (n : ℕ) (ns : List ℕ) → is_listed n (filter p ns) ≡ (is_listed n ns && p n)
filter_listed p n [] = refl
filter_listed p n (m ∷ ms) = go (m == n) refl (p m) refl (filter_listed p n ms)
  where
    -- a test that fails, after any other
    never : (b c : Bool) → c ≡ false → (b && c) ≡ c
    never true c is = refl
    never false c is = sym is

    go : (b : Bool) → (m == n) ≡ b → (c : Bool) → p m ≡ c → is_listed n (filter p ms) ≡ (is_listed n ms && p n)
        → is_listed n (cond c (m ∷ filter p ms) (filter p ms)) ≡ ((b || is_listed n ms) && p n)
    go true is true passes rest = ap (λ d. d || is_listed n (filter p ms)) is ∙ sym passes ∙ ap p (exact_unsigned_eq m n is)
    go true is false passes rest = rest ∙ never (is_listed n ms) (p n) (sym (ap p (exact_unsigned_eq m n is)) ∙ passes)
    go false is true passes rest = ap (λ d. d || is_listed n (filter p ms)) is ∙ rest
    go false is false passes rest = rest

-- just what a version has is among its numbers
pub number_listed : (v : ℕ) (r : Recorded) → AreListed r.records r.listed → (n : ℕ) → is_listed n (version_numbers v r) ≡ has_number v r.records n
number_listed v r al n =
    filter_listed (has_number v r.records) n r.listed
    ∙ ap (λ b. b && has_number v r.records n) (al.members n)
    ∙ twice (is_kept (record_at r.records n)) (has_at v (entry_of (record_at r.records n)))
  where
    -- a test that is asked twice
    twice : (a b : Bool) → (a && (a && b)) ≡ (a && b)
    twice true b = refl
    twice false b = refl

-- a version has the same numbers in the same order
pub numbers_same : (v : ℕ) (old new : Recorded) → AreListed old.records old.listed → AreListed new.records new.listed → HasSame v old new → version_numbers v new ≡ version_numbers v old
numbers_same v old new al al_new same =
    let alike : All (λ n. age_at new.records n ≡ age_at old.records n) (version_numbers v new) =
    All-weaker (λ n. has_number v new.records n ≡ true) (λ n. age_at new.records n ≡ age_at old.records n) (λ n h. same.ages n (sym (same.numbers n) ∙ h)) (version_numbers v new) (numbers_had v new) in
    let sorted = sorted_alike (age_at new.records) (age_at old.records) (version_numbers v new) (recursion_from_All (λ n. age_at new.records n ≡ age_at old.records n) (version_numbers v new) alike) (numbers_sorted v new al_new) in
    same_members (age_at old.records) (version_numbers v new) (version_numbers v old) sorted (numbers_sorted v old al) (λ n. number_listed v new al_new n ∙ same.numbers n ∙ sym (number_listed v old al n))
