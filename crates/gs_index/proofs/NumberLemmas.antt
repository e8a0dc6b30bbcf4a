-- Keys of a set as the numbers that are their subjects: one that goes in, one that goes out, those that stand after one.
use Rattle.std.proofs.Common.{◌≡◌, ◌≢◌, ◌||◌, ℕ, Bool, true, false, cond, nat_eq, List, [], ◌∷◌, map, Option, Some, None, refl, sym, ap, ◌∙◌, inl, inr, true≢false}
use Rattle.std.specs.Prelude.{IfSome}
use Rattle.std.specs.Bool.{Decides}
use Rattle.std.specs.List.{AllByRecursion}
use Rattle.std.specs.List.Sorted.{IsStrictlySortedBy}
use Rattle.std.specs.Ordering.{is_lt}
use Rattle.std.specs.declared.cmp.Ordering.{Ordering}
use Rattle.std.specs.declared.cmp.Ordering.TheVariants.{Less, Equal, Greater}
use Rattle.std.proofs.lemmas.Bool.{eqb-true, eqb-false, eq-eqb, ne_eqb, or_left, or_right}
use Rattle.gs_pool.specs.declared.nodes.Key.{Key}
use Rattle.gs_tree.specs.Keys.{AllKeys, IsRising, HasKey, insert_key, insert_by, remove_key, remove_by}
use Rattle.gs_tree.specs.Reading.{is_less, keys_from}
use Rattle.gs_tree.proofs.FromLemmas.{from_all}
use Rattle.gs_index.specs.declared.entries.Entry.{Entry}
use Rattle.gs_index.specs.Ages.{Age, aged_number_cmp, aged_key_cmp, aged_key_total, age_in}
use Rattle.gs_index.specs.Indexes.{is_listed, with_number, without_number, after_number, numbers_after}
use Rattle.gs_index.specs.Kept.{number_key, key_if, key_number}
use Rattle.gs_index.proofs.AgeLemmas.{tied_keys, same_place}

-- the numbers of some keys
abbrev pub numbers : List Key → List ℕ
numbers ks = map key_number ks

-- a number that is not in a list is none of its numbers
pub none_listed : (n : ℕ) (ks : List Key) → is_listed n (numbers ks) ≡ false → AllKeys (λ k. key_number k ≢ n) ks
none_listed n [] e = tt
none_listed n (k ∷ ks) e = by_test (nat_eq k.subject n) refl e (none_listed n ks)
  where
    by_test : (b : Bool) → nat_eq k.subject n ≡ b → (b || is_listed n (numbers ks)) ≡ false → (is_listed n (numbers ks) ≡ false → AllKeys (λ k. key_number k ≢ n) ks) → AllKeys (λ k. key_number k ≢ n) (k ∷ ks)
    by_test true is f later = absurd (true≢false f)
    by_test false is f later = (eqb-false k.subject n is, later f)

-- a list without a number that it lacks is itself
without_other : (n : ℕ) (ks : List Key) → AllKeys (λ k. key_number k ≢ n) ks → without_number n (numbers ks) ≡ numbers ks
without_other n [] h = refl
without_other n (k ∷ ks) h = rw (ne_eqb k.subject n h.0) (ap (λ ns. k.subject ∷ ns) (without_other n ks h.1))

module _ (age : ℕ → Age) where
  -- a number that is in a list of numbers is a key of theirs
  pub has_listed : (n : ℕ) (ks : List Key) → is_listed n (numbers ks) ≡ true → HasKey (aged_key_cmp age) (number_key n) ks
  has_listed n [] e = absurd (true≢false (sym e))
  has_listed n (k ∷ ks) e = by_test (nat_eq k.subject n) refl e (has_listed n ks)
    where
      by_test : (b : Bool) → nat_eq k.subject n ≡ b → (b || is_listed n (numbers ks)) ≡ true → (is_listed n (numbers ks) ≡ true → HasKey (aged_key_cmp age) (number_key n) ks) → HasKey (aged_key_cmp age) (number_key n) (k ∷ ks)
      by_test true is f later = inl (same_place age (number_key n) k (sym (eqb-true k.subject n is)))
      by_test false is f later = inr (later f)

  -- a key among them has a number that is in the list
  listed_key : (n : ℕ) (ks : List Key) → HasKey (aged_key_cmp age) (number_key n) ks → is_listed n (numbers ks) ≡ true
  listed_key n [] h = absurd h
  listed_key n (k ∷ ks) h = elim h [
    | inl e ↦ or_left (nat_eq k.subject n) (is_listed n (numbers ks)) (eq-eqb k.subject n (sym (tied_keys age (number_key n) k e)))
    | inr later ↦ or_right (nat_eq k.subject n) (is_listed n (numbers ks)) (listed_key n ks later)
  ]

  -- so one test is the other
  pub listed_is : (n : ℕ) (ks : List Key) (b : Bool) → Decides b (HasKey (aged_key_cmp age) (number_key n) ks) → b ≡ is_listed n (numbers ks)
  listed_is n ks b d = by_tests b (is_listed n (numbers ks)) refl refl
    where
      by_tests : (r s : Bool) → b ≡ r → is_listed n (numbers ks) ≡ s → b ≡ s
      by_tests true true e f = e
      by_tests false false e f = e
      by_tests true false e f = absurd (true≢false (sym (listed_key n ks (d.0 e)) ∙ f))
      by_tests false true e f = absurd (true≢false (sym (d.1 (has_listed n ks f)) ∙ e))

  -- keys that are above one have other numbers
  others_above : (n : ℕ) (a : Key) (ks : List Key) → a.subject ≡ n → AllKeys (λ k. aged_key_cmp age a k ≡ Less) ks → AllKeys (λ k. key_number k ≢ n) ks
  others_above n a [] is h = tt
  others_above n a (k ∷ ks) is h = (λ e. (let tied : aged_key_cmp age a k ≡ Equal = same_place age a k (is ∙ sym e) in let bad : Less ≡ Equal = sym h.0 ∙ tied in cc), others_above n a ks is h.1)

  -- those above one that is above another are above that
  all_above : (a b : Key) (ks : List Key) → aged_key_cmp age a b ≡ Less → AllKeys (λ k. aged_key_cmp age b k ≡ Less) ks → AllKeys (λ k. aged_key_cmp age a k ≡ Less) ks
  all_above a b [] less h = tt
  all_above a b (k ∷ ks) less h = ((aged_key_total age).trans a b k less h.0, all_above a b ks less h.1)

  -- one that goes out of keys that rise
  pub numbers_remove : (n : ℕ) (ks : List Key) → IsRising (aged_key_cmp age) ks → numbers (remove_key (aged_key_cmp age) (number_key n) ks) ≡ without_number n (numbers ks)
  numbers_remove n [] up = refl
  numbers_remove n (k ∷ ks) up = by_answer (aged_key_cmp age (number_key n) k) refl (numbers_remove n ks up.1)
    where
      by_answer : (o : Ordering) → aged_key_cmp age (number_key n) k ≡ o → numbers (remove_key (aged_key_cmp age) (number_key n) ks) ≡ without_number n (numbers ks)
          → numbers (remove_by o k ks (remove_key (aged_key_cmp age) (number_key n) ks)) ≡ without_number n (k.subject ∷ numbers ks)
      by_answer Less e later = sym (without_other n (k ∷ ks) (others_above n (number_key n) (k ∷ ks) refl (e, all_above (number_key n) k ks e up.0)))
      by_answer Equal e later =
          let is : n ≡ k.subject = tied_keys age (number_key n) k e in
          rw (eq-eqb k.subject n (sym is)) (sym (without_other n ks (others_above n k ks (sym is) up.0)))
      by_answer Greater e later =
          let other : k.subject ≢ n = λ f. (let tied : aged_key_cmp age (number_key n) k ≡ Equal = same_place age (number_key n) k (sym f) in let bad : Greater ≡ Equal = sym e ∙ tied in cc) in
          rw (ne_eqb k.subject n other) (ap (λ ns. k.subject ∷ ns) later)

  -- the keys that stay have other numbers
  pub others_stay : (n : ℕ) (ks : List Key) → IsRising (aged_key_cmp age) ks → AllKeys (λ k. key_number k ≢ n) (remove_key (aged_key_cmp age) (number_key n) ks)
  others_stay n [] up = tt
  others_stay n (k ∷ ks) up = by_answer (aged_key_cmp age (number_key n) k) refl (others_stay n ks up.1)
    where
      by_answer : (o : Ordering) → aged_key_cmp age (number_key n) k ≡ o → AllKeys (λ k. key_number k ≢ n) (remove_key (aged_key_cmp age) (number_key n) ks) → AllKeys (λ k. key_number k ≢ n) (remove_by o k ks (remove_key (aged_key_cmp age) (number_key n) ks))
      by_answer Less e later = others_above n (number_key n) (k ∷ ks) refl (e, all_above (number_key n) k ks e up.0)
      by_answer Equal e later = others_above n k ks (sym (tied_keys age (number_key n) k e)) up.0
      by_answer Greater e later = (λ f. (let tied : aged_key_cmp age (number_key n) k ≡ Equal = same_place age (number_key n) k (sym f) in let bad : Greater ≡ Equal = sym e ∙ tied in cc), later)

  -- keys above one are all left after it
  all_left : (n : ℕ) (ks : List Key) → AllKeys (λ k. aged_key_cmp age (number_key n) k ≡ Less) ks → keys_from (aged_key_cmp age) (Some (number_key n)) ks ≡ ks
  all_left n [] h = refl
  all_left n (k ∷ ks) h = rw h.0 (ap (λ ys. k ∷ ys) (all_left n ks h.1))

  -- keys of one number stand alike before the others
  above_number : (n : ℕ) (a : Key) (ks : List Key) → a.subject ≡ n → AllKeys (λ k. aged_key_cmp age a k ≡ Less) ks → AllKeys (λ k. aged_key_cmp age (number_key n) k ≡ Less) ks
  above_number n a [] is h = tt
  above_number n a (k ∷ ks) is h = (ap (λ m. aged_number_cmp age m k.subject) (sym is) ∙ h.0, above_number n a ks is h.1)

  -- a key before one of this number is not past that
  not_past : (n : ℕ) (a : Key) (ks : List Key) → AllKeys (λ k. aged_key_cmp age a k ≡ Less) ks → is_listed n (numbers ks) ≡ true → is_less (aged_key_cmp age (number_key n) a) ≡ false
  not_past n a [] h e = absurd (true≢false (sym e))
  not_past n a (k ∷ ks) h e = by_test (nat_eq k.subject n) refl e (not_past n a ks h.1)
    where
      by_answer : (o : Ordering) → aged_key_cmp age a (number_key n) ≡ Less → aged_key_cmp age (number_key n) a ≡ o → is_less o ≡ false
      by_answer Less down up = absurd (let bad : Less ≡ Equal = sym ((aged_key_total age).trans a (number_key n) a down up) ∙ same_place age a a refl in cc)
      by_answer Equal down up = refl
      by_answer Greater down up = refl

      by_test : (b : Bool) → nat_eq k.subject n ≡ b → (b || is_listed n (numbers ks)) ≡ true → (is_listed n (numbers ks) ≡ true → is_less (aged_key_cmp age (number_key n) a) ≡ false)
          → is_less (aged_key_cmp age (number_key n) a) ≡ false
      by_test true is f later = by_answer (aged_key_cmp age (number_key n) a) (ap (λ m. aged_number_cmp age a.subject m) (sym (eqb-true k.subject n is)) ∙ h.0) refl
      by_test false is f later = later f

  -- the numbers that stand after one of them
  after_one : (n : ℕ) (ks : List Key) → IsRising (aged_key_cmp age) ks → is_listed n (numbers ks) ≡ true → numbers (keys_from (aged_key_cmp age) (Some (number_key n)) ks) ≡ after_number n (numbers ks)
  after_one n [] up e = refl
  after_one n (k ∷ ks) up e = by_test (nat_eq k.subject n) refl e (after_one n ks up.1)
    where
      by_test : (b : Bool) → nat_eq k.subject n ≡ b → (b || is_listed n (numbers ks)) ≡ true
          → (is_listed n (numbers ks) ≡ true → numbers (keys_from (aged_key_cmp age) (Some (number_key n)) ks) ≡ after_number n (numbers ks))
          → numbers (keys_from (aged_key_cmp age) (Some (number_key n)) (k ∷ ks)) ≡ cond b (numbers ks) (after_number n (numbers ks))
      by_test true is f later =
          let here : k.subject ≡ n = eqb-true k.subject n is in
          let tied : aged_key_cmp age (number_key n) k ≡ Equal = same_place age (number_key n) k (sym here) in
          rw tied (ap numbers (all_left n ks (above_number n k ks here up.0)))
      by_test false is f later = rw (not_past n k ks up.0 f) (later f)

  -- the same, and all where no number is given
  pub numbers_from : (from : Option ℕ) (ks : List Key) → IsRising (aged_key_cmp age) ks → IfSome from (λ n. is_listed n (numbers ks) ≡ true)
      → numbers (keys_from (aged_key_cmp age) (key_if from) ks) ≡ numbers_after from (numbers ks)
  numbers_from None ks up h = ap numbers (from_all (aged_key_cmp age) ks)
  numbers_from (Some n) ks up h = after_one n ks up h

  -- what holds of keys by their numbers holds of the numbers
  pub all_numbers : (P : ℕ → Type 0) (ks : List Key) → AllKeys (λ k. P (key_number k)) ks → AllByRecursion P (numbers ks)
  all_numbers P [] h = tt
  all_numbers P (k ∷ ks) h = (h.0, all_numbers P ks h.1)

  -- keys that rise have numbers that rise
  pub numbers_rise : (ks : List Key) → IsRising (aged_key_cmp age) ks → IsStrictlySortedBy (aged_number_cmp age) (numbers ks)
  unfolding IsStrictlySortedBy
  numbers_rise [] up = tt
  numbers_rise (k ∷ ks) up = (all_numbers (λ n. aged_number_cmp age k.subject n ≡ Less) ks up.0, numbers_rise ks up.1)

-- one that goes into keys of other numbers
insert_among : (es : List Entry) (n : ℕ) (ks : List Key) → AllKeys (λ k. key_number k ≢ n) ks → numbers (insert_key (aged_key_cmp (age_in es)) (number_key n) ks) ≡ with_number es n (numbers ks)
insert_among es n [] h = refl
insert_among es n (k ∷ ks) h = by_answer (aged_key_cmp (age_in es) (number_key n) k) refl (insert_among es n ks h.1)
  where
    by_answer : (o : Ordering) → aged_key_cmp (age_in es) (number_key n) k ≡ o → numbers (insert_key (aged_key_cmp (age_in es)) (number_key n) ks) ≡ with_number es n (numbers ks)
        → numbers (insert_by o (number_key n) k ks (insert_key (aged_key_cmp (age_in es)) (number_key n) ks)) ≡ cond (is_lt o) (n ∷ k.subject ∷ numbers ks) (k.subject ∷ with_number es n (numbers ks))
    by_answer Less is later = refl
    by_answer Equal is later = absurd (h.0 (sym (tied_keys (age_in es) (number_key n) k is)))
    by_answer Greater is later = ap (λ ns. k.subject ∷ ns) later

-- one that goes into keys that lack it
pub numbers_insert : (es : List Entry) (n : ℕ) (ks : List Key) → is_listed n (numbers ks) ≡ false → numbers (insert_key (aged_key_cmp (age_in es)) (number_key n) ks) ≡ with_number es n (numbers ks)
numbers_insert es n ks e = insert_among es n ks (none_listed n ks e)
