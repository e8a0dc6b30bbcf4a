-- Which numbers are listed.
use Rattle.std.proofs.Common.{◌≡◌, ◌⊎◌, ℕ, Bool, true, false, cond, ◌||◌, ◌==◌, T, List, [], ◌∷◌, refl, sym, ap, subst, ◌∙◌, inl, inr, true≢false}
use Rattle.std.proofs.lemmas.Map.Views.{exact_unsigned_eq}
use Rattle.std.proofs.Math.Dec.{eqb_refl}
use Rattle.std.specs.List.{AllByRecursion, find}
use Rattle.std.specs.List.Sorted.{IsStrictlySortedBy}
use Rattle.std.specs.declared.cmp.Ordering.{Ordering}
use Rattle.std.specs.declared.cmp.Ordering.TheVariants.{Less}
use Rattle.std.specs.Prelude.{Some, None}
use Rattle.gs_index.specs.declared.entries.Entry.{Entry}
use Rattle.gs_index.specs.Indexes.{number_is_before, is_listed, with_number}

pub is_true : (b : Bool) → T b → b ≡ true
is_true true h = refl
is_true false h = absurd h

pub same_number : (n : ℕ) → (n == n) ≡ true
same_number n = is_true _ (eqb_refl n)

swap_or : (a b c : Bool) → (a || (b || c)) ≡ (b || (a || c))
swap_or true true c = refl
swap_or true false c = refl
swap_or false b c = refl

-- a number that is put in its place is listed, and so are all others that were
pub listed_with : (es : List Entry) (n m : ℕ) (ns : List ℕ) → is_listed m (with_number es n ns) ≡ ((n == m) || is_listed m ns)
listed_with es n m [] = refl
listed_with es n m (k ∷ ks) = go (listed_with es n m ks) (number_is_before es n k)
  where
    go : is_listed m (with_number es n ks) ≡ ((n == m) || is_listed m ks) → (b : Bool) → is_listed m (cond b (n ∷ k ∷ ks) (k ∷ with_number es n ks)) ≡ ((n == m) || is_listed m (k ∷ ks))
    go rest true = refl
    go rest false = ap (λ b. (k == m) || b) rest ∙ swap_or (k == m) (n == m) (is_listed m ks)

pub or_cases : (a b : Bool) → (a || b) ≡ true → (a ≡ true) ⊎ (b ≡ true)
or_cases true b h = inl refl
or_cases false b h = inr h

pub all_less : (cmp : ℕ → ℕ → Ordering) (n m : ℕ) (ns : List ℕ) → AllByRecursion (λ k. cmp n k ≡ Less) ns → is_listed m ns ≡ true → cmp n m ≡ Less
all_less cmp n m [] h is = absurd (true≢false (sym is))
all_less cmp n m (k ∷ ks) h is = elim (or_cases (k == m) (is_listed m ks) is) [
  | inl here ↦ ap (cmp n) (sym (exact_unsigned_eq k m here)) ∙ h.0
  | inr later ↦ all_less cmp n m ks h.1 later
]

-- what a search finds is listed and passes, and comes before all others that do
pub record IsFirst (cmp : ℕ → ℕ → Ordering) (test : ℕ → Bool) (ns : List ℕ) (n : ℕ) : Type 0 where
  pub listed : is_listed n ns ≡ true
  pub passes : test n ≡ true
  pub before : (m : ℕ) → is_listed m ns ≡ true → test m ≡ true → (m ≡ n) ⊎ (cmp n m ≡ Less)

pub find_first : (cmp : ℕ → ℕ → Ordering) (test : ℕ → Bool) (ns : List ℕ) (n : ℕ) → IsStrictlySortedBy cmp ns → find test ns ≡ Some n → IsFirst cmp test ns n
unfolding IsStrictlySortedBy
find_first cmp test [] n sorted e = absurd (let bad : None ≡ Some n = e in cc)
find_first cmp test (k ∷ ks) n sorted e = go (λ is. find_first cmp test ks n sorted.1 is) (test k) refl e
  where
    go : (find test ks ≡ Some n → IsFirst cmp test ks n) → (b : Bool) → test k ≡ b → cond b (Some k) (find test ks) ≡ Some n → IsFirst cmp test (k ∷ ks) n
    go more true passes is =
        let same : k ≡ n = cc in
        record {
          listed = subst (λ j. is_listed j (k ∷ ks) ≡ true) same (ap (λ b. b || is_listed k ks) (same_number k));
          passes = ap test (sym same) ∙ passes;
          before = λ m is_in p. elim (or_cases (k == m) (is_listed m ks) is_in) [
            | inl here ↦ inl (sym (exact_unsigned_eq k m here) ∙ same)
            | inr later ↦ inr (ap (λ j. cmp j m) (sym same) ∙ all_less cmp k m ks sorted.0 later)
          ];
        }
    go more false fails is =
        let rest = more is in
        record {
          listed = ap (λ b. (k == n) || b) rest.listed ∙ or_true (k == n);
          passes = rest.passes;
          before = λ m is_in p. elim (or_cases (k == m) (is_listed m ks) is_in) [
            | inl here ↦ absurd (true≢false (sym p ∙ ap test (sym (exact_unsigned_eq k m here)) ∙ fails))
            | inr later ↦ rest.before m later p
          ];
        }
      where
        or_true : (b : Bool) → (b || true) ≡ true
        or_true true = refl
        or_true false = refl

-- where a search finds none, no listed number passes
pub find_none : (test : ℕ → Bool) (ns : List ℕ) → find test ns ≡ None → (m : ℕ) → is_listed m ns ≡ true → test m ≡ true → ⊥
find_none test [] e m is p = true≢false (sym is)
find_none test (k ∷ ks) e m is p = go (λ none later. find_none test ks none m later p) (test k) refl e
  where
    go : (find test ks ≡ None → is_listed m ks ≡ true → ⊥) → (b : Bool) → test k ≡ b → cond b (Some k) (find test ks) ≡ None → ⊥
    go more true passes is_none = absurd (let bad : Some k ≡ None = is_none in cc)
    go more false fails is_none = elim (or_cases (k == m) (is_listed m ks) is) [
      | inl here ↦ true≢false (sym p ∙ ap test (sym (exact_unsigned_eq k m here)) ∙ fails)
      | inr later ↦ more is_none later
    ]
