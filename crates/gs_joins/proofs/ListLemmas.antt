-- What stands in lists that are put together and passed through tests.
use Rattle.std.proofs.Common.{◌≡◌, ◌<◌, ℕ, zero, suc, length, ◌⊎◌, Bool, true, false, ◌||◌, List, [], ◌∷◌, get_or, refl, sym, ap, ◌∙◌, subst, inl, inr, arith}
use Rattle.std.specs.List.{list_any, filter, All, Contains}
use Rattle.std.proofs.lemmas.List.Elements.{Contains-get_or, Contains-append_left, Contains-append_right, Contains-push, Contains-push_cases, Contains-append_cases}
use Rattle.std.proofs.lemmas.List.Folds.{list_any_at, list_any_none}

-- nothing is in the empty list
pub contains_none : {X : Type 0} (y : X) → Contains [] y → ⊥
contains_none y (k, h, e) = omega arith

-- the first element is in a list
pub contains_head : {X : Type 0} (x : X) (xs : List X) → Contains (x ∷ xs) x
contains_head x xs = Contains-append_left (x ∷ []) xs x (Contains-push [] x)

-- so are the others
pub contains_tail : {X : Type 0} (x : X) (xs : List X) (y : X) → Contains xs y → Contains (x ∷ xs) y
contains_tail x xs y h = Contains-append_right (x ∷ []) xs y h

-- and nothing else
pub contains_cases : {X : Type 0} (x : X) (xs : List X) (y : X) → Contains (x ∷ xs) y → (x ≡ y) ⊎ Contains xs y
contains_cases x xs y h = elim (Contains-append_cases (x ∷ []) xs y h) [
  | inl here ↦ elim (Contains-push_cases [] x y here) [
    | inl none ↦ absurd (contains_none y none)
    | inr is ↦ inl is
  ]
  | inr later ↦ inr later
]

-- what holds of each element
pub all_by : {X : Type 0} (P : X → Type 0) (xs : List X) → ((x : X) → Contains xs x → P x) → All P xs
all_by P xs h k d within = h (get_or xs k d) (Contains-get_or xs k d within)

-- an element that passes a test
pub any_has : {X : Type 0} (p : X → Bool) (xs : List X) (x : X) → Contains xs x → p x ≡ true → list_any p xs ≡ true
any_has p xs x (k, h, e) passes = list_any_at p xs k x h (subst (λ y. p y ≡ true) (sym e) passes)

-- there is one where the test of all says so
pub any_some : {X : Type 0} (p : X → Bool) (xs : List X) → list_any p xs ≡ true → (x : X) × Contains xs x × (p x ≡ true)
any_some p [] h = absurd (cc)
any_some p (x ∷ xs) h = by_test (p x) refl h (any_some p xs)
  where
    by_test : (b : Bool) → p x ≡ b → (b || list_any p xs) ≡ true → (list_any p xs ≡ true → (y : _) × Contains xs y × (p y ≡ true)) → (y : _) × Contains (x ∷ xs) y × (p y ≡ true)
    by_test true e h again = (x, contains_head x xs, e)
    by_test false e h again = let (y, there, passes) = again h in (y, contains_tail x xs y there, passes)

-- there is none where each fails
pub any_none : {X : Type 0} (p : X → Bool) (xs : List X) → ((x : X) → Contains xs x → p x ≡ false) → list_any p xs ≡ false
any_none p xs h = list_any_none p xs (all_by (λ x. p x ≡ false) xs h)

-- an element that passes is kept
pub filter_has : {X : Type 0} (p : X → Bool) (xs : List X) (x : X) → Contains xs x → p x ≡ true → Contains (filter p xs) x
filter_has p [] x there passes = absurd (contains_none x there)
filter_has p (z ∷ xs) x there passes = by_test (p z) refl (contains_cases z xs x there) (filter_has p xs x)
  where
    by_test : (b : Bool) → p z ≡ b → (z ≡ x) ⊎ Contains xs x → (Contains xs x → p x ≡ true → Contains (filter p xs) x) → Contains (filter p (z ∷ xs)) x
    by_test true e (inl is) again = rw e (subst (λ w. Contains (z ∷ filter p xs) w) is (contains_head z (filter p xs)))
    by_test true e (inr later) again = rw e (contains_tail z (filter p xs) x (again later passes))
    by_test false e (inl is) again = let bad : false ≡ true = sym e ∙ ap p is ∙ passes in absurd (cc)
    by_test false e (inr later) again = rw e (again later passes)

-- and what is kept was there and passes
pub filter_some : {X : Type 0} (p : X → Bool) (xs : List X) (x : X) → Contains (filter p xs) x → Contains xs x × (p x ≡ true)
filter_some p [] x h = absurd (contains_none x h)
filter_some p (z ∷ xs) x h = by_test (p z) refl (filter_some p xs x) h
  where
    by_test : (b : Bool) → p z ≡ b → (Contains (filter p xs) x → Contains xs x × (p x ≡ true)) → Contains (filter p (z ∷ xs)) x → Contains (z ∷ xs) x × (p x ≡ true)
    by_test true e again h = elim (contains_cases z (filter p xs) x (rw e at h)) [
      | inl is ↦ (subst (λ w. Contains (z ∷ xs) w) is (contains_head z xs), ap p (sym is) ∙ e)
      | inr later ↦ let both = again later in (contains_tail z xs x both.0, both.1)
    ]
    by_test false e again h = let both = again (rw e at h) in (contains_tail z xs x both.0, both.1)

-- an element, whatever stands for one past the end
pub get_or_any : {X : Type 0} (xs : List X) (i : ℕ) (d e : X) → i < length xs → get_or xs i d ≡ get_or xs i e
get_or_any [] i d e h = absurd (omega arith)
get_or_any (x ∷ xs) zero d e h = refl
get_or_any (x ∷ xs) (suc i) d e h = get_or_any xs i d e (omega arith)
