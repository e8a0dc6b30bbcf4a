-- What stands in lists that are gone through.
use Rattle.std.proofs.Common.{◌≡◌, List, [], ◌∷◌, map, sym, subst, inl, inr}
use Rattle.std.specs.List.{flat_map, Contains}
use Rattle.std.proofs.lemmas.List.Elements.{Contains-append_left, Contains-append_right, Contains-append_cases}
use Rattle.gs_joins.proofs.ListLemmas.{contains_none, contains_head, contains_tail, contains_cases}

-- what is found at one of some elements
pub flat_has : {X Y : Type 0} (f : X → List Y) (xs : List X) (x : X) (y : Y) → Contains xs x → Contains (f x) y → Contains (flat_map f xs) y
flat_has f [] x y there here = absurd (contains_none x there)
flat_has f (z ∷ xs) x y there here = elim (contains_cases z xs x there) [
  | inl is ↦ Contains-append_left (f z) (flat_map f xs) y (subst (λ w. Contains (f w) y) (sym is) here)
  | inr later ↦ Contains-append_right (f z) (flat_map f xs) y (flat_has f xs x y later here)
]

-- and the other way round
pub flat_some : {X Y : Type 0} (f : X → List Y) (xs : List X) (y : Y) → Contains (flat_map f xs) y → (x : X) × Contains xs x × Contains (f x) y
flat_some f [] y h = absurd (contains_none y h)
flat_some f (z ∷ xs) y h = elim (Contains-append_cases (f z) (flat_map f xs) y h) [
  | inl here ↦ (z, contains_head z xs, here)
  | inr later ↦ let (x, there, here) = flat_some f xs y later in (x, contains_tail z xs x there, here)
]

-- the image of an element
pub map_has : {X Y : Type 0} (f : X → Y) (xs : List X) (x : X) → Contains xs x → Contains (map f xs) (f x)
map_has f [] x there = absurd (contains_none x there)
map_has f (z ∷ xs) x there = elim (contains_cases z xs x there) [
  | inl is ↦ subst (λ w. Contains (map f (z ∷ xs)) (f w)) is (contains_head (f z) (map f xs))
  | inr later ↦ contains_tail (f z) (map f xs) (f x) (map_has f xs x later)
]

-- and what it is the image of
pub map_some : {X Y : Type 0} (f : X → Y) (xs : List X) (y : Y) → Contains (map f xs) y → (x : X) × Contains xs x × (f x ≡ y)
map_some f [] y h = absurd (contains_none y h)
map_some f (z ∷ xs) y h = elim (contains_cases (f z) (map f xs) y h) [
  | inl is ↦ (z, contains_head z xs, is)
  | inr later ↦ let (x, there, is) = map_some f xs y later in (x, contains_tail z xs x there, is)
]
