-- Lists that are cut at one of their elements, or after so many.
use Rattle.std.proofs.Common.{◌≡◌, ℕ, ◌+◌, ◌<◌, ◌≤◌, min, Bool, true, false, cond, List, [], ◌∷◌, ◌++◌, length, get_or, take, drop, refl, sym, ap, ◌∙◌, inl, inr, arith, length-append}
use Rattle.std.specs.List.{All, filter}
use Rattle.std.proofs.lemmas.Bool.{cases_lt}
use Rattle.std.proofs.lemmas.List.{take-append-drop, take-append-le, length-take, length-take-le, take_all, drop_all, drop_more}
use Rattle.std.proofs.lemmas.List.Elements.{All-nil, All-cons}

-- the first n are no more than n
pub short_take : {A : Type 0} (n : ℕ) (xs : List A) → length (take n xs) ≤ n
short_take n xs = omega (arith, length-take n xs)

-- the first n of some elements and others are those of all of them and the others
pub take_twice : {A : Type 0} (n : ℕ) (xs ys : List A) → take n (take n xs ++ ys) ≡ take n (xs ++ ys)
take_twice n xs ys = elim (cases_lt n (length xs)) [
  | inl few ↦
      let long : length (take n xs) ≡ n = length-take-le n xs (omega arith) in
      take-append-le n (take n xs) ys (omega arith) ∙ take_all n (take n xs) (omega arith) ∙ sym (take-append-le n xs ys (omega arith))
  | inr all ↦ ap (λ zs. take n (zs ++ ys)) (take_all n xs all)
]

-- no more are taken than there are
pub take_least : {A : Type 0} (n : ℕ) (xs : List A) → take (min n (length xs)) xs ≡ take n xs
take_least n xs = elim (cases_lt n (length xs)) [
  | inl few ↦ ap (λ m. take m xs) (omega arith)
  | inr all ↦ take_all (min n (length xs)) xs (omega arith) ∙ sym (take_all n xs all)
]

-- nor are more left out
pub drop_least : {A : Type 0} (n : ℕ) (xs : List A) → drop (min n (length xs)) xs ≡ drop n xs
drop_least n xs = elim (cases_lt n (length xs)) [
  | inl few ↦ ap (λ m. drop m xs) (omega arith)
  | inr all ↦ drop_all (min n (length xs)) xs (omega arith) ∙ sym (drop_all n xs all)
]

-- a list cut at its n-th element
pub cut_at : {A : Type 0} (xs : List A) (n : ℕ) (d : A) → n < length xs → xs ≡ take n xs ++ get_or xs n d ∷ drop (n + 1) xs
cut_at xs n d h = sym (take-append-drop n xs) ∙ ap (λ ys. take n xs ++ ys) (drop_more xs n d h)

-- an empty list has no element
pub none_there : {A : Type 0} (xs : List A) (x : A) (ys : List A) → [] ≡ xs ++ x ∷ ys → ⊥
none_there xs x ys e = omega (arith, ap length e, length-append xs (x ∷ ys))

-- where an element of two lists stands
pub data IsCutIn {A : Type 0} (us vs xs : List A) (x : A) (ys : List A) : Type 0 where
  inside : (zs : List A) → us ≡ xs ++ x ∷ zs → ys ≡ zs ++ vs → IsCutIn us vs xs x ys
  after : (zs : List A) → vs ≡ zs ++ x ∷ ys → IsCutIn us vs xs x ys

-- it is in the first or in the second
pub cut_in : {A : Type 0} (us vs xs : List A) (x : A) (ys : List A) → us ++ vs ≡ xs ++ x ∷ ys → IsCutIn us vs xs x ys
cut_in [] vs xs x ys e = after xs e
cut_in (u ∷ us) vs [] x ys e =
    let first : u ≡ x = cc in
    let rest : us ++ vs ≡ ys = cc in
    inside us (ap (λ z. z ∷ us) first) (sym rest)
cut_in (u ∷ us) vs (b ∷ xs) x ys e = go (cut_in us vs xs x ys (let rest : us ++ vs ≡ xs ++ x ∷ ys = cc in rest))
  where
    go : IsCutIn us vs xs x ys → IsCutIn (u ∷ us) vs (b ∷ xs) x ys
    go (inside zs is others) = let first : u ≡ b = cc in inside zs (λ i. first i ∷ is i) others
    go (after zs is) = after zs is

-- what is left by a test passes it
pub filter_passes : {A : Type 0} (p : A → Bool) (xs : List A) → All (λ x. p x ≡ true) (filter p xs)
filter_passes p [] = All-nil (λ x. p x ≡ true)
filter_passes p (x ∷ xs) = go (filter_passes p xs) (p x) refl
  where
    go : All (λ x. p x ≡ true) (filter p xs) → (b : Bool) → p x ≡ b → All (λ x. p x ≡ true) (cond b (x ∷ filter p xs) (filter p xs))
    go rest true is = All-cons (λ x. p x ≡ true) x (filter p xs) is rest
    go rest false is = rest
