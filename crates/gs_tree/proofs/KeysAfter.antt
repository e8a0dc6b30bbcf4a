-- The keys that are left after one of those that were left from a place on.
use Rattle.std.proofs.Common.{◌≡◌, ℕ, ◌+◌, ◌<◌, Bool, true, false, cond, List, [], ◌∷◌, ◌++◌, length, get_or, take, drop, Option, Some, None, refl, sym, ap, ◌∙◌, subst, arith, length-append}
use Rattle.std.specs.declared.cmp.Ordering.{Ordering}
use Rattle.std.specs.declared.cmp.Ordering.TheVariants.{Less}
use Rattle.std.specs.Cmp.{IsTotalOrder}
use Rattle.std.proofs.lemmas.Cmp.{tied_itself}
use Rattle.std.proofs.lemmas.List.{drop_more, take-append-drop}
use Rattle.gs_pool.specs.declared.nodes.Key.{Key}
use Rattle.gs_tree.specs.Keys.{AllKeys, IsRising}
use Rattle.gs_tree.specs.Reading.{is_past, keys_from}
use Rattle.gs_tree.proofs.Order.{below, all_middle}
use Rattle.gs_tree.proofs.FromLemmas.{from_past, from_all}

-- an empty list has no key in it
none_there : (xs : List Key) (k : Key) (ys : List Key) → [] ≡ xs ++ k ∷ ys → ⊥
none_there xs k ys e = omega (arith, ap length e, length-append xs (k ∷ ys))

module _ (cmp : Key → Key → Ordering) where
  -- what holds of all keys holds of those that are left
  pub all_from : (P : Key → Type 0) (from : Option Key) (ks : List Key) → AllKeys P ks → AllKeys P (keys_from cmp from ks)
  all_from P from [] h = tt
  all_from P from (k ∷ ks) h = by_test (is_past cmp from k) (all_from P from ks h.1)
    where
      by_test : (b : Bool) → AllKeys P (keys_from cmp from ks) → AllKeys P (cond b (k ∷ keys_from cmp from ks) (keys_from cmp from ks))
      by_test true rest = (h.0, rest)
      by_test false rest = rest

  -- keys above one are all left after it
  all_above : (k : Key) (ks : List Key) → AllKeys (λ y. cmp k y ≡ Less) ks → keys_from cmp (Some k) ks ≡ ks
  all_above k [] h = refl
  all_above k (y ∷ ks) h = rw h.0 (ap (λ ys. y ∷ ys) (all_above k ks h.1))

module _ (cmp : Key → Key → Ordering) (total : IsTotalOrder cmp) where
  -- a key below the one given is passed
  passed : (a k : Key) (ks ys : List Key) → cmp a k ≡ Less → keys_from cmp (Some k) ks ≡ ys → keys_from cmp (Some k) (a ∷ ks) ≡ ys
  passed a k ks ys less rest = rw (below cmp total a k less) rest

  -- a key is below each that is left of those above it
  below_left : (from : Option Key) (a k : Key) (ks xs ys : List Key) → AllKeys (λ y. cmp a y ≡ Less) ks → keys_from cmp from ks ≡ xs ++ k ∷ ys → cmp a k ≡ Less
  below_left from a k ks xs ys above is = all_middle (λ y. cmp a y ≡ Less) xs k ys (subst (AllKeys (λ y. cmp a y ≡ Less)) is (all_from cmp (λ y. cmp a y ≡ Less) from ks above))

  -- where the first of all is the key
  after_first : (from : Option Key) (a : Key) (ks : List Key) → IsRising cmp (a ∷ ks) → is_past cmp from a ≡ true → keys_from cmp (Some a) (a ∷ ks) ≡ keys_from cmp from ks
  after_first from a ks rises past =
      let cut : a ∷ keys_from cmp from ks ≡ a ∷ keys_from cmp None ks = subst (λ b. cond b (a ∷ keys_from cmp from ks) (keys_from cmp from ks) ≡ a ∷ keys_from cmp None ks) past (from_past cmp total from a [] ks past rises) in
      let rest : keys_from cmp from ks ≡ keys_from cmp None ks = cc in
      let whole : keys_from cmp (Some a) (a ∷ ks) ≡ ks = rw (tied_itself total a) (all_above cmp a ks rises.0) in
      whole ∙ sym (rest ∙ from_all cmp ks)

  -- by whether the first of all is past the place
  by_first : (from : Option Key) (a k : Key) (ks ys : List Key) → IsRising cmp (a ∷ ks) → ((zs : List Key) → keys_from cmp from ks ≡ zs ++ k ∷ ys → keys_from cmp (Some k) ks ≡ ys)
      → (b : Bool) → is_past cmp from a ≡ b → (xs : List Key) → cond b (a ∷ keys_from cmp from ks) (keys_from cmp from ks) ≡ xs ++ k ∷ ys → keys_from cmp (Some k) (a ∷ ks) ≡ ys
  by_first from a k ks ys rises later false past xs e = passed a k ks ys (below_left from a k ks xs ys rises.0 e) (later xs e)
  by_first from a k ks ys rises later true past [] e =
      let same : a ≡ k = cc in
      let rest : keys_from cmp from ks ≡ ys = cc in
      subst (λ x. keys_from cmp (Some x) (a ∷ ks) ≡ ys) same (after_first from a ks rises past ∙ rest)
  by_first from a k ks ys rises later true past (x ∷ xs) e =
      let rest : keys_from cmp from ks ≡ xs ++ k ∷ ys = cc in
      passed a k ks ys (below_left from a k ks xs ys rises.0 rest) (later xs rest)

  -- after a key of those from a place on, the keys that stand after it are left
  pub left_after : (from : Option Key) (ks xs : List Key) (k : Key) (ys : List Key) → IsRising cmp ks → keys_from cmp from ks ≡ xs ++ k ∷ ys → keys_from cmp (Some k) ks ≡ ys
  left_after from [] xs k ys rises e = absurd (none_there xs k ys e)
  left_after from (a ∷ ks) xs k ys rises e = by_first from a k ks ys rises (λ zs is. left_after from ks zs k ys rises.1 is) (is_past cmp from a) refl xs e

-- a list cut at its n-th key, the last of the first n + 1
pub cut_at : (ks : List Key) (n : ℕ) (d : Key) → n < length ks → ks ≡ take n ks ++ get_or ks n d ∷ drop (n + 1) ks
cut_at ks n d h = sym (take-append-drop n ks) ∙ ap (λ ys. take n ks ++ ys) (drop_more ks n d h)
