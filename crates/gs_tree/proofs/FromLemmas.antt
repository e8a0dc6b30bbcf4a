-- The keys from a place on, in a list cut at one of its keys.
use Rattle.std.proofs.Common.{◌≡◌, ℕ, ◌+◌, ◌-◌, min, true, false, List, [], ◌∷◌, ◌++◌, length, take, Option, Some, None, refl, sym, ap, ◌∙◌, inl, inr, arith, append_assoc, length-append, true≢false}
use Rattle.std.specs.List.{filter}
use Rattle.std.proofs.lemmas.Bool.{cases_lt}
use Rattle.std.proofs.lemmas.List.{length-take-le, take-append-le, take_all, append-nil}
use Rattle.std.proofs.lemmas.List.Elements.{filter-append}
use Rattle.std.proofs.Math.Seq.{take-append-add}
use Rattle.std.specs.declared.cmp.Ordering.{Ordering}
use Rattle.std.specs.declared.cmp.Ordering.TheVariants.{Less, Equal, Greater}
use Rattle.std.specs.Cmp.{IsTotalOrder}
use Rattle.gs_pool.specs.declared.nodes.Key.{Key}
use Rattle.gs_tree.specs.Keys.{AllKeys, IsRising, HasKey}
use Rattle.gs_tree.specs.Reading.{is_less, is_past, keys_from, first_key, filled_up}
use Rattle.gs_tree.proofs.Order.{all_middle}

pub less_is : (o : Ordering) → is_less o ≡ true → o ≡ Less
less_is Less h = refl
less_is Equal h = absurd (true≢false (sym h))
less_is Greater h = absurd (true≢false (sym h))

-- the key there, or this one where there is none
abbrev pub or_else : Option Key → Key → Option Key
or_else None k = Some k
or_else (Some y) k = Some y

pub first_append : (xs : List Key) (k : Key) (ys : List Key) → first_key (xs ++ k ∷ ys) ≡ or_else (first_key xs) k
first_append [] k ys = refl
first_append (x ∷ xs) k ys = refl

module _ (cmp : Key → Key → Ordering) (total : IsTotalOrder cmp) where
  -- a key above one that is past is past too
  past_up : (from : Option Key) (k y : Key) → is_past cmp from k ≡ true → cmp k y ≡ Less → is_past cmp from y ≡ true
  past_up None k y h l = refl
  past_up (Some x) k y h l = ap is_less (total.trans x k y (less_is (cmp x k) h) l)

  -- a key below one that is not past is not either
  past_down : (from : Option Key) (k y : Key) → is_past cmp from k ≡ false → cmp y k ≡ Less → is_past cmp from y ≡ false
  past_down None k y h l = absurd (true≢false h)
  past_down (Some x) k y h l = by_answer (cmp x y) refl
    where
      by_answer : (o : Ordering) → cmp x y ≡ o → is_less (cmp x y) ≡ false
      by_answer Less e = absurd (true≢false (sym (ap is_less (total.trans x y k e l)) ∙ h))
      by_answer Equal e = ap is_less e
      by_answer Greater e = ap is_less e

  -- all keys above one that is past are past
  all_past : (from : Option Key) (k : Key) (r : List Key) → is_past cmp from k ≡ true → AllKeys (λ y. cmp k y ≡ Less) r → filter (is_past cmp from) r ≡ filter (is_past cmp None) r
  all_past from k [] h a = refl
  all_past from k (y ∷ r) h a = rw (past_up from k y h a.0) (ap (λ ys. y ∷ ys) (all_past from k r h a.1))

  above_middle : (l : List Key) (k : Key) (r : List Key) → IsRising cmp (l ++ k ∷ r) → AllKeys (λ y. cmp k y ≡ Less) r
  above_middle [] k r s = s.0
  above_middle (y ∷ l) k r s = above_middle l k r s.1

  -- where a key is past, so are those after it
  pub from_past : (from : Option Key) (k : Key) (l r : List Key) → is_past cmp from k ≡ true → IsRising cmp (l ++ k ∷ r) → keys_from cmp from (l ++ k ∷ r) ≡ keys_from cmp from l ++ k ∷ keys_from cmp None r
  from_past from k l r h s = filter-append (is_past cmp from) l (k ∷ r) ∙ ap (λ ys. keys_from cmp from l ++ ys) (rw h (ap (λ ys. k ∷ ys) (all_past from k r h (above_middle l k r s))))

  -- where a key is not past, those before it are not either
  pub from_not_past : (from : Option Key) (k : Key) (l r : List Key) → is_past cmp from k ≡ false → IsRising cmp (l ++ k ∷ r) → keys_from cmp from (l ++ k ∷ r) ≡ keys_from cmp from r
  from_not_past from k [] r h s = rw h refl
  from_not_past from k (y ∷ t) r h s = rw (past_down from k y h (all_middle (λ z. cmp y z ≡ Less) t k r s.0)) (from_not_past from k t r h s.1)

  -- a key is in a list that has it in a part
  pub has_front : (x k : Key) (l r : List Key) → HasKey cmp x l → HasKey cmp x (l ++ k ∷ r)
  has_front x k [] r p = absurd p
  has_front x k (y ∷ t) r p = elim p [ inl e ↦ inl e | inr q ↦ inr (has_front x k t r q) ]

  pub has_back : (x k : Key) (l r : List Key) → (cmp x k ≡ Equal) → HasKey cmp x (l ++ k ∷ r)
  has_back x k [] r e = inl e
  has_back x k (y ∷ t) r e = inr (has_back x k t r e)

  pub has_after : (x k : Key) (l r : List Key) → HasKey cmp x r → HasKey cmp x (l ++ k ∷ r)
  has_after x k [] r p = inr p
  has_after x k (y ∷ t) r p = inr (has_after x k t r p)

-- from no place on, the keys are all
pub from_all : (cmp : Key → Key → Ordering) (ks : List Key) → keys_from cmp None ks ≡ ks
from_all cmp [] = refl
from_all cmp (k ∷ ks) = ap (λ ys. k ∷ ys) (from_all cmp ks)

-- filling up in two goes
pub filled_twice : (end : ℕ) (xs ys zs : List Key) → filled_up end (filled_up end xs ys) zs ≡ filled_up end xs (ys ++ zs)
filled_twice end xs ys zs = elim (cases_lt (length ys) (end - length xs)) [
  | inr short ↦
      let none : end - length (filled_up end xs ys) ≡ 0 = omega (arith, length-append xs (take (end - length xs) ys), length-take-le (end - length xs) ys short) in
      rw (none, take-append-le (end - length xs) ys zs short) (append-nil (xs ++ take (end - length xs) ys))
  | inl long ↦
      let rest = end - length xs - length ys in
      let whole : take (end - length xs) ys ≡ ys = take_all (end - length xs) ys (omega arith) in
      let more : end - length xs ≡ length ys + rest = omega arith in
      let left : end - length (xs ++ ys) ≡ rest = omega (arith, length-append xs ys) in
      rw (whole, left) (append_assoc xs ys (take rest zs) ∙ ap (λ us. xs ++ us) (sym (take-append-add ys zs rest) ∙ ap (λ n. take n (ys ++ zs)) (sym more)))
]

-- no more are taken than there are
pub take_min : (n : ℕ) (xs : List Key) → take (min n (length xs)) xs ≡ take n xs
take_min n xs = elim (cases_lt n (length xs)) [
  | inl few ↦ ap (λ m. take m xs) (omega arith)
  | inr all ↦ take_all (min n (length xs)) xs (omega arith) ∙ sym (take_all n xs all)
]
