-- What is on lists through elements, by number, and how two of them become one.
use Rattle.std.proofs.Common.{◌≡◌, ◌≢◌, ℕ, suc, ◌+◌, ◌<◌, ◌≤◌, Bool, true, false, cond, List, [], ◌∷◌, ◌++◌, map, length, get_or, set, Option, Some, slice_get, sym, ap, subst, ◌∙◌, inl, inr, arith}
use Rattle.std.proofs.lemmas.Bool.{cases_eq, cases_lt}
use Rattle.std.proofs.lemmas.List.{map-set, length-map, get_or-map, get_or-set_same, get_or-set_other, get_or_past}
use Rattle.std.proofs.lemmas.List.Sums.{sum_by-cons, get_or-le-sum_by}
use Rattle.std.proofs.Math.Seq.{map-set_same}
use Rattle.std.specs.List.{sum_by}
use Rattle.gs_pool.specs.Lists.{IsChain, times, last_in_list, is_retired_at}
use Rattle.gs_pool.proofs.ListLemmas.{times_same, times_other, fewer_times, written, not_written}

-- 1 for a test that is passed
abbrev pub flag : Bool → ℕ
flag b = cond {A = ℕ} b 1 0

-- which is never more than 1
pub flag_most : (b : Bool) → flag b ≤ 1
flag_most true = omega arith
flag_most false = omega arith

-- what an element was and is, by number
pub retired_was : {A : Type 0} (is_retired : A → Bool) (items : List A) (id : ℕ) (d : A) → id < length items → d ≡ get_or items id d → is_retired_at is_retired items id ≡ is_retired d
retired_was is_retired items id d within read = get_or-map is_retired items id d false within ∙ ap is_retired (sym read)

pub retired_here : {A : Type 0} (is_retired : A → Bool) (items : List A) (id : ℕ) (s : A) → id < length items → is_retired_at is_retired (set items id s) id ≡ is_retired s
retired_here is_retired items id s within = rw (map-set is_retired items id s) (get_or-set_same (map is_retired items) id (is_retired s) false (omega (arith, length-map items is_retired)))

pub retired_else : {A : Type 0} (is_retired : A → Bool) (items : List A) (id x : ℕ) (s : A) → x ≢ id → is_retired_at is_retired (set items id s) x ≡ is_retired_at is_retired items x
retired_else is_retired items id x s ne = rw (map-set is_retired items id s) (get_or-set_other (map is_retired items) id x (is_retired s) false ne)

pub retired_same : {A : Type 0} (is_retired : A → Bool) (items : List A) (id x : ℕ) (s d : A) → d ≡ get_or items id d → is_retired s ≡ is_retired d → is_retired_at is_retired (set items id s) x ≡ is_retired_at is_retired items x
retired_same is_retired items id x s d read same = ap (λ m. get_or m x false) (map-set_same is_retired items id s d (same ∙ ap is_retired read))

-- one list has a number no more often than all
pub times_held : (held : List (List ℕ)) (x k : ℕ) → times x (get_or held k []) ≤ sum_by (times x) held
times_held held x k = elim (cases_lt k (length held)) [
  | inl lt ↦ get_or-le-sum_by (times x) held k [] lt
  | inr past ↦ let e : get_or held k [] ≡ [] = get_or_past held k [] past in omega (arith, ap (times x) e)
]

-- what is in all lists is in one
pub found_in : (held : List (List ℕ)) (x : ℕ) → 0 < sum_by (times x) held → (k : ℕ) × (0 < times x (get_or held k []))
found_in [] x h = absurd (omega arith)
found_in (l ∷ ls) x h = elim (cases_lt 0 (times x l)) [
  | inl some ↦ (0, some)
  | inr none ↦ let f = found_in ls x (omega (arith, h, sum_by-cons (times x) l ls)) in (suc f.0, f.1)
]

-- what a list has passes its test
pub chain_on : {A : Type 0} (next_of : A → Option ℕ) (test : A → Bool) (items : List A) (first : Option ℕ) (ids : List ℕ) (x : ℕ) → IsChain next_of test items first ids → 0 < times x ids → (d : A) × (slice_get items x ≡ Some d) × (test d ≡ true)
chain_on next_of test items first [] x p h = absurd (omega arith)
chain_on next_of test items first (y ∷ ys) x p h = elim (cases_eq y x) [
  | inl same ↦ (p.1.0, subst (λ z. slice_get items z ≡ Some p.1.0) same p.1.1, p.1.2)
  | inr ne ↦ chain_on next_of test items (next_of p.1.0) ys x p.1.3 (omega (arith, times_other x y ys ne))
]

-- a list of elements that pass one test is one of those that pass a weaker one
pub chain_weaker : {A : Type 0} (next_of : A → Option ℕ) (test weak : A → Bool) (items : List A) (first : Option ℕ) (ids : List ℕ) → ((s : A) → test s ≡ true → weak s ≡ true) → IsChain next_of test items first ids → IsChain next_of weak items first ids
chain_weaker next_of test weak items first [] h p = p
chain_weaker next_of test weak items first (y ∷ ys) h p = (p.0, (p.1.0, p.1.1, h p.1.0 p.1.2, chain_weaker next_of test weak items (next_of p.1.0) ys h p.1.3))

-- the last number of a list is in it
pub last_in : (y : ℕ) (ys : List ℕ) → 0 < times (last_in_list y ys) (y ∷ ys)
last_in y [] = omega (arith, times_same y [])
last_in y (w ∷ ws) = elim (cases_eq y (last_in_list w ws)) [
  | inl same ↦ subst (λ z. 0 < times z (y ∷ w ∷ ws)) same (omega (arith, times_same y (w ∷ ws)))
  | inr ne ↦ omega (arith, times_other (last_in_list w ws) y (w ∷ ws) ne, last_in w ws)
]

-- a number is in two lists that are one as often as in both
pub times_append : (x : ℕ) (xs ys : List ℕ) → times x (xs ++ ys) ≡ times x xs + times x ys
times_append x [] ys = omega arith
times_append x (z ∷ xs) ys = omega (arith, times_append x xs ys)

-- the last element of a list names the first of another: the two are one
pub chain_join : {A : Type 0} (next_of : A → Option ℕ) (test : A → Bool) (items : List A) (z : ℕ) (s : A) (first second : Option ℕ) (y : ℕ) (ys ids : List ℕ) → IsChain next_of test items first (y ∷ ys) → z ≡ last_in_list y ys → ((x : ℕ) → times x (y ∷ ys) ≤ 1) → z < length items → test s ≡ true → next_of s ≡ second → IsChain next_of test (set items z s) second ids → IsChain next_of test (set items z s) first ((y ∷ ys) ++ ids)
chain_join next_of test items z s first second y [] ids p is once within now next rest =
    (p.0, (s, subst (λ x. slice_get (set items z s) x ≡ Some s) is (written items z s within), now, subst (λ o. IsChain next_of test (set items z s) o ids) (sym next) rest))
chain_join next_of test items z s first second y (w ∷ ws) ids p is once within now next rest =
    let ne : y ≢ z = λ e.
    let has : 0 < times y (w ∷ ws) = subst (λ x. 0 < times x (w ∷ ws)) (sym (e ∙ is)) (last_in w ws) in
    absurd (omega (arith, once y, times_same y (w ∷ ws))) in
    (p.0, (p.1.0, not_written items z y s p.1.0 ne p.1.1, p.1.2, chain_join next_of test items z s (next_of p.1.0) second w ws ids p.1.3 is (λ x. fewer_times x y (w ∷ ws) (once x)) within now next rest))
