-- What the code of the parts computes is what the definition says.
use Rattle.std.proofs.Common.{◌≡◌, ℕ, ◌+◌, ◌<◌, ◌≤◌, true, false, cond, ◌||◌, ◌==◌, List, [], ◌∷◌, length, take, drop, get_or, refl, sym, ap, ◌∙◌, subst, arith, not, suc}
use Rattle.std.specs.Prelude.{nat_lt, Some, slice_get}
use Rattle.std.specs.List.{list_all, position_or_len}
use Rattle.std.specs.Str.{IsCharBoundary, IsUtf8}
use Rattle.std.proofs.lemmas.Str.{IsCharBoundary-after_ascii}
use Rattle.std.proofs.lemmas.List.Sums.{passes_at_first}
use Rattle.std.proofs.lemmas.Bool.{ltb-true, eqb-true, and_parts}
use Rattle.gs_iri.specs.References.{is_one_of, before, from}

-- the two cuts at the first of some bytes
pub before-take : (stops x : List ℕ) → take (position_or_len (is_one_of stops) x) x ≡ before stops x
unfolding before
before-take stops [] = refl
before-take stops (c ∷ cs) =
    elim (is_one_of stops c) as (λ b. take (cond (not b) (1 + position_or_len (is_one_of stops) cs) 0) (c ∷ cs) ≡ cond b [] (c ∷ before stops cs)) [
      | true ↦ refl
      | false ↦ ap (λ z. take z (c ∷ cs)) (let e : 1 + position_or_len (is_one_of stops) cs ≡ suc (position_or_len (is_one_of stops) cs) = omega arith in e) ∙ ap (λ z. c ∷ z) (before-take stops cs)
    ]

pub from-drop : (stops x : List ℕ) → drop (position_or_len (is_one_of stops) x) x ≡ from stops x
unfolding from
from-drop stops [] = refl
from-drop stops (c ∷ cs) =
    elim (is_one_of stops c) as (λ b. drop (cond (not b) (1 + position_or_len (is_one_of stops) cs) 0) (c ∷ cs) ≡ cond b (c ∷ cs) (from stops cs)) [
      | true ↦ refl
      | false ↦ ap (λ z. drop z (c ∷ cs)) (let e : 1 + position_or_len (is_one_of stops) cs ≡ suc (position_or_len (is_one_of stops) cs) = omega arith in e) ∙ from-drop stops cs
    ]

-- one of some ASCII bytes is ASCII
one_is_ascii : (stops : List ℕ) (c : ℕ) → list_all (λ b. nat_lt b 128) stops ≡ true → is_one_of stops c ≡ true → c < 128
one_is_ascii [] c a h = absurd (cc)
one_is_ascii (s ∷ ss) c a h =
    elim (s == c) as (λ b. (s == c) ≡ b → (b || is_one_of ss c) ≡ true → c < 128) [
      | true ↦ λ e k. subst (λ z. z < 128) (eqb-true s c e) (ltb-true s 128 (and_parts (nat_lt s 128) (list_all (λ b. nat_lt b 128) ss) a).0)
      | false ↦ λ e k. one_is_ascii ss c (and_parts (nat_lt s 128) (list_all (λ b. nat_lt b 128) ss) a).1 k
    ] refl h

-- a text may be cut before the first of some ASCII bytes
pub boundary_at_stop : (stops x : List ℕ) (n : ℕ) → list_all (λ b. nat_lt b 128) stops ≡ true → n ≡ position_or_len (is_one_of stops) x → n ≤ length x → IsCharBoundary x n
boundary_at_stop stops x n a e within = (
  within,
  λ l h.
      let l' : position_or_len (is_one_of stops) x < length x = omega arith in
      let low : get_or x (position_or_len (is_one_of stops) x) 0 < 128 = one_is_ascii stops _ a (passes_at_first (is_one_of stops) x 0 l') in
      let same : get_or x (position_or_len (is_one_of stops) x) 0 ≡ get_or x n 0 = ap (λ z. get_or x z 0) (sym e) in
      absurd (omega arith),
)

-- a text may be cut after its first byte, where that is ASCII
pub boundary_after_first : (x : List ℕ) (v : ℕ) → IsUtf8 x → slice_get x 0 ≡ Some v → v < 128 → IsCharBoundary x 1
boundary_after_first [] v u e low = absurd (cc)
boundary_after_first (c ∷ cs) v u e low =
    let same : c ≡ v = cc in
    IsCharBoundary-after_ascii (c ∷ cs) 0 u (omega arith) (omega arith)
