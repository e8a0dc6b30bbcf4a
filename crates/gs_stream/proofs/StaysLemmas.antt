-- A head that is settled stays so however the text goes on.
use Rattle.std.proofs.Common.{◌≡◌, ℕ, ◌-◌, ◌≤◌, true, false, cond, eqb, leb, List, [], ◌∷◌, ◌++◌, length, take, drop, refl, sym, ap, ◌∙◌, subst, arith, zero, suc, length-take, length-append, Some, None}
use Rattle.std.proofs.lemmas.Bool.{le-leb, leb-true}
use Rattle.std.proofs.lemmas.List.{take_all, take-append-le, drop-append-le}
use Rattle.gs_stream.specs.Heads.{Parted, put, empty_line, or_later, through_empty_line, Open, TooLong, Whole, cut_at, head_at}
use Rattle.gs_stream.specs.Laws.{HeadsStay, LongStays}
use Rattle.gs_stream.proofs.PartLemmas.{IsParted, through-parts}

-- What cuts a text cuts it at the same place with y after it.
abbrev Stays : List ℕ → Parted → Parted → Type 0
Stays y None q = Unit {0}
Stays y (Some p) q = q ≡ Some (p.0, p.1 ++ y)

-- And what does not cut it cuts it with y after it neither.
abbrev IsSame : List ℕ → Parted → Parted → Type 0
IsSame y None q = q ≡ None
IsSame y (Some p) q = q ≡ Some (p.0, p.1 ++ y)

-- an empty line at the front, by two bytes of the text
line-same : (c d : ℕ) (cs y : List ℕ) → IsSame y (empty_line (c ∷ (d ∷ cs))) (empty_line (c ∷ (d ∷ (cs ++ y))))
line-same c d cs y =
    let there : List ℕ → Parted = λ z. cond (eqb d 10) (Some (c ∷ (d ∷ []), z)) None in
    elim (eqb c 10) as (λ b. IsSame y (cond b (Some (c ∷ [], d ∷ cs)) (cond (eqb c 13) (there cs) None)) (cond b (Some (c ∷ [], d ∷ (cs ++ y))) (cond (eqb c 13) (there (cs ++ y)) None))) [
      | true ↦ refl
      | false ↦ elim (eqb c 13) as (λ b. IsSame y (cond b (there cs) None) (cond b (there (cs ++ y)) None)) [
        | true ↦ elim (eqb d 10) as (λ b. IsSame y (cond b (Some (c ∷ (d ∷ []), cs)) None) (cond b (Some (c ∷ (d ∷ []), cs ++ y)) None)) [ true ↦ refl | false ↦ refl ]
        | false ↦ refl
      ]
    ]

-- in a text of two bytes at least
line-settled : (x y : List ℕ) → 2 ≤ length x → IsSame y (empty_line x) (empty_line (x ++ y))
line-settled [] y h = absurd (omega arith)
line-settled (c ∷ []) y h = absurd (omega arith)
line-settled (c ∷ (d ∷ cs)) y h = line-same c d cs y

-- by one byte
line-one : (c : ℕ) (y : List ℕ) → Stays y (empty_line (c ∷ [])) (empty_line (c ∷ y))
line-one c [] = elim (eqb c 10) as (λ b. Stays [] (cond b (Some (c ∷ [], [])) None) (cond b (Some (c ∷ [], [])) None)) [ true ↦ refl | false ↦ tt ]
line-one c (d ∷ y) =
    let rest : Parted = cond (eqb c 13) (cond (eqb d 10) (Some (c ∷ (d ∷ []), y)) None) None in
    elim (eqb c 10) as (λ b. Stays (d ∷ y) (cond b (Some (c ∷ [], [])) None) (cond b (Some (c ∷ [], d ∷ y)) rest)) [ true ↦ refl | false ↦ tt ]

-- what is the same stays
stays-same : (y : List ℕ) (o q : Parted) → IsSame y o q → Stays y o q
stays-same y None q h = tt
stays-same y (Some p) q h = h

-- in any text
line-stays : (x y : List ℕ) → Stays y (empty_line x) (empty_line (x ++ y))
line-stays [] y = tt
line-stays (c ∷ []) y = line-one c y
line-stays (c ∷ (d ∷ cs)) y = stays-same y (empty_line (c ∷ (d ∷ cs))) (empty_line (c ∷ (d ∷ (cs ++ y)))) (line-same c d cs y)

-- one byte more
put-stays : (c : ℕ) (y : List ℕ) (o q : Parted) → Stays y o q → Stays y (put c o) (put c q)
put-stays c y None q h = tt
put-stays c y (Some p) q h = ap (put c) h

-- after an LF: where the text is cut later, its two next bytes are there
later-stays : (c : ℕ) (x y : List ℕ) (e f l m : Parted) → IsParted 2 x l → (2 ≤ length x → IsSame y e f) → Stays y e f → Stays y l m → Stays y (or_later c e l) (or_later c f m)
later-stays c x y (Some p) f l m h same e g = ap (λ (o : Parted). or_later c o m) e
later-stays c x y None f None m h same e g = tt
later-stays c x y None f (Some p) m h same e g =
    ap (λ (o : Parted). or_later c o m) (same (omega (arith, h.1, ap length h.0, length-append p.0 p.1))) ∙ ap (put c) g

-- the first empty line
through-stays : (x y : List ℕ) → Stays y (through_empty_line x) (through_empty_line (x ++ y))
through-stays [] y = tt
through-stays (c ∷ cs) y =
    let e = empty_line cs in
    let f = empty_line (cs ++ y) in
    let l = through_empty_line cs in
    let m = through_empty_line (cs ++ y) in
    elim (eqb c 10) as (λ b. Stays y (cond b (or_later c e l) (put c l)) (cond b (or_later c f m) (put c m))) [
      | true ↦ later-stays c cs y e f l m (through-parts cs) (line-settled cs y) (line-stays cs y) (through-stays cs y)
      | false ↦ put-stays c y l m (through-stays cs y)
    ]

-- the front of a text that goes on
front-more : (n : ℕ) (x y : List ℕ) → take n (x ++ y) ≡ take n x ++ take (n - length x) y
front-more n [] y =
    let none : take {A = ℕ} n [] ≡ [] = take_all n [] (omega arith) in
    let same : n ≡ n - 0 = omega arith in
    ap (λ (k : ℕ). take k y) same ∙ ap (λ (z : List ℕ). z ++ take (n - 0) y) (sym none)
front-more zero (c ∷ x) y = let none : 0 ≡ 0 - length (c ∷ x) = omega arith in ap (λ (k : ℕ). take k y) none
front-more (suc n) (c ∷ x) y =
    let same : n - length x ≡ suc n - length (c ∷ x) = omega arith in
    ap (λ (z : List ℕ). c ∷ z) (front-more n x y) ∙ ap (λ (k : ℕ). c ∷ (take n x ++ take k y)) same

-- a whole head, by the parts of the fronts
whole-stays : (x y z f head rest : List ℕ) (o q : Parted) → length f ≤ length x → IsParted 2 f o → Stays z o q → cut_at x o ≡ Whole head rest → cut_at (x ++ y) q ≡ Whole head (rest ++ y)
whole-stays x y z f head rest None q few h s e =
    absurd (elim (leb 16384 (length x)) as (λ b. cond b TooLong Open ≡ Whole head rest → ⊥) [ true ↦ λ d. cc | false ↦ λ d. cc ] e)
whole-stays x y z f head rest (Some p) q few h s e =
    let within : length p.0 ≤ length x = omega (arith, few, ap length h.0, length-append p.0 p.1) in
    let same : p.0 ≡ head = cc in
    let after : drop (length p.0) x ≡ rest = cc in
    ap (cut_at (x ++ y)) s
    ∙ ap (λ (r : List ℕ). Whole p.0 r) (drop-append-le (length p.0) x y within)
    ∙ ap (λ (r : List ℕ). Whole p.0 (r ++ y)) after
    ∙ ap (λ (k : List ℕ). Whole k (rest ++ y)) same

-- A head that is whole stays so.
pub heads-stay : HeadsStay
unfolding head_at
heads-stay x y head rest e =
    let f : List ℕ = take 16384 x in
    let z : List ℕ = take (16384 - length x) y in
    let s : Stays z (through_empty_line f) (through_empty_line (take 16384 (x ++ y))) =
    subst (λ (t : List ℕ). Stays z (through_empty_line f) (through_empty_line t)) (sym (front-more 16384 x y)) (through-stays f z) in
    whole-stays x y z f head rest (through_empty_line f) (through_empty_line (take 16384 (x ++ y))) (omega (arith, length-take 16384 x)) (through-parts f) s e

-- a head that is too long, by its front
long-front : (x : List ℕ) (o : Parted) → cut_at x o ≡ TooLong → (o ≡ None) × (16384 ≤ length x)
long-front x None e =
    (refl, leb-true 16384 (length x) (elim (leb 16384 (length x)) as (λ b. cond b TooLong Open ≡ TooLong → b ≡ true) [ true ↦ λ d. refl | false ↦ λ d. cc ] e))
long-front x (Some p) e = absurd (cc)

-- And so does one that is too long.
pub long-stays : LongStays
unfolding head_at
long-stays x y e =
    let f = long-front x (through_empty_line (take 16384 x)) e in
    let long : leb 16384 (length (x ++ y)) ≡ true = le-leb 16384 (length (x ++ y)) (omega (arith, f.1, length-append x y)) in
    ap (λ (t : List ℕ). cut_at (x ++ y) (through_empty_line t)) (take-append-le 16384 x y f.1)
    ∙ ap (cut_at (x ++ y)) f.0
    ∙ ap (λ b. cond b TooLong Open) long
