-- The part of a text through its first empty line, and the head that it is.
use Rattle.std.proofs.Common.{◌≡◌, ℕ, ◌+◌, ◌<◌, ◌≤◌, min, true, false, cond, eqb, leb, List, [], ◌∷◌, ◌++◌, length, take, drop, refl, sym, ap, ◌∙◌, arith, length-take, length-append, Some, None}
use Rattle.std.proofs.lemmas.List.{take_at, take-take, take_min}
use Rattle.gs_stream.specs.Heads.{Parted, put, empty_line, or_later, through_empty_line, stripped, Open, TooLong, Whole, cut_at, head_at}
use Rattle.gs_stream.proofs.HeadLemmas.{LineOf, line-of, end_in}
use Rattle.gs_stream.specs.Views.{part_size}

-- A text in two parts, of which the first has so many bytes at least.
abbrev pub IsParted : ℕ → List ℕ → Parted → Type 0
IsParted n x None = Unit {0}
IsParted n x (Some p) = (x ≡ p.0 ++ p.1) × (n ≤ length p.0)

-- by an empty line at its front
line-parts : (x s : List ℕ) (o : Parted) → LineOf x s o → IsParted 1 x o
line-parts x s None h = tt
line-parts x s (Some p) h = (h.0, omega (arith, h.1))

-- one byte more of the first part
put-parts : (n c : ℕ) (x : List ℕ) (o : Parted) → IsParted n x o → IsParted n (c ∷ x) (put c o)
put-parts n c x None h = tt
put-parts n c x (Some p) h = (ap (λ (z : List ℕ). c ∷ z) h.0, omega (arith, h.1))

-- after an LF
later-parts : (c : ℕ) (x : List ℕ) (e l : Parted) → IsParted 1 x e → IsParted 2 x l → IsParted 2 (c ∷ x) (or_later c e l)
later-parts c x None l h g = put-parts 2 c x l g
later-parts c x (Some p) l h g = (ap (λ (z : List ℕ). c ∷ z) h.0, omega (arith, h.1))

-- by its first empty line
pub through-parts : (x : List ℕ) → IsParted 2 x (through_empty_line x)
through-parts [] = tt
through-parts (c ∷ cs) = elim (eqb c 10) as (λ b. IsParted 2 (c ∷ cs) (cond b (or_later c (empty_line cs) (through_empty_line cs)) (put c (through_empty_line cs)))) [
  | true ↦ later-parts c cs (empty_line cs) (through_empty_line cs) (line-parts cs (stripped cs) (empty_line cs) (line-of cs)) (through-parts cs)
  | false ↦ put-parts 2 c cs (through_empty_line cs) (through-parts cs)
]

-- the front of a text that its head is looked for in
front-size : (x : List ℕ) (m n : ℕ) (o : Parted) → IsParted 2 (take m x) o → Some n ≡ part_size o → (2 ≤ n) × (n ≤ m) × (n ≤ length x) × (cut_at x o ≡ Whole (take n x) (drop n x))
front-size x m n None h e = absurd (cc)
front-size x m n (Some p) h e =
    let size : n ≡ length p.0 = cc in
    let total : length (take m x) ≡ length p.0 + length p.1 = ap length h.0 ∙ length-append p.0 p.1 in
    let few : n ≤ m = omega (arith, size, total, length-take m x) in
    let head : take n x ≡ p.0 = sym (take-take n m x few) ∙ ap (take n) h.0 ∙ take_at p.0 p.1 n (sym size) in (
      omega (arith, h.1, size),
      few,
      omega (arith, size, total, length-take m x),
      ap (λ (z : List ℕ). Whole z (drop (length p.0) x)) (sym head) ∙ ap (λ (k : ℕ). Whole (take n x) (drop k x)) (sym size),
    )

-- the front by the shorter of two lengths
pub front-min : (x : List ℕ) (m n : ℕ) → m ≡ min (length x) n → take m x ≡ take n x
front-min x m n e =
    let same : min (length x) n ≡ min n (length x) = omega arith in
    ap (λ (k : ℕ). take k x) (e ∙ same) ∙ take_min n x

-- The head ends in the front f.
pub head-after : (x f : List ℕ) (n : ℕ) → f ≡ take 16384 x → Some n ≡ end_in f → (n ≤ length x) × (0 < n) × (Whole (take n x) (drop n x) ≡ head_at x)
unfolding head_at
head-after x f n e found =
    let s = front-size x 16384 n (through_empty_line (take 16384 x)) (through-parts (take 16384 x)) (found ∙ ap end_in e) in
    (s.2, omega (arith, s.0), sym s.3)

-- no part
no-part : (o : Parted) → None ≡ part_size o → o ≡ None
no-part None e = refl
no-part (Some p) e = absurd (cc)

-- It does not.
pub head-none : (x f : List ℕ) → f ≡ take 16384 x → None ≡ end_in f → (cond (leb 16384 (length x)) TooLong Open) ≡ head_at x
unfolding head_at
head-none x f e none = sym (ap (cut_at x) (no-part (through_empty_line (take 16384 x)) (none ∙ ap end_in e)))
