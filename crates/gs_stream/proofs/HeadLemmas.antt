-- What bytes at the front of a text make of its head.
use Rattle.std.proofs.Common.{◌≡◌, ℕ, ◌+◌, ◌-◌, ◌<◌, ◌≤◌, Bool, true, false, cond, eqb, List, [], ◌∷◌, ◌++◌, length, take, drop, get_or, refl, sym, ap, ◌∙◌, subst, arith, length-take, length-drop, length-append, take-append-drop, append-nil, Option, Some, None}
use Rattle.std.specs.List.{position}
use Rattle.std.proofs.lemmas.Bool.{eqb-true}
use Rattle.std.proofs.lemmas.List.{take_all, take_rest, drop_at, drop_more, drop-drop}
use Rattle.std.proofs.lemmas.List.Quantifiers.{position-Some}
use Rattle.gs_model.proofs.TextLemmas.{AllOther}
use Rattle.gs_transfer.proofs.CutLemmas.{other-take}
use Rattle.gs_transfer.proofs.PositionLemmas.{position-none}
use Rattle.gs_stream.specs.Heads.{Parted, put, empty_line, or_later, through_empty_line, stripped}
use Rattle.gs_stream.specs.Views.{part_size}

-- where the first empty line of a text ends
abbrev pub end_in : List ℕ → Option ℕ
end_in x = part_size (through_empty_line x)

-- how long the empty line at its front is
abbrev pub line_in : List ℕ → Option ℕ
line_in x = part_size (empty_line x)

-- what stands after so many bytes of it, as a slice has that
abbrev pub rest_of : ℕ → List ℕ → List ℕ
rest_of i x = take (length x - i) (drop i x)

-- so many bytes more
abbrev pub after : ℕ → Option ℕ → Option ℕ
after n None = None
after n (Some k) = Some (n + k)

-- none more
after-zero : (o : Option ℕ) → o ≡ after 0 o
after-zero None = refl
after-zero (Some k) = ap Some (omega arith)

-- some and then others
after-after : (m n : ℕ) (o : Option ℕ) → after m (after n o) ≡ after (m + n) o
after-after m n None = refl
after-after m n (Some k) = ap Some (omega arith)

-- the end of an empty line, or what comes later
abbrev or_size : Option ℕ → Option ℕ → Option ℕ
or_size None later = later
or_size (Some k) later = Some k

-- one byte more
size-put : (c : ℕ) (o : Parted) → part_size (put c o) ≡ after 1 (part_size o)
size-put c None = refl
size-put c (Some p) = ap Some (omega arith)

-- after an LF
size-or_later : (c : ℕ) (e l : Parted) → part_size (or_later c e l) ≡ after 1 (or_size (part_size e) (part_size l))
size-or_later c None l = size-put c l
size-or_later c (Some p) l = ap Some (omega arith)

-- what the empty line at the front of a text says of it, and of what is left of it before a head
abbrev pub LineOf : List ℕ → List ℕ → Parted → Type 0
LineOf x s None = s ≡ x
LineOf x s (Some p) = (x ≡ p.0 ++ p.1) × (0 < length p.0) × (s ≡ stripped p.1)

-- each text
pub line-of : (x : List ℕ) → LineOf x (stripped x) (empty_line x)
line-of [] = refl
line-of (c ∷ []) = elim (eqb c 10) as (λ b. LineOf (c ∷ []) (cond b [] (c ∷ [])) (cond b (Some (c ∷ [], [])) None)) [
  | true ↦ (refl, omega arith, refl)
  | false ↦ refl
]
line-of (c ∷ (d ∷ cs)) =
    let x : List ℕ = c ∷ (d ∷ cs) in
    elim (eqb c 10) as (λ b. LineOf x (cond b (stripped (d ∷ cs)) (cond (eqb c 13) (cond (eqb d 10) (stripped cs) x) x)) (cond b (Some (c ∷ [], d ∷ cs)) (cond (eqb c 13) (cond (eqb d 10) (Some (c ∷ (d ∷ []), cs)) None) None))) [
      | true ↦ (refl, omega arith, refl)
      | false ↦ elim (eqb c 13) as (λ b. LineOf x (cond b (cond (eqb d 10) (stripped cs) x) x) (cond b (cond (eqb d 10) (Some (c ∷ (d ∷ []), cs)) None) None)) [
        | true ↦ elim (eqb d 10) as (λ b. LineOf x (cond b (stripped cs) x) (cond b (Some (c ∷ (d ∷ []), cs)) None)) [
          | true ↦ (refl, omega arith, refl)
          | false ↦ refl
        ]
        | false ↦ refl
      ]
    ]

-- one that was found
line-found : (x s : List ℕ) (n : ℕ) (o : Parted) → LineOf x s o → Some n ≡ part_size o → (0 < n) × (n ≤ length x) × (stripped (drop n x) ≡ s)
line-found x s n None h e = absurd (cc)
line-found x s n (Some p) h e =
    let size : n ≡ length p.0 = cc in
    let rest : drop n x ≡ p.1 = ap (drop n) h.0 ∙ drop_at p.0 p.1 n (sym size) in (
      omega arith,
      omega (arith, ap length h.0, length-append p.0 p.1),
      ap stripped rest ∙ sym h.2,
    )

-- none
line-none : (x s : List ℕ) (o : Parted) → LineOf x s o → None ≡ part_size o → s ≡ x
line-none x s None h e = h
line-none x s (Some p) h e = absurd (cc)

-- An empty line after so many bytes is dropped before a head.
pub stripped-line : (x : List ℕ) (i n : ℕ) → i ≤ length x → Some n ≡ line_in (rest_of i x)
    → (0 < n) × (i + n ≤ length x) × (stripped (drop (i + n) x) ≡ stripped (drop i x))
stripped-line x i n within e =
    let y : List ℕ = drop i x in
    let f = line-found y (stripped y) n (empty_line y) (line-of y) (e ∙ ap line_in (take_rest x i)) in (
      f.0,
      omega (arith, f.1, length-drop i x),
      ap stripped (sym (drop-drop n i x)) ∙ f.2,
    )

-- Nothing else is.
pub stripped-none : (x : List ℕ) (i : ℕ) → None ≡ line_in (rest_of i x) → stripped (drop i x) ≡ drop i x
stripped-none x i e =
    let y : List ℕ = drop i x in
    line-none y (stripped y) (empty_line y) (line-of y) (e ∙ ap line_in (take_rest x i))

-- bytes that are no LF
other-run : (d y : List ℕ) → AllOther 10 d → end_in (d ++ y) ≡ after (length d) (end_in y)
other-run [] y h = after-zero (end_in y)
other-run (c ∷ d) y h =
    ap (λ (b : Bool). part_size (cond b (or_later c (empty_line (d ++ y)) (through_empty_line (d ++ y))) (put c (through_empty_line (d ++ y))))) h.0
    ∙ size-put c (through_empty_line (d ++ y))
    ∙ ap (after 1) (other-run d y h.1)
    ∙ after-after 1 (length d) (end_in y)
    ∙ ap (λ (n : ℕ). after n (end_in y)) (omega arith)

-- no LF
through-none : (x : List ℕ) → None ≡ position (λ c. eqb c 10) x → end_in x ≡ None
through-none x e =
    ap end_in (sym (append-nil x))
    ∙ other-run x [] (subst (AllOther 10) (take_all (length x) x (omega arith)) (other-take x (length x) (position-none (λ c. eqb c 10) x (sym e))))

-- the first LF, and what stands after it
through-line : (x : List ℕ) (i : ℕ) → Some i ≡ position (λ c. eqb c 10) x
    → (i < length x) × (end_in x ≡ after (i + 1) (or_size (line_in (drop (i + 1) x)) (end_in (drop (i + 1) x))))
through-line x i e =
    let f = position-Some (λ c. eqb c 10) x i 0 (sym e) in
    let lf : get_or x i 0 ≡ 10 = eqb-true (get_or x i 0) 10 f.1 in
    let rest : List ℕ = drop (i + 1) x in
    let whole : x ≡ take i x ++ (10 ∷ rest) = sym (take-append-drop i x) ∙ ap (λ (z : List ℕ). take i x ++ z) (drop_more x i 0 f.0 ∙ ap (λ (c : ℕ). c ∷ rest) lf) in
    let size : length (take i x) ≡ i = omega (arith, f.0, length-take i x) in (
      f.0,
      ap end_in whole
          ∙ other-run (take i x) (10 ∷ rest) (other-take x i f.2)
          ∙ ap (after (length (take i x))) (size-or_later 10 (empty_line rest) (through_empty_line rest))
          ∙ after-after (length (take i x)) 1 (or_size (line_in rest) (end_in rest))
          ∙ ap (λ (n : ℕ). after (n + 1) (or_size (line_in rest) (end_in rest))) size,
    )

-- The rest of a text gives its empty line, after so many bytes.
abbrev pub GoesOn : ℕ → List ℕ → Type 0
GoesOn i x = end_in x ≡ after i (end_in (drop i x))

-- the first LF after them, and what stands after it
rest-line : (x : List ℕ) (i k : ℕ) → i ≤ length x → GoesOn i x → Some k ≡ position (λ c. eqb c 10) (rest_of i x)
    → (i + k + 1 ≤ length x)
    × (end_in x ≡ after (i + k + 1) (or_size (line_in (drop (i + k + 1) x)) (end_in (drop (i + k + 1) x))))
rest-line x i k within same e =
    let f = through-line (drop i x) k (e ∙ ap (position (λ c. eqb c 10)) (take_rest x i)) in
    let place : i + (k + 1) ≡ i + k + 1 = omega arith in (
      omega (arith, f.0, length-drop i x),
      same
          ∙ ap (after i) f.1
          ∙ after-after i (k + 1) (or_size (line_in (drop (k + 1) (drop i x))) (end_in (drop (k + 1) (drop i x))))
          ∙ ap (λ (z : List ℕ). after (i + (k + 1)) (or_size (line_in z) (end_in z))) (drop-drop (k + 1) i x)
          ∙ ap (λ (n : ℕ). after n (or_size (line_in (drop n x)) (end_in (drop n x)))) place,
    )

-- An empty line follows it.
pub rest-found : (x : List ℕ) (i k n : ℕ) → i ≤ length x → GoesOn i x → Some k ≡ position (λ c. eqb c 10) (rest_of i x)
    → Some n ≡ line_in (rest_of (i + k + 1) x)
    → Some (i + k + 1 + n) ≡ end_in x
rest-found x i k n within same e found =
    let y : List ℕ = drop (i + k + 1) x in
    ap (λ (o : Option ℕ). after (i + k + 1) (or_size o (end_in y))) (found ∙ ap line_in (take_rest x (i + k + 1)))
    ∙ sym (rest-line x i k within same e).1

-- None does.
pub rest-more : (x : List ℕ) (i k : ℕ) → i ≤ length x → GoesOn i x → Some k ≡ position (λ c. eqb c 10) (rest_of i x)
    → None ≡ line_in (rest_of (i + k + 1) x)
    → (i + k + 1 ≤ length x) × GoesOn (i + k + 1) x
rest-more x i k within same e none =
    let y : List ℕ = drop (i + k + 1) x in
    let f = rest-line x i k within same e in (
      f.0,
      f.1 ∙ sym (ap (λ (o : Option ℕ). after (i + k + 1) (or_size o (end_in y))) (none ∙ ap line_in (take_rest x (i + k + 1)))),
    )

-- No LF is left.
pub rest-none : (x : List ℕ) (i : ℕ) → GoesOn i x → None ≡ position (λ c. eqb c 10) (rest_of i x) → None ≡ end_in x
rest-none x i same e = sym (same ∙ ap (after i) (through-none (drop i x) (e ∙ ap (position (λ c. eqb c 10)) (take_rest x i))))
