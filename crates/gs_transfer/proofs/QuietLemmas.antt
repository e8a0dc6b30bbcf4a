-- Lines that have no CR LF before their end, byte by byte.
use Rattle.std.proofs.Common.{◌≡◌, ℕ, ◌+◌, ◌<◌, Bool, true, false, cond, eqb, leb, List, [], ◌∷◌, ◌++◌, length, get_or, refl, sym, ap, ◌∙◌, subst, arith, length-append}
use Rattle.std.proofs.lemmas.Bool.{eqb-true, eq-eqb, lt-leb, cond-false, false_from_ne_true, false≢true}
use Rattle.gs_model.specs.Ascii.{crlf}
use Rattle.gs_transfer.specs.Grammar.{IsLine}
use Rattle.gs_transfer.specs.States.{TransferState, Trailer, TrailerPlace, Start, StartCr, Inside, InsideCr, Passes, inside_place, trailer_byte, trailer_goes}
use Rattle.gs_transfer.specs.Cuts.{goes_on, cut_from}

-- no LF after a CR, in a line or after a CR in it
abbrev pub Quiet : Bool → List ℕ → Type 0
Quiet cr [] = Unit {0}
Quiet false (c ∷ l) = Quiet (eqb c 13) l
Quiet true (c ∷ l) = (eqb c 10 ≡ false) × Quiet (eqb c 13) l

-- the place in the line
abbrev pub place_in : Bool → TrailerPlace
place_in cr = cond cr InsideCr Inside

-- a byte of a trailer section that has room for it
pub byte-on : (limit count c : ℕ) (p q : TrailerPlace) (x : List ℕ) → trailer_byte p count c ≡ trailer_goes q (count + 1) → count + 1 < 16384
    → cut_from limit (Trailer p count) (c ∷ x) ≡ cut_from limit (Trailer q (count + 1)) x
byte-on limit count c p q x e room =
    let few : leb 16384 (count + 1) ≡ false = lt-leb 16384 (count + 1) room in
    let goes : trailer_goes q (count + 1) ≡ Passes (Trailer q (count + 1)) = rw few in
    ap (goes_on (λ (t : TransferState). cut_from limit t x) c) (e ∙ goes)

-- the end of a line
end-run : (limit count : ℕ) (cr : Bool) (z : List ℕ) → count + 2 < 16384 → cut_from limit (Trailer (place_in cr) count) (13 ∷ 10 ∷ z) ≡ cut_from limit (Trailer Start (count + 2)) z
end-run limit count false z room =
    byte-on limit count 13 Inside InsideCr (10 ∷ z) refl (omega arith)
    ∙ byte-on limit (count + 1) 10 InsideCr Start z refl (omega arith)
    ∙ ap (λ (n : ℕ). cut_from limit (Trailer Start n) z) (omega arith)
end-run limit count true z room =
    byte-on limit count 13 InsideCr InsideCr (10 ∷ z) refl (omega arith)
    ∙ byte-on limit (count + 1) 10 InsideCr Start z refl (omega arith)
    ∙ ap (λ (n : ℕ). cut_from limit (Trailer Start n) z) (omega arith)

-- the rest of a line, and its end
pub quiet-run : (limit count : ℕ) (cr : Bool) (l z : List ℕ) → Quiet cr l → count + length l + 2 < 16384
    → cut_from limit (Trailer (place_in cr) count) (l ++ 13 ∷ 10 ∷ z) ≡ cut_from limit (Trailer Start (count + length l + 2)) z
quiet-run limit count cr [] z h room =
    end-run limit count cr z (omega arith) ∙ ap (λ (n : ℕ). cut_from limit (Trailer Start n) z) (omega arith)
quiet-run limit count false (c ∷ l) z h room =
    byte-on limit count c Inside (place_in (eqb c 13)) (l ++ 13 ∷ 10 ∷ z) refl (omega arith)
    ∙ quiet-run limit (count + 1) (eqb c 13) l z h (omega arith)
    ∙ ap (λ (n : ℕ). cut_from limit (Trailer Start n) z) (omega arith)
quiet-run limit count true (c ∷ l) z h room =
    let goes : trailer_byte InsideCr count c ≡ trailer_goes (inside_place c) (count + 1) =
    ap (λ (p : TrailerPlace). trailer_goes p (count + 1)) (cond-false (eqb c 10) Start (inside_place c) h.0) in
    byte-on limit count c InsideCr (place_in (eqb c 13)) (l ++ 13 ∷ 10 ∷ z) goes (omega arith)
    ∙ quiet-run limit (count + 1) (eqb c 13) l z h.1 (omega arith)
    ∙ ap (λ (n : ℕ). cut_from limit (Trailer Start n) z) (omega arith)

-- the same after a CR at the start of a line
start_cr-run : (limit count : ℕ) (l z : List ℕ) → Quiet true l → count + length l + 2 < 16384
    → cut_from limit (Trailer StartCr count) (l ++ 13 ∷ 10 ∷ z) ≡ cut_from limit (Trailer Start (count + length l + 2)) z
start_cr-run limit count [] z h room =
    byte-on limit count 13 StartCr InsideCr (10 ∷ z) refl (omega arith)
    ∙ byte-on limit (count + 1) 10 InsideCr Start z refl (omega arith)
    ∙ ap (λ (n : ℕ). cut_from limit (Trailer Start n) z) (omega arith)
start_cr-run limit count (c ∷ l) z h room =
    let goes : trailer_byte StartCr count c ≡ trailer_goes (inside_place c) (count + 1) = cond-false (eqb c 10) _ (trailer_goes (inside_place c) (count + 1)) h.0 in
    byte-on limit count c StartCr (place_in (eqb c 13)) (l ++ 13 ∷ 10 ∷ z) goes (omega arith)
    ∙ quiet-run limit (count + 1) (eqb c 13) l z h.1 (omega arith)
    ∙ ap (λ (n : ℕ). cut_from limit (Trailer Start n) z) (omega arith)

-- a line that is not empty
pub full-run : (limit count : ℕ) (l z : List ℕ) → 0 < length l → Quiet false l → count + length l + 2 < 16384
    → cut_from limit (Trailer Start count) (l ++ 13 ∷ 10 ∷ z) ≡ cut_from limit (Trailer Start (count + length l + 2)) z
full-run limit count [] z some h room = absurd (omega arith)
full-run limit count (c ∷ l) z some h room =
    elim (eqb c 13) as (λ b. eqb c 13 ≡ b → Quiet b l → cut_from limit (Trailer Start count) (c ∷ (l ++ 13 ∷ 10 ∷ z)) ≡ cut_from limit (Trailer Start (count + length (c ∷ l) + 2)) z) [
      | true ↦ λ e q. byte-on limit count c Start StartCr (l ++ 13 ∷ 10 ∷ z) (rw e) (omega arith)
          ∙ start_cr-run limit (count + 1) l z q (omega arith) ∙ ap (λ (n : ℕ). cut_from limit (Trailer Start n) z) (omega arith)
      | false ↦ λ e q. byte-on limit count c Start Inside (l ++ 13 ∷ 10 ∷ z) (rw e) (omega arith)
          ∙ quiet-run limit (count + 1) false l z q (omega arith) ∙ ap (λ (n : ℕ). cut_from limit (Trailer Start n) z) (omega arith)
    ] refl h

-- what stands after the first byte of a line is one
line-tail : (c : ℕ) (l : List ℕ) → IsLine (c ∷ l) → IsLine l
line-tail c l h front back e = h (c ∷ front) back (ap (λ (z : List ℕ). c ∷ z) e)

-- a line has no LF after a CR
cr-next : (c : ℕ) (l : List ℕ) → IsLine (13 ∷ c ∷ l) → eqb c 10 ≡ false
cr-next c l h = false_from_ne_true (eqb c 10) (λ e.
    let lf : c ≡ 10 = eqb-true c 10 e in
    let none : l ++ crlf ≡ [] = h [] (l ++ crlf) (ap (λ (d : ℕ). 13 ∷ d ∷ (l ++ crlf)) lf) in
    omega (arith, ap length none, length-append l crlf))

-- a line, byte by byte
pub line-quiet : (cr : Bool) (l : List ℕ) → (cr ≡ true → IsLine (13 ∷ l)) → IsLine l → Quiet cr l
line-quiet cr [] p h = tt
line-quiet false (c ∷ l) p h = line-quiet (eqb c 13) l (λ e. subst (λ (d : ℕ). IsLine (d ∷ l)) (eqb-true c 13 e) h) (line-tail c l h)
line-quiet true (c ∷ l) p h =
    (cr-next c l (p refl), line-quiet (eqb c 13) l (λ e. subst (λ (d : ℕ). IsLine (d ∷ l)) (eqb-true c 13 e) h) (line-tail c l h))

-- what follows a byte of it
quiet-tail : (cr : Bool) (c : ℕ) (l : List ℕ) → Quiet cr (c ∷ l) → Quiet (eqb c 13) l
quiet-tail false c l h = h
quiet-tail true c l h = h.1

-- after a CR comes no LF
no-lf : (l back : List ℕ) → Quiet true l → l ++ crlf ≡ 10 ∷ back → ⊥
no-lf [] back h e = false≢true (ap (λ (z : List ℕ). eqb (get_or z 0 0) 10) e)
no-lf (c ∷ l) back h e = let lf : c ≡ 10 = cc in false≢true (sym h.0 ∙ eq-eqb c 10 lf)

-- such bytes are a line
pub quiet-line : (cr : Bool) (l : List ℕ) → Quiet cr l → IsLine l
quiet-line cr [] h [] back e = cc
quiet-line cr [] h (f ∷ fs) back e = absurd (omega (arith, ap length e, length-append (fs ++ crlf) back, length-append fs crlf))
quiet-line cr (c ∷ l) h [] back e =
    let here : c ≡ 13 = cc in
    let next : l ++ crlf ≡ 10 ∷ back = cc in
    absurd (no-lf l back (subst (λ (b : Bool). Quiet b l) (eq-eqb c 13 here) (quiet-tail cr c l h)) next)
quiet-line cr (c ∷ l) h (f ∷ fs) back e = quiet-line (eqb c 13) l (quiet-tail cr c l h) fs back cc
