-- A trailer section that is read whole is lines as the grammar prints them.
use Rattle.std.proofs.Common.{◌≡◌, ◌⊎◌, inl, inr, ℕ, ◌+◌, ◌<◌, ◌≤◌, Bool, true, false, cond, eqb, leb, List, [], ◌∷◌, ◌++◌, length, refl, sym, ap, ◌∙◌, subst, arith}
use Rattle.std.specs.Prelude.{All}
use Rattle.std.specs.List.{flat_map}
use Rattle.std.proofs.lemmas.Bool.{eqb-true, leb-false, false≢true}
use Rattle.std.proofs.lemmas.List.Elements.{All-nil, All-cons}
use Rattle.gs_model.specs.Ascii.{crlf}
use Rattle.gs_transfer.specs.Grammar.{IsLine, trailer_text}
use Rattle.gs_transfer.specs.States.{TransferState, Trailer, TrailerPlace, Start, StartCr, Inside, InsideCr, Over, Passes, Fails, inside_place, trailer_goes}
use Rattle.gs_transfer.specs.Cuts.{BodyCut, Open, Faulty, Whole, ends, goes_on, cut_from}
use Rattle.gs_transfer.proofs.QuietLemmas.{Quiet, quiet-line}
use Rattle.gs_transfer.proofs.PrintLemmas.{line-parts, trailer-length}

-- the cut is whole, with these data and this rest
abbrev pub IsWhole : BodyCut → List ℕ → List ℕ → Type 0
IsWhole d body rest = d ≡ record { bytes = body; end = Whole rest }

-- no data come any more
pub over-whole : (x body rest : List ℕ) → IsWhole (ends (Whole x)) body rest → (body ≡ []) × (x ≡ rest)
over-whole x body rest e =
    let ended : Whole x ≡ Whole rest = ap (λ (d : BodyCut). d.end) e in
    (sym (ap (λ (d : BodyCut). d.bytes) e), cc)

-- a fault is no end
pub fault-whole : (status : ℕ) (body rest : List ℕ) → IsWhole (ends (Faulty status)) body rest → ⊥
fault-whole status body rest e = let ended : Faulty status ≡ Whole rest = ap (λ (d : BodyCut). d.end) e in cc

-- nor is a body that goes on
pub open-whole : (body rest : List ℕ) → IsWhole (ends Open) body rest → ⊥
open-whole body rest e = let ended : Open ≡ Whole rest = ap (λ (d : BodyCut). d.end) e in cc

-- the lines of a section after so many bytes, at the start of one
abbrev Lines : ℕ → List ℕ → List ℕ → Type 0
Lines count x rest = (ls : List (List ℕ)) × All IsLine ls × All (λ l. 0 < length l) ls × (count + length (trailer_text ls) ≤ 16384) × (x ≡ trailer_text ls ++ rest)

-- the rest of a line and the lines after it
abbrev InLine : Bool → ℕ → List ℕ → List ℕ → Type 0
InLine cr count x rest = (l : List ℕ) × (y : List ℕ) × Quiet cr l × (x ≡ l ++ 13 ∷ 10 ∷ y) × Lines (count + length l + 2) y rest

-- after a CR that may be that of the line's end
abbrev AfterCr : ℕ → List ℕ → List ℕ → Type 0
AfterCr count x rest = ((y : List ℕ) × (x ≡ 10 ∷ y) × Lines (count + 1) y rest) ⊎ InLine true count x rest

-- within a line
abbrev Within : Bool → ℕ → List ℕ → List ℕ → Type 0
Within false count x rest = InLine false count x rest
Within true count x rest = AfterCr count x rest

-- the rest of a section
abbrev pub Section : TrailerPlace → ℕ → List ℕ → List ℕ → Type 0
Section Start count x rest = Lines count x rest
Section StartCr count x rest = (x ≡ 10 ∷ rest) ⊎ InLine true count x rest
Section Inside count x rest = Within false count x rest
Section InsideCr count x rest = Within true count x rest

-- a byte of a line is quiet
quiet-cons : (cr : Bool) (c : ℕ) (l : List ℕ) → (cr ≡ true → eqb c 10 ≡ false) → Quiet (eqb c 13) l → Quiet cr (c ∷ l)
quiet-cons false c l p h = h
quiet-cons true c l p h = (p refl, h)

-- one byte more of a line, from what follows it
line-more : (cr : Bool) (count c : ℕ) (x rest : List ℕ) → (cr ≡ true → eqb c 10 ≡ false) → InLine (eqb c 13) (count + 1) x rest → InLine cr count (c ∷ x) rest
line-more cr count c x rest p h =
    (c ∷ h.0, h.1, quiet-cons cr c h.0 p h.2, ap (λ (z : List ℕ). c ∷ z) h.3, subst (λ (n : ℕ). Lines n h.1 rest) (omega arith) h.4)

-- the same, where the byte may be the CR of the line's end
line-on : (cr : Bool) (count c : ℕ) (x rest : List ℕ) → (cr ≡ true → eqb c 10 ≡ false) → (b : Bool) → eqb c 13 ≡ b → Within b (count + 1) x rest → InLine cr count (c ∷ x) rest
line-on cr count c x rest p false e h = line-more cr count c x rest p (subst (λ (b : Bool). InLine b (count + 1) x rest) (sym e) h)
line-on cr count c x rest p true e (inl h) =
    ([], h.0, tt, ap (λ (d : ℕ). d ∷ x) (eqb-true c 13 e) ∙ ap (λ (z : List ℕ). 13 ∷ z) h.1, subst (λ (n : ℕ). Lines n h.0 rest) (omega arith) h.2)
line-on cr count c x rest p true e (inr h) = line-more cr count c x rest p (subst (λ (b : Bool). InLine b (count + 1) x rest) (sym e) h)

-- a line that is not empty, and the lines after it
lines-cons : (count : ℕ) (x l y rest : List ℕ) → 0 < length l → Quiet false l → x ≡ l ++ 13 ∷ 10 ∷ y → Lines (count + length l + 2) y rest → Lines count x rest
lines-cons count x l y rest some q e h =
    let f : List ℕ = flat_map (λ k. k ++ crlf) h.0 in (
      l ∷ h.0,
      All-cons IsLine l h.0 (quiet-line false l q) h.1,
      All-cons (λ (k : List ℕ). 0 < length k) l h.0 some h.2,
      omega (arith, h.3, trailer-length l h.0),
      e ∙ ap (λ (z : List ℕ). l ++ 13 ∷ 10 ∷ z) h.4 ∙ sym (line-parts l f rest),
    )

-- a line from its first byte on
line-first : (count c : ℕ) (x rest : List ℕ) (b : Bool) → eqb c 13 ≡ b → InLine b (count + 1) x rest → Lines count (c ∷ x) rest
line-first count c x rest b e h =
    lines-cons count (c ∷ x) (c ∷ h.0) h.1 rest (omega arith) (subst (λ (t : Bool). Quiet t h.0) (sym e) h.2) (ap (λ (z : List ℕ). c ∷ z) h.3)
    (subst (λ (n : ℕ). Lines n h.1 rest) (omega arith) h.4)

-- the first byte of a line, or of the end of the section
start-lines : (count c : ℕ) (x rest : List ℕ) (b : Bool) → count + 1 < 16384 → eqb c 13 ≡ b → Section (cond b StartCr Inside) (count + 1) x rest → Lines count (c ∷ x) rest
start-lines count c x rest true room e (inl h) =
    ([], All-nil IsLine, All-nil (λ (k : List ℕ). 0 < length k), omega arith, ap (λ (d : ℕ). d ∷ x) (eqb-true c 13 e) ∙ ap (λ (z : List ℕ). 13 ∷ z) h)
start-lines count c x rest true room e (inr h) = line-first count c x rest true e h
start-lines count c x rest false room e h = line-first count c x rest false e h

-- within a line, by the byte before
within : (b : Bool) (n : ℕ) (x rest : List ℕ) → Section (cond b InsideCr Inside) n x rest → Within b n x rest
within true n x rest h = h
within false n x rest h = h

-- a byte that has room
goes-whole : (c n : ℕ) (f : TransferState → BodyCut) (q : TrailerPlace) (body rest : List ℕ) → IsWhole (goes_on f c (trailer_goes q n)) body rest → (n < 16384) × IsWhole (f (Trailer q n)) body rest
goes-whole c n f q body rest e =
    elim (leb 16384 n) as (λ b. leb 16384 n ≡ b → IsWhole (goes_on f c (cond b (Fails 400) (Passes (Trailer q n)))) body rest → (n < 16384) × IsWhole (f (Trailer q n)) body rest) [
      | true ↦ λ t h. absurd (fault-whole 400 body rest h)
      | false ↦ λ t h. (leb-false 16384 n t, h)
    ] refl e

-- a section that is read whole
pub section-read : (limit count : ℕ) (p : TrailerPlace) (x body rest : List ℕ) → IsWhole (cut_from limit (Trailer p count) x) body rest → (body ≡ []) × Section p count x rest
section-read limit count p [] body rest e = absurd (open-whole body rest e)
section-read limit count Start (c ∷ x) body rest e =
    let q = cond (eqb c 13) StartCr Inside in
    let g = goes-whole c (count + 1) (λ (t : TransferState). cut_from limit t x) q body rest e in
    let r = section-read limit (count + 1) q x body rest g.1 in
    (r.0, start-lines count c x rest (eqb c 13) g.0 refl r.1)
section-read limit count Inside (c ∷ x) body rest e =
    let g = goes-whole c (count + 1) (λ (t : TransferState). cut_from limit t x) (inside_place c) body rest e in
    let r = section-read limit (count + 1) (inside_place c) x body rest g.1 in
    (r.0, line-on false count c x rest (λ t. absurd (false≢true t)) (eqb c 13) refl (within (eqb c 13) (count + 1) x rest r.1))
section-read limit count StartCr (c ∷ x) body rest e =
    elim (eqb c 10) as (λ b. eqb c 10 ≡ b → IsWhole (goes_on (λ (t : TransferState). cut_from limit t x) c (cond b (Passes Over) (trailer_goes (inside_place c) (count + 1)))) body rest → (body ≡ []) × Section StartCr count (c ∷ x) rest) [
      | true ↦ λ t h. let o = over-whole x body rest h in (o.0, inl (ap (λ (d : ℕ). d ∷ x) (eqb-true c 10 t) ∙ ap (λ (z : List ℕ). 10 ∷ z) o.1))
      | false ↦ λ t h.
          let g = goes-whole c (count + 1) (λ (s : TransferState). cut_from limit s x) (inside_place c) body rest h in
          let r = section-read limit (count + 1) (inside_place c) x body rest g.1 in
          (r.0, inr (line-on true count c x rest (λ _. t) (eqb c 13) refl (within (eqb c 13) (count + 1) x rest r.1)))
    ] refl e
section-read limit count InsideCr (c ∷ x) body rest e =
    elim (eqb c 10) as (λ b. eqb c 10 ≡ b → IsWhole (goes_on (λ (t : TransferState). cut_from limit t x) c (trailer_goes (cond b Start (inside_place c)) (count + 1))) body rest → (body ≡ []) × Section InsideCr count (c ∷ x) rest) [
      | true ↦ λ t h.
          let g = goes-whole c (count + 1) (λ (s : TransferState). cut_from limit s x) Start body rest h in
          let r = section-read limit (count + 1) Start x body rest g.1 in
          (r.0, inl (x, ap (λ (d : ℕ). d ∷ x) (eqb-true c 10 t), r.1))
      | false ↦ λ t h.
          let g = goes-whole c (count + 1) (λ (s : TransferState). cut_from limit s x) (inside_place c) body rest h in
          let r = section-read limit (count + 1) (inside_place c) x body rest g.1 in
          (r.0, inr (line-on true count c x rest (λ _. t) (eqb c 13) refl (within (eqb c 13) (count + 1) x rest r.1)))
    ] refl e
