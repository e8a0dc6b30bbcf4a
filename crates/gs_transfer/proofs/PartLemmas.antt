-- What the parts of a transfer say.
use Rattle.std.proofs.Common.{◌≡◌, ℕ, ◌+◌, ◌-◌, ◌<◌, ◌≤◌, min, false, eqb, List, ◌++◌, length, take, drop, get_or, sym, ap, ◌∙◌, arith, length-take, Some, None}
use Rattle.std.specs.List.{position}
use Rattle.std.proofs.lemmas.Bool.{eqb-true}
use Rattle.std.proofs.lemmas.List.{get_or-take}
use Rattle.std.proofs.lemmas.List.Quantifiers.{position-Some}
use Rattle.gs_http.specs.Chunks.{chunk_size_of}
use Rattle.gs_transfer.specs.States.{TransferState, Left, ByteStep, Passes, Fails, sized, data_left}
use Rattle.gs_transfer.specs.Cuts.{Faulty, ends, with_data, goes_on, cut_from}
use Rattle.gs_transfer.specs.Views.{cut_of, Parts, IsSized}
use Rattle.gs_transfer.specs.Places.{state_at_place}
use Rattle.gs_transfer.specs.declared.places.Place.{Place}
use Rattle.gs_transfer.specs.declared.places.Place.TheVariants as place
use Rattle.gs_transfer.specs.declared.places.Transfer.{Transfer}
use Rattle.gs_transfer.specs.declared.transfers.Part.{Part}
use Rattle.gs_transfer.specs.declared.transfers.Part.TheVariants as part
use Rattle.gs_transfer.proofs.CutLemmas.{left-run, data-run, data_left-some, cut-at, cut-line}
use Rattle.gs_transfer.proofs.PositionLemmas.{position-none}

-- bytes of a body without chunks
pub left-part : (limit sum left n : ℕ) (x : List ℕ) (at : Place) → at ≡ place.Left left → 0 < left → 0 < length x → n ≡ min left (length x)
    → (0 < n) × (n ≤ length x) × ((y : List ℕ) → cut_from limit (state_at_place sum at) (x ++ y) ≡ with_data (take n x) (cut_from limit (Left (left - n)) (drop n x ++ y)))
left-part limit sum left n x at e open_ some h = (
  omega arith,
  omega arith,
  λ y.
      ap (λ (q : Place). cut_from limit (state_at_place sum q) (x ++ y)) e
      ∙ ap (cut_from limit (Left left)) (cut-at x y n)
      ∙ left-run limit (left - n) left (take n x) (drop n x ++ y) (omega (arith, length-take n x)),
)

-- bytes of a chunk's data
pub data-part : (limit sum left n : ℕ) (x : List ℕ) (at after : Place) → at ≡ place.Data left → 0 < left → 0 < length x → n ≡ min left (length x)
    → state_at_place sum after ≡ data_left sum (left - n)
    → (0 < n) × (n ≤ length x) × ((y : List ℕ) → cut_from limit (state_at_place sum at) (x ++ y) ≡ with_data (take n x) (cut_from limit (state_at_place sum after) (drop n x ++ y)))
data-part limit sum left n x at after e open_ some h stays = (
  omega arith,
  omega arith,
  λ y.
      ap (λ (q : Place). cut_from limit (state_at_place sum q) (x ++ y)) e
      ∙ ap (λ (s : TransferState). cut_from limit s (x ++ y)) (sym (data_left-some sum left open_))
      ∙ ap (cut_from limit (data_left sum left)) (cut-at x y n)
      ∙ data-run limit sum (left - n) left (take n x) (drop n x ++ y) (omega (arith, length-take n x))
      ∙ ap (λ (s : TransferState). with_data (take n x) (cut_from limit s (drop n x ++ y))) (sym stays),
)

-- what the LF of a size line does, at the front of a text
pub sized-part : (old new : Transfer) (x : List ℕ) (n : ℕ) (s : ByteStep) (p : Part) → 0 < n → n ≤ length x
    → ((y : List ℕ) → cut_of old (x ++ y) ≡ goes_on (λ (t : TransferState). cut_from old.limit t (drop n x ++ y)) 10 s)
    → IsSized old new n s p → Parts old new x p
sized-part old new x n (Passes s) (part.Passed m) some fits cut h = (
  omega (arith, h.0),
  omega (arith, h.0),
  λ y.
      cut y
      ∙ ap (λ (k : ℕ). cut_from old.limit s (drop k x ++ y)) (sym h.0)
      ∙ ap (λ (k : ℕ). cut_from k s (drop m x ++ y)) (sym h.1)
      ∙ ap (λ (t : TransferState). cut_from new.limit t (drop m x ++ y)) (sym h.2),
)
sized-part old new x n (Fails status) (part.Fault told) some fits cut h = λ y. cut y ∙ ap (λ (k : ℕ). ends (Faulty k)) (sym h)
sized-part old new x n s p some fits cut h = absurd h

-- a size line that is whole
pub line-part : (old new : Transfer) (x : List ℕ) (i : ℕ) (p : Part) → old.place ≡ place.Size → i < length x → i < 256 → get_or x i 0 ≡ 10
    → ((k : ℕ) → k < i → eqb (get_or x k 0) 10 ≡ false)
    → IsSized old new (length (take (i + 1) x)) (sized old.limit old.sum (chunk_size_of (take (i + 1) x))) p → Parts old new x p
line-part old new x i p e lt few lf f h =
    let n = length (take (i + 1) x) in
    let len : n ≡ i + 1 = omega (arith, length-take (i + 1) x) in
    let s : ByteStep = sized old.limit old.sum (chunk_size_of (take (i + 1) x)) in
    sized-part old new x n s p (omega (arith, len)) (omega (arith, len)) (λ y.
    ap (λ (q : Place). cut_from old.limit (state_at_place old.sum q) (x ++ y)) e
    ∙ cut-line old.limit old.sum i x y lt few f lf
    ∙ ap (λ (k : ℕ). goes_on (λ (t : TransferState). cut_from old.limit t (drop k x ++ y)) 10 s) (sym len)) h

-- the first LF of a front
pub line-found : (x : List ℕ) (m i : ℕ) → m ≡ min (length x) 256 → Some i ≡ position (λ c. eqb c 10) (take m x)
    → (i < length x) × (i < 256) × (get_or x i 0 ≡ 10) × ((k : ℕ) → k < i → eqb (get_or x k 0) 10 ≡ false)
line-found x m i e at =
    let f = position-Some (λ c. eqb c 10) (take m x) i 0 (sym at) in
    let within : i < m = omega (arith, f.0, length-take m x) in (
      omega arith,
      omega arith,
      eqb-true (get_or x i 0) 10 (ap (λ (c : ℕ). eqb c 10) (sym (get_or-take m x i 0 within)) ∙ f.1),
      λ k h. ap (λ (c : ℕ). eqb c 10) (sym (get_or-take m x k 0 (omega (arith, within, h)))) ∙ f.2 k h,
    )

-- a front without one
pub line-none : (x : List ℕ) (m : ℕ) → m ≡ min (length x) 256 → None ≡ position (λ c. eqb c 10) (take m x) → (k : ℕ) → k < m → eqb (get_or x k 0) 10 ≡ false
line-none x m e at k h =
    ap (λ (c : ℕ). eqb c 10) (sym (get_or-take m x k 0 h)) ∙ position-none (λ c. eqb c 10) (take m x) (sym at) k (omega (arith, length-take m x))
