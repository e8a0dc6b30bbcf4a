-- What a run of bytes makes of the rest of a body.
use Rattle.std.proofs.Common.{◌≡◌, ℕ, zero, suc, ◌+◌, ◌-◌, ◌<◌, ◌≤◌, true, false, eqb, ltb, leb, List, [], ◌∷◌, ◌++◌, length, take, drop, get_or, refl, sym, ap, ◌∙◌, arith, append_assoc, append-nil, length-append, length-take, take-append-drop, Some}
use Rattle.std.proofs.lemmas.Bool.{lt-leb, le-leb, le-ltb}
use Rattle.std.proofs.lemmas.List.{drop_more, take_more}
use Rattle.gs_model.proofs.TextLemmas.{AllOther}
use Rattle.gs_http.specs.Chunks.{chunk_size_of}
use Rattle.gs_transfer.specs.States.{TransferState, Left, SizeLine, Data, Passes, Fails, sized, size_byte, data_left}
use Rattle.gs_transfer.specs.Cuts.{Open, Faulty, ends, with_data, goes_on, cut_from}

-- bytes of a body without chunks
pub left-run : (limit n k : ℕ) (d y : List ℕ) → k ≡ length d + n → cut_from limit (Left k) (d ++ y) ≡ with_data d (cut_from limit (Left n) y)
left-run limit n k [] y e = ap (λ m. cut_from limit (Left m) y) (omega arith)
left-run limit n zero (c ∷ d) y e = absurd (omega arith)
left-run limit n (suc k) (c ∷ d) y e = ap (with_data (c ∷ [])) (left-run limit n (suc k - 1) d y (omega arith))

-- bytes of a chunk's data
pub data-run : (limit sum n k : ℕ) (d y : List ℕ) → k ≡ length d + n → cut_from limit (data_left sum k) (d ++ y) ≡ with_data d (cut_from limit (data_left sum n) y)
data-run limit sum n k [] y e = ap (λ m. cut_from limit (data_left sum m) y) (omega arith)
data-run limit sum n zero (c ∷ d) y e = absurd (omega arith)
data-run limit sum n (suc k) (c ∷ d) y e = ap (with_data (c ∷ [])) (data-run limit sum n (suc k - 1) d y (omega arith))

-- a chunk that has data left
pub data_left-some : (sum n : ℕ) → 0 < n → data_left sum n ≡ Data sum n
data_left-some sum zero h = absurd (omega arith)
data_left-some sum (suc n) h = refl

-- a byte of a size line that does not end it
size-on : (limit sum c : ℕ) (l : List ℕ) → eqb c 10 ≡ false → length l + 1 < 256 → size_byte limit sum l c ≡ Passes (SizeLine sum (l ++ c ∷ []))
size-on limit sum c l other few =
    let short : leb 256 (length l + 1) ≡ false = lt-leb 256 (length l + 1) few in
    rw (other, short)

-- the last that it may have
size-full : (limit sum c : ℕ) (l : List ℕ) → eqb c 10 ≡ false → 256 ≤ length l + 1 → size_byte limit sum l c ≡ Fails 400
size-full limit sum c l other many =
    let long : leb 256 (length l + 1) ≡ true = le-leb 256 (length l + 1) many in
    rw (other, long)

-- bytes of a size line before its end
pub size-run : (limit sum : ℕ) (l d y : List ℕ) → AllOther 10 d → length l + length d < 256 → cut_from limit (SizeLine sum l) (d ++ y) ≡ cut_from limit (SizeLine sum (l ++ d)) y
size-run limit sum l [] y other few = ap (λ (k : List ℕ). cut_from limit (SizeLine sum k) y) (sym (append-nil l))
size-run limit sum l (c ∷ d) y other few =
    ap (goes_on (λ (t : TransferState). cut_from limit t (d ++ y)) c) (size-on limit sum c l other.0 (omega arith))
    ∙ size-run limit sum (l ++ c ∷ []) d y other.1 (omega (arith, length-append l (c ∷ [])))
    ∙ ap (λ (k : List ℕ). cut_from limit (SizeLine sum k) y) (append_assoc l (c ∷ []) d)

-- a text, at a byte of its front
pub split-at : (x y : List ℕ) (i : ℕ) → i < length x → x ++ y ≡ take i x ++ (get_or x i 0 ∷ (drop (i + 1) x ++ y))
split-at x y i lt =
    ap (λ (z : List ℕ). z ++ y) (sym (take-append-drop i x) ∙ ap (λ (r : List ℕ). take i x ++ r) (drop_more x i 0 lt))
    ∙ append_assoc (take i x) (get_or x i 0 ∷ drop (i + 1) x) y

-- a text, cut in its front
pub cut-at : (x y : List ℕ) (i : ℕ) → x ++ y ≡ take i x ++ (drop i x ++ y)
cut-at x y i = ap (λ (z : List ℕ). z ++ y) (sym (take-append-drop i x)) ∙ append_assoc (take i x) (drop i x) y

-- a front of a text without an LF
pub other-take : (x : List ℕ) (i : ℕ) → ((k : ℕ) → k < i → eqb (get_or x k 0) 10 ≡ false) → AllOther 10 (take i x)
other-take x zero f = tt
other-take [] (suc i) f = tt
other-take (c ∷ x) (suc i) f = (f 0 (omega arith), other-take x i (λ k h. f (suc k) (omega arith)))

-- a text without one
all-other : (x : List ℕ) → ((k : ℕ) → k < length x → eqb (get_or x k 0) 10 ≡ false) → AllOther 10 x
all-other [] f = tt
all-other (c ∷ x) f = (f 0 (omega arith), all-other x (λ k h. f (suc k) (omega arith)))

-- how long a front is
length-front : (x : List ℕ) (i : ℕ) → i < length x → length (take i x) ≡ i
length-front x i lt = omega (arith, length-take i x)

-- a size line that ends within its limit
pub cut-line : (limit sum i : ℕ) (x y : List ℕ) → i < length x → i < 256 → ((k : ℕ) → k < i → eqb (get_or x k 0) 10 ≡ false) → get_or x i 0 ≡ 10
    → cut_from limit (SizeLine sum []) (x ++ y) ≡ goes_on (λ (t : TransferState). cut_from limit t (drop (i + 1) x ++ y)) 10 (sized limit sum (chunk_size_of (take (i + 1) x)))
cut-line limit sum i x y lt few f e =
    let rest : List ℕ = drop (i + 1) x ++ y in
    let line : take i x ++ 10 ∷ [] ≡ take (i + 1) x = sym (take_more x i 0 lt ∙ ap (λ (c : ℕ). take i x ++ c ∷ []) e) in
    ap (cut_from limit (SizeLine sum [])) (split-at x y i lt)
    ∙ size-run limit sum [] (take i x) (get_or x i 0 ∷ rest) (other-take x i f) (omega (arith, length-front x i lt))
    ∙ ap (λ (c : ℕ). cut_from limit (SizeLine sum (take i x)) (c ∷ rest)) e
    ∙ ap (λ (l : List ℕ). goes_on (λ (t : TransferState). cut_from limit t rest) 10 (sized limit sum (chunk_size_of l))) line

-- one that has no end within it
pub cut-long : (limit sum i : ℕ) (x y : List ℕ) → i < length x → i + 1 ≡ 256 → ((k : ℕ) → k < i + 1 → eqb (get_or x k 0) 10 ≡ false)
    → cut_from limit (SizeLine sum []) (x ++ y) ≡ ends (Faulty 400)
cut-long limit sum i x y lt full f =
    let rest : List ℕ = drop (i + 1) x ++ y in
    ap (cut_from limit (SizeLine sum [])) (split-at x y i lt)
    ∙ size-run limit sum [] (take i x) (get_or x i 0 ∷ rest) (other-take x i (λ k h. f k (omega arith))) (omega (arith, length-front x i lt))
    ∙ ap (goes_on (λ (t : TransferState). cut_from limit t rest) (get_or x i 0)) (size-full limit sum (get_or x i 0) (take i x) (f i (omega arith)) (omega (arith, length-front x i lt)))

-- one that is not whole
pub cut-open : (limit sum : ℕ) (x : List ℕ) → length x < 256 → ((k : ℕ) → k < length x → eqb (get_or x k 0) 10 ≡ false) → cut_from limit (SizeLine sum []) x ≡ ends Open
cut-open limit sum x few f =
    ap (cut_from limit (SizeLine sum [])) (sym (append-nil x))
    ∙ size-run limit sum [] x [] (all-other x f) (omega arith)

-- a size that fits under the limit
pub sized-fits : (limit sum size : ℕ) → 0 < size → sum + size ≤ limit → sized limit sum (Some size) ≡ Passes (Data (sum + size) size)
sized-fits limit sum zero some h = absurd (omega arith)
sized-fits limit sum (suc n) some h = let fits : ltb limit (sum + suc n) ≡ false = le-ltb limit (sum + suc n) h in rw fits
