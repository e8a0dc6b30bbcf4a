-- Spans of bytes: their lengths, in longer bytes, and compared with a text.
use Rattle.std.proofs.Common.{◌≡◌, ℕ, ◌+◌, ◌-◌, ◌≤◌, min, Bool, true, false, ◌&&◌, eqb, List, [], ◌∷◌, ◌++◌, length, take, drop, ap, sym, ◌∙◌, refl, arith, length-take, length-drop, length-append}
use Rattle.std.specs.Str.{bytes_eq}
use Rattle.std.proofs.Math.Bool.{and-true}
use Rattle.std.proofs.lemmas.Bool.{and_right}
use Rattle.std.proofs.lemmas.List.{take_all, take-take, take_min, take-append-le, drop_at, drop-append-le, length-take-le}
use Rattle.gs_packed_texts.specs.Packing.{TextMark, Last, Earlier, Whole, Front, text_by, memory_after}
use Rattle.gs_packed_texts.specs.Kept.{span_in, parts_in, memory_in, front_of, window_after, IsSpanIn, ArePartsIn, IsWindowIn}
use Rattle.gs_packed_texts.specs.declared.windows.Span.{Span}
use Rattle.gs_packed_texts.specs.declared.windows.Parts.{Parts}
use Rattle.gs_packed_texts.specs.declared.windows.Window.{Window}

-- bytes are compared part by part
bytes_eq_append : (a b x y : List ℕ) → length a ≡ length x → bytes_eq (a ++ b) (x ++ y) ≡ (bytes_eq a x && bytes_eq b y)
bytes_eq_append [] b [] y h = refl
bytes_eq_append [] b (c ∷ x) y h = absurd (omega arith)
bytes_eq_append (c ∷ a) b [] y h = absurd (omega arith)
bytes_eq_append (c ∷ a) b (d ∷ x) y h =
    let rest : bytes_eq (a ++ b) (x ++ y) ≡ (bytes_eq a x && bytes_eq b y) = bytes_eq_append a b x y (omega arith) in
    let P : Bool → Type 0 = λ t. (t && bytes_eq (a ++ b) (x ++ y)) ≡ ((t && bytes_eq a x) && bytes_eq b y) in
    elim (eqb c d) as P [ true ↦ rest | false ↦ refl ]

-- the number of a span's bytes
length_span : (x : List ℕ) (s : Span) → IsSpanIn (length x) s → length (span_in x s) ≡ s.count
length_span x s h = omega (arith, length-take (s.start + s.count - s.start) (drop s.start x), length-drop s.start x)

-- a text of two spans is compared span by span
parts_eq :
    (x : List ℕ) (p : Parts) (front rest t : List ℕ) → ArePartsIn (length x) p → t ≡ front ++ rest → length front ≡ p.front.count
    → bytes_eq (parts_in x p) t ≡ (bytes_eq (span_in x p.front) front && bytes_eq (span_in x p.rest) rest)
parts_eq x p front rest t h e l =
    ap (bytes_eq (parts_in x p)) e
    ∙ bytes_eq_append (span_in x p.front) (span_in x p.rest) front rest (length_span x p.front h.0 ∙ sym l)

-- where the second spans agree, the first ones decide
pub parts_eq_by_front :
    (x : List ℕ) (p : Parts) (front rest t : List ℕ) → ArePartsIn (length x) p → t ≡ front ++ rest → length front ≡ p.front.count
    → bytes_eq (span_in x p.rest) rest ≡ true → bytes_eq (parts_in x p) t ≡ bytes_eq (span_in x p.front) front
parts_eq_by_front x p front rest t h e l same =
    parts_eq x p front rest t h e l
    ∙ (ap (λ b. bytes_eq (span_in x p.front) front && b) same ∙ and-true (bytes_eq (span_in x p.front) front))

-- where the second spans differ, the texts do
pub parts_differ :
    (x : List ℕ) (p : Parts) (front rest t : List ℕ) → ArePartsIn (length x) p → t ≡ front ++ rest → length front ≡ p.front.count
    → bytes_eq (span_in x p.rest) rest ≡ false → bytes_eq (parts_in x p) t ≡ false
parts_differ x p front rest t h e l other =
    parts_eq x p front rest t h e l ∙ and_right (bytes_eq (span_in x p.front) front) (bytes_eq (span_in x p.rest) rest) other

-- spans stay what they are in longer bytes
span_more : (x y : List ℕ) (s : Span) → IsSpanIn (length x) s → span_in (x ++ y) s ≡ span_in x s
span_more x y s h =
    let within : s.start ≤ length x = omega arith in
    let count : s.start + s.count - s.start ≤ length (drop s.start x) = omega (arith, length-drop s.start x) in
    ap (take (s.start + s.count - s.start)) (drop-append-le s.start x y within)
    ∙ take-append-le (s.start + s.count - s.start) (drop s.start x) y count

-- texts of two spans stay what they are
parts_more : (x y : List ℕ) (p : Parts) → ArePartsIn (length x) p → parts_in (x ++ y) p ≡ parts_in x p
parts_more x y p h = ap (λ z. z ++ span_in (x ++ y) p.rest) (span_more x y p.front h.0) ∙ ap (λ z. span_in x p.front ++ z) (span_more x y p.rest h.1)

-- the texts of a window stay what they are
pub memory_more : (x y : List ℕ) (w : Window) → IsWindowIn (length x) w → memory_in (x ++ y) w ≡ memory_in x w
memory_more x y w h = rw (span_more x y w.anchor h.anchor, parts_more x y w.last h.last, parts_more x y w.earlier h.earlier)

-- a window lies in longer bytes too
pub window_in_more : (x y : List ℕ) (w : Window) → IsWindowIn (length x) w → IsWindowIn (length (x ++ y)) w
window_in_more x y w h = record {
  anchor = omega (arith, h.anchor, length-append x y);
  last = (omega (arith, h.last.0, length-append x y), omega (arith, h.last.1, length-append x y));
  earlier = (omega (arith, h.earlier.0, length-append x y), omega (arith, h.earlier.1, length-append x y));
}

-- the last bytes
pub span_last : (x y : List ℕ) (s : Span) → s.start ≡ length x → s.count ≡ length y → span_in (x ++ y) s ≡ y
span_last x y s a b =
    ap (take (s.start + s.count - s.start)) (drop_at x y s.start (sym a)) ∙ take_all (s.start + s.count - s.start) y (omega arith)

-- a front of a span
front_span : (x : List ℕ) (n : ℕ) (s : Span) → IsSpanIn (length x) s → span_in x (front_of n s) ≡ take n (span_in x s)
front_span x n s h =
    let d : List ℕ = drop s.start x in
    let long : s.count ≤ length d = omega (arith, length-drop s.start x) in
    let count : length (take s.count d) ≡ s.count = length-take-le s.count d long in
    let least : min n s.count ≤ s.count = omega arith in
    let all : s.start + s.count - s.start ≡ s.count = omega arith in
    let some : s.start + min n s.count - s.start ≡ min n s.count = omega arith in
    ap (λ k. take k d) some
    ∙ (sym (take-take (min n s.count) s.count d least)
    ∙ (ap (λ k. take (min n k) (take s.count d)) (sym count)
    ∙ (take_min n (take s.count d) ∙ ap (λ k. take n (take k d)) (sym all))))

-- a text stands where the window after it says
pub text_after :
    (m : TextMark) (x : List ℕ) (own : Span) (w : Window) → IsWindowIn (length x) w
    → parts_in x (window_after m own w).last ≡ text_by m (memory_in x w) (span_in x own)
text_after Last x own w h = refl
text_after Earlier x own w h = refl
text_after Whole x own w h = refl
text_after (Front n) x own w h = ap (λ z. z ++ span_in x own) (front_span x n w.anchor h.anchor)

-- all texts of the memory stand where the window after it says
pub memory_of_after :
    (m : TextMark) (x : List ℕ) (own : Span) (w : Window) → IsWindowIn (length x) w
    → memory_in x (window_after m own w) ≡ memory_after m (text_by m (memory_in x w) (span_in x own)) (memory_in x w)
memory_of_after Last x own w h = refl
memory_of_after Earlier x own w h = refl
memory_of_after Whole x own w h = refl
memory_of_after (Front n) x own w h = rw (front_span x n w.anchor h.anchor)

-- the window after a text lies in the bytes
pub window_in_after :
    (m : TextMark) (n : ℕ) (own : Span) (w : Window) → IsWindowIn n w → IsSpanIn n own → IsWindowIn n (window_after m own w)
window_in_after Last n own w h o = h
window_in_after Earlier n own w h o = record { anchor = h.anchor; last = h.earlier; earlier = h.last }
window_in_after Whole n own w h o = record { anchor = o; last = (omega arith, o); earlier = h.last }
window_in_after (Front k) n own w h o = record { anchor = h.anchor; last = (omega (arith, h.anchor), o); earlier = h.last }
