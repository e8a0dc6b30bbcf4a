-- Cuts of a text at its last '/', and of a string at the place where its output begins.
use Rattle.std.proofs.Common.{◌≡◌, ℕ, ◌+◌, ◌≤◌, false, cond, List, [], ◌∷◌, ◌++◌, length, take, drop, refl, sym, ap, ◌∙◌, arith, suc, append_assoc, add-one, subst}
use Rattle.std.specs.Prelude.{Result, Ok, Err, OnOk, slice_range, ◌-◌}
use Rattle.std.specs.Str.{IsUtf8, IsCharBoundary}
use Rattle.std.proofs.lemmas.Str.{IsCharBoundary-from_take}
use Rattle.std.proofs.lemmas.List.{take-append-drop, drop-take, take-take, length-take}
use Rattle.std.proofs.Math.Seq.{drop-cons, take-length, drop-length, take-append_seam}
use Rattle.gs_iri.specs.Output.{has_slash, IsLastSlash, without_last}
use Rattle.gs_iri.specs.Resolving.{through_last}
use Rattle.gs_iri.proofs.DotsLemmas.{without_last-slash, slash_within}

-- the text round its last '/'
pub round_last : (x : List ℕ) (i : ℕ) → IsLastSlash x i → x ≡ take i x ++ 47 ∷ drop (i + 1) x
round_last x i s =
    let within = s.within in
    sym (take-append-drop i x) ∙ ap (λ z. take i x ++ z) (drop-cons x i 0 within ∙ ap (λ z. z ∷ drop (suc i) x) s.slash ∙ ap (λ n. 47 ∷ drop n x) (sym (add-one i)))

pub without_last-take : (x : List ℕ) (i : ℕ) → IsLastSlash x i → take i x ≡ without_last x
without_last-take x i s = sym (ap without_last (round_last x i s) ∙ without_last-slash (take i x) (drop (i + 1) x) s.last)

-- a string may be cut where a text ends
pub boundary_of_front : (x : List ℕ) (n : ℕ) → IsUtf8 x → n ≤ length x → IsUtf8 (take n x) → IsCharBoundary x n
boundary_of_front x n u l f = IsCharBoundary-from_take x n u l f

pub drop_front : (n : ℕ) (x : List ℕ) → drop n (take n x) ≡ []
drop_front n x = ap (λ m. drop n (take m x)) (let e : n ≡ n + 0 = omega arith in e) ∙ drop-take n 0 x

-- the front of a string stays, and with it that it is text
pub spelled_along : (x y : List ℕ) (n : ℕ) → take n y ≡ take n x → IsUtf8 (take n x) → IsUtf8 (take n y)
spelled_along x y n e u = subst IsUtf8 (sym e) u

pub spelled_whole : (x : List ℕ) (n : ℕ) → n ≡ length x → IsUtf8 x → IsUtf8 (take n x)
spelled_whole x n e u = subst IsUtf8 (sym (ap (λ m. take m x) e ∙ take-length x)) u

pub drop_whole : (x : List ℕ) (n : ℕ) → n ≡ length x → drop n x ≡ []
drop_whole x n e = ap (λ m. drop m x) e ∙ drop-length x

-- a string whose front is the old one, and what stands after that
pub appended : (old new t : List ℕ) (n : ℕ) → n ≡ length old → take n new ≡ take n old → drop n new ≡ t → new ≡ old ++ t
appended old new t n e f d =
    sym (take-append-drop n new) ∙ ap (λ z. z ++ drop n new) (f ∙ ap (λ m. take m old) e ∙ take-length old) ∙ ap (λ z. old ++ z) d

pub front_whole : (old new : List ℕ) (n : ℕ) → n ≡ length old → take n new ≡ take n old → take (length old) new ≡ old
front_whole old new n e f = ap (λ m. take m new) (sym e) ∙ f ∙ ap (λ m. take m old) e ∙ take-length old

pub front_along : (a b c : List ℕ) → take (length a) b ≡ a → take (length b) c ≡ b → take (length a) c ≡ a
front_along a b c f g =
    let short : length a ≤ length b = omega (arith, ap length f, length-take (length a) b) in
    sym (take-take (length a) (length b) c short) ∙ ap (take (length a)) g ∙ f

-- a text whose middle is put in between
pub three_parts : (old s a p q f o1 o2 o3 : List ℕ) → o1 ≡ (old ++ s) ++ a → o2 ≡ o1 ++ p → o3 ≡ (o2 ++ q) ++ f → o3 ≡ old ++ (s ++ (a ++ (p ++ (q ++ f))))
three_parts old s a p q f o1 o2 o3 e1 e2 e3 =
    e3 ∙ ap (λ z. (z ++ q) ++ f) (e2 ∙ ap (λ z. z ++ p) e1) ∙ simp append_assoc

pub on_ok : {T E : Type 0} {P Q : Type 0} (r : Result T E) → (P → Q) → OnOk r P → OnOk r Q
on_ok (Ok v) f h = f h
on_ok (Err e) f h = h

-- a string may be cut where it ended before
pub boundary_of_old : (old new : List ℕ) (n : ℕ) → n ≡ length old → IsUtf8 old → IsUtf8 new → take (length old) new ≡ old → n ≤ length new → IsCharBoundary new n
boundary_of_old old new n e u v f l = boundary_of_front new n v l (subst IsUtf8 (sym (ap (λ m. take m new) e ∙ f)) u)

-- through the last '/'
pub through_last-none : (x : List ℕ) → has_slash x ≡ false → through_last x ≡ []
unfolding through_last
through_last-none [] h = refl
through_last-none (c ∷ cs) h = ap (λ b. cond b (c ∷ through_last cs) []) h

through_last-slash : (x y : List ℕ) → has_slash y ≡ false → through_last (x ++ 47 ∷ y) ≡ x ++ 47 ∷ []
unfolding through_last
through_last-slash [] y h = ap (λ z. 47 ∷ z) (through_last-none y h)
through_last-slash (c ∷ cs) y h = ap (λ b. cond b (c ∷ through_last (cs ++ 47 ∷ y)) []) (slash_within (c ∷ cs) y) ∙ ap (λ z. c ∷ z) (through_last-slash cs y h)

pub through_last-take : (x : List ℕ) (i : ℕ) → IsLastSlash x i → take i x ++ 47 ∷ [] ≡ through_last x
through_last-take x i s = sym (ap through_last (round_last x i s) ∙ through_last-slash (take i x) (drop (i + 1) x) s.last)

pub front_of_append : (old new t : List ℕ) → new ≡ old ++ t → take (length old) new ≡ old
front_of_append old new t e = ap (take (length old)) e ∙ take-append_seam old t

pub range_front : (x : List ℕ) (i : ℕ) → slice_range x 0 i ≡ take i x
range_front x i = ap (λ n. take n x) (let e : i - 0 ≡ i = omega arith in e)
