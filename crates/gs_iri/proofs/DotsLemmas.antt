-- The removal of dot segments on lists of segments is the one on a text.
use Rattle.std.proofs.Common.{◌≡◌, ℕ, Bool, true, false, cond, ◌||◌, ◌==◌, List, [], ◌∷◌, ◌++◌, refl, sym, ap, ◌∙◌, subst, append_assoc, append-nil, inl, inr, drop, length, ◌≤◌, ◌<◌, arith}
use Rattle.std.specs.Prelude.{Option, Some, None, codes, fold, ◌⊎◌}
use Rattle.std.specs.List.{onto_first}
use Rattle.std.proofs.lemmas.Bool.{ne_eqb}
use Rattle.std.proofs.lemmas.Bool.Decides.{eqb_tells}
use Rattle.std.proofs.lemmas.List.Sums.{fold-append}
use Rattle.gs_iri.specs.References.{is_one_of, before, from, rest_after}
use Rattle.gs_iri.specs.Dots.{Output, segments_of, is_dot, is_dot_dot, is_dots, last_of, closed, moved, text_of_segments, output_of, dots}
use Rattle.gs_iri.specs.Output.{has_slash, without_last, put_after, put}

-- the one byte "/"
pub slash_test : (c : ℕ) → is_one_of (codes "/") c ≡ (c == 47)
slash_test c =
    elim (eqb_tells c 47) [
      | inl p ↦ subst (λ z. is_one_of (codes "/") z ≡ (z == 47)) (sym p.1) refl
      | inr p ↦ ap (λ b. b || false) (ne_eqb 47 c (λ e. p.1 (sym e))) ∙ sym p.0
    ]

-- the segments after the first
abbrev pub more_segments : Option (List ℕ) → List (List ℕ)
more_segments None = []
more_segments (Some y) = segments_of y

-- the segments of a path are the text before its first '/', and those of the text after it
pub segments-cut : (x : List ℕ) → segments_of x ≡ before (codes "/") x ∷ more_segments (rest_after 47 (from (codes "/") x))
unfolding segments_of before from rest_after
segments-cut [] = refl
segments-cut (c ∷ cs) =
    elim (is_one_of (codes "/") c) as (λ b. is_one_of (codes "/") c ≡ b → cond (c == 47) ([] ∷ segments_of cs) (onto_first c (segments_of cs)) ≡ cond b [] (c ∷ before (codes "/") cs) ∷ more_segments (rest_after 47 (cond b (c ∷ cs) (from (codes "/") cs)))) [
      | true ↦ λ h.
          let e : (c == 47) ≡ true = sym (slash_test c) ∙ h in
          ap (λ b. cond b ([] ∷ segments_of cs) (onto_first c (segments_of cs))) e ∙ sym (ap (λ b. [] ∷ more_segments (cond b (Some cs) None)) e)
      | false ↦ λ h.
          let e : (c == 47) ≡ false = sym (slash_test c) ∙ h in
          ap (λ b. cond b ([] ∷ segments_of cs) (onto_first c (segments_of cs))) e ∙ ap (onto_first c) (segments-cut cs)
    ] refl

onto_first-append : (c : ℕ) (xs ys : List (List ℕ)) (s : List ℕ) (ss : List (List ℕ)) → xs ≡ s ∷ ss → onto_first c (xs ++ ys) ≡ onto_first c xs ++ ys
onto_first-append c xs ys s ss e = ap (λ z. onto_first c (z ++ ys)) e ∙ sym (ap (λ z. onto_first c z ++ ys) e)

-- a path through a '/' has the segments before it and those after it
pub segments-append : (x y : List ℕ) → segments_of (x ++ 47 ∷ y) ≡ segments_of x ++ segments_of y
unfolding segments_of
segments-append [] y = refl
segments-append (c ∷ cs) y =
    elim (c == 47) as (λ b. cond b ([] ∷ segments_of (cs ++ 47 ∷ y)) (onto_first c (segments_of (cs ++ 47 ∷ y))) ≡ cond b ([] ∷ segments_of cs) (onto_first c (segments_of cs)) ++ segments_of y) [
      | true ↦ ap (λ z. [] ∷ z) (segments-append cs y)
      | false ↦ ap (onto_first c) (segments-append cs y) ∙ onto_first-append c (segments_of cs) (segments_of y) (before (codes "/") cs) (more_segments (rest_after 47 (from (codes "/") cs))) (segments-cut cs)
    ]

last-more : (s t : List ℕ) (xs ts : List (List ℕ)) → xs ≡ t ∷ ts → last_of (s ∷ xs) ≡ last_of xs
last-more s t xs ts e = ap (λ z. last_of (s ∷ z)) e ∙ sym (ap last_of e)

-- the last segment is that of the text after the first '/'
pub last-cut : (s y : List ℕ) → last_of (s ∷ segments_of y) ≡ last_of (segments_of y)
last-cut s y = last-more s (before (codes "/") y) (segments_of y) (more_segments (rest_after 47 (from (codes "/") y))) (segments-cut y)

pub last-append : (xs : List (List ℕ)) (y : List ℕ) → last_of (xs ++ segments_of y) ≡ last_of (segments_of y)
last-append [] y = refl
last-append (x ∷ []) y = last-cut x y
last-append (x ∷ z ∷ zs) y = last-append (z ∷ zs) y

right_false : (a b : Bool) → (a || b) ≡ false → b ≡ false
right_false true b e = absurd (cc)
right_false false b e = e

pub slash_within : (x y : List ℕ) → has_slash (x ++ 47 ∷ y) ≡ true
slash_within [] y = refl
slash_within (c ∷ cs) y =
    elim (c == 47) as (λ b. (b || has_slash (cs ++ 47 ∷ y)) ≡ true) [ true ↦ refl | false ↦ slash_within cs y ]

-- what stands before the last '/' of a text
pub without_last-none : (x : List ℕ) → has_slash x ≡ false → without_last x ≡ []
unfolding without_last
without_last-none [] h = refl
without_last-none (c ∷ cs) h =
    let rest : has_slash cs ≡ false = right_false (c == 47) (has_slash cs) h in
    ap (λ b. cond b (c ∷ without_last cs) []) rest

pub without_last-slash : (x y : List ℕ) → has_slash y ≡ false → without_last (x ++ 47 ∷ y) ≡ x
unfolding without_last
without_last-slash [] y h = ap (λ b. cond b (47 ∷ without_last y) []) h
without_last-slash (c ∷ cs) y h = ap (λ b. cond b (c ∷ without_last (cs ++ 47 ∷ y)) []) (slash_within cs y) ∙ ap (λ z. c ∷ z) (without_last-slash cs y h)

-- what is moved: a segment after a '/', or the first of all without it
pub record IsAfter (s : List ℕ) : Type 0 where
  pub text : List ℕ
  pub parts : s ≡ 47 ∷ text
  pub plain : has_slash text ≡ false

abbrev pub AreMoved : List (List ℕ) → Type 0
AreMoved [] = Unit {0}
AreMoved (s ∷ ss) = (IsAfter s ⊎ ((ss ≡ []) × (has_slash s ≡ false))) × AreMoved ss

abbrev pub IsOutput : Output → Type 0
IsOutput None = Unit {0}
IsOutput (Some out) = AreMoved out

-- the output as a text
abbrev pub shown : Output → Bool × List ℕ
shown None = (false, [])
shown (Some out) = (true, text_of_segments out)

drop_moved : (out : List (List ℕ)) → AreMoved out → AreMoved (drop 1 out)
drop_moved [] m = tt
drop_moved (s ∷ ss) m = m.1

without_last-text : (out : List (List ℕ)) → AreMoved out → without_last (text_of_segments out) ≡ text_of_segments (drop 1 out)
unfolding text_of_segments without_last
without_last-text [] m = refl
without_last-text (s ∷ ss) m =
    elim m.0 [
      | inl p ↦ ap (λ z. without_last (text_of_segments ss ++ z)) p.parts ∙ without_last-slash (text_of_segments ss) p.text p.plain
      | inr p ↦ ap (λ z. without_last (text_of_segments z ++ s)) p.0 ∙ without_last-none s p.1 ∙ sym (ap text_of_segments p.0)
    ]

pub record Moves (o : Output) (s : List ℕ) : Type 0 where
  pub same : put (shown o) s ≡ shown (moved o s)
  pub output : IsOutput (moved o s)

moves : (o : Output) (s : List ℕ) → IsOutput o → has_slash s ≡ false → Moves o s
unfolding moved put put_after text_of_segments
moves None s m h =
    elim (is_dots s) as (λ b. is_dots s ≡ b → Moves None s) [
      | true ↦ λ e. record { same = rw e refl; output = rw e tt }
      | false ↦ λ e. record { same = rw e refl; output = rw e (inr (refl, h), tt) }
    ] refl
moves (Some out) s m h =
    elim (is_dot s) as (λ b. is_dot s ≡ b → Moves (Some out) s) [
      | true ↦ λ e. record { same = rw e refl; output = rw e m }
      | false ↦ λ e.
          elim (is_dot_dot s) as (λ d. is_dot_dot s ≡ d → Moves (Some out) s) [
            | true ↦ λ f. record { same = rw (e, f) (ap (λ z. (true, z)) (without_last-text out m)); output = rw (e, f) (drop_moved out m) }
            | false ↦ λ f. record { same = rw (e, f) refl; output = rw (e, f) (inl (record { text = s; parts = refl; plain = h }), m) }
          ] refl
    ] refl

abbrev pub ArePlain : List (List ℕ) → Type 0
ArePlain [] = Unit {0}
ArePlain (s ∷ ss) = (has_slash s ≡ false) × ArePlain ss

moves_all : (o : Output) (ss : List (List ℕ)) → IsOutput o → ArePlain ss → fold put (shown o) ss ≡ shown (fold moved o ss)
moves_all o [] m p = refl
moves_all o (s ∷ ss) m p =
    let step = moves o s m p.0 in
    ap (λ z. fold put z ss) step.same ∙ moves_all (moved o s) ss step.output p.1

plain_onto : (c : ℕ) (ss : List (List ℕ)) → (c == 47) ≡ false → ArePlain ss → ArePlain (onto_first c ss)
plain_onto c [] e p = (ap (λ b. b || false) e, tt)
plain_onto c (s ∷ ss) e p = (ap (λ b. b || has_slash s) e ∙ p.0, p.1)

plain_segments : (x : List ℕ) → ArePlain (segments_of x)
unfolding segments_of
plain_segments [] = (refl, tt)
plain_segments (c ∷ cs) =
    elim (c == 47) as (λ b. (c == 47) ≡ b → ArePlain (cond b ([] ∷ segments_of cs) (onto_first c (segments_of cs)))) [
      | true ↦ λ e. (refl, plain_segments cs)
      | false ↦ λ e. plain_onto c (segments_of cs) e (plain_segments cs)
    ] refl

plain-append : (xs ys : List (List ℕ)) → ArePlain xs → ArePlain ys → ArePlain (xs ++ ys)
plain-append [] ys p q = q
plain-append (x ∷ xs) ys p q = (p.0, plain-append xs ys p.1 q)

plain_closed : (ss : List (List ℕ)) → ArePlain ss → ArePlain (closed ss)
unfolding closed
plain_closed ss p = plain-append ss _ p (elim (is_dots (last_of ss)) as (λ b. ArePlain (cond b ([] ∷ []) [])) [ true ↦ (refl, tt) | false ↦ tt ])

output-shown : (o : Output) → (shown o).1 ≡ output_of o
unfolding output_of
output-shown None = refl
output-shown (Some out) = refl

-- the path without its dot segments, by the text
pub dots-text : (path : List ℕ) → (fold put (false, []) (closed (segments_of path))).1 ≡ dots path
unfolding dots
dots-text path =
    ap (λ z. z.1) (moves_all None (closed (segments_of path)) tt (plain_closed (segments_of path) (plain_segments path)))
    ∙ output-shown (fold moved None (closed (segments_of path)))

-- one segment more, and what is after it
pub put_more : (o : Bool × List ℕ) (x segment back y : List ℕ) → segment ≡ before (codes "/") x → back ≡ from (codes "/") x → rest_after 47 back ≡ Some y
    → fold put o (segments_of x) ≡ fold put (put o segment) (segments_of y)
put_more o x segment back y s b e =
    ap (fold put o) (segments-cut x ∙ ap (λ z. z ∷ more_segments (rest_after 47 (from (codes "/") x))) (sym s) ∙ ap (λ z. segment ∷ more_segments (rest_after 47 z)) (sym b) ∙ ap (λ z. segment ∷ more_segments z) e)

pub put_last : (x segment back : List ℕ) → segment ≡ before (codes "/") x → back ≡ from (codes "/") x → rest_after 47 back ≡ None → segments_of x ≡ segment ∷ []
put_last x segment back s b e =
    segments-cut x ∙ ap (λ z. z ∷ more_segments (rest_after 47 (from (codes "/") x))) (sym s) ∙ ap (λ z. segment ∷ more_segments (rest_after 47 z)) (sym b) ∙ ap (λ z. segment ∷ more_segments z) e

pub last_more : (x segment back y : List ℕ) → segment ≡ before (codes "/") x → back ≡ from (codes "/") x → rest_after 47 back ≡ Some y → last_of (segments_of x) ≡ last_of (segments_of y)
last_more x segment back y s b e =
    ap last_of (segments-cut x ∙ ap (λ z. z ∷ more_segments (rest_after 47 (from (codes "/") x))) (sym s) ∙ ap (λ z. segment ∷ more_segments (rest_after 47 z)) (sym b) ∙ ap (λ z. segment ∷ more_segments z) e) ∙ last-cut segment y

from_is_short : (x : List ℕ) → length (from (codes "/") x) ≤ length x
unfolding from
from_is_short [] = omega arith
from_is_short (c ∷ cs) =
    elim (is_one_of (codes "/") c) as (λ b. length (cond b (c ∷ cs) (from (codes "/") cs)) ≤ length (c ∷ cs)) [
      | true ↦ omega arith
      | false ↦ let h = from_is_short cs in omega arith
    ]

rest_after_is_shorter : (mark : ℕ) (x y : List ℕ) → rest_after mark x ≡ Some y → length y < length x
unfolding rest_after
rest_after_is_shorter mark [] y e = absurd (cc)
rest_after_is_shorter mark (c ∷ cs) y e =
    elim (c == mark) as (λ b. cond b (Some cs) None ≡ Some y → length y < length (c ∷ cs)) [
      | true ↦ λ h. let same : cs ≡ y = cc in omega (arith, ap length same)
      | false ↦ λ h. absurd (cc)
    ] e

pub rest_is_shorter : (x back y : List ℕ) → back ≡ from (codes "/") x → rest_after 47 back ≡ Some y → length y < length x
rest_is_shorter x back y b e = omega (arith, rest_after_is_shorter 47 back y e, from_is_short x, ap length b)

-- a dot segment at the end of a path stands for itself and an empty segment
pub closed_dots : (o : Bool × List ℕ) (ss : List (List ℕ)) (s : List ℕ) → s ≡ last_of ss → is_dots s ≡ true → fold put o (closed ss) ≡ put (fold put o ss) []
unfolding closed
closed_dots o ss s e h =
    ap (λ b. fold put o (ss ++ cond b ([] ∷ []) [])) (sym (ap is_dots e) ∙ h) ∙ fold-append put o ss ([] ∷ [])

pub closed_plain : (o : Bool × List ℕ) (ss : List (List ℕ)) (s : List ℕ) → s ≡ last_of ss → is_dots s ≡ false → fold put o (closed ss) ≡ fold put o ss
unfolding closed
closed_plain o ss s e h =
    ap (λ b. fold put o (ss ++ cond b ([] ∷ []) [])) (sym (ap is_dots e) ∙ h) ∙ ap (fold put o) (append-nil ss)

closed-append : (xs : List (List ℕ)) (y : List ℕ) → closed (xs ++ segments_of y) ≡ xs ++ closed (segments_of y)
unfolding closed
closed-append xs y =
    ap (λ z. (xs ++ segments_of y) ++ cond (is_dots z) ([] ∷ []) []) (last-append xs y)
    ∙ append_assoc xs (segments_of y) (cond (is_dots (last_of (segments_of y))) ([] ∷ []) [])

-- a path after a front and a '/'
pub dots_after : (front path : List ℕ) → (fold put (fold put (false, []) (segments_of front)) (closed (segments_of path))).1 ≡ dots ((front ++ codes "/") ++ path)
dots_after front path =
    ap (λ z. z.1) (sym (fold-append put (false, []) (segments_of front) (closed (segments_of path))) ∙ ap (fold put (false, [])) (sym (closed-append (segments_of front) path) ∙ ap closed (sym (segments-append front path))))
    ∙ dots-text (front ++ 47 ∷ path) ∙ ap dots (sym (append_assoc front (codes "/") path))
