-- Marks of triples that were found.
use Rattle.std.proofs.Common.{◌≡◌, ◌<◌, ℕ, zero, suc, Bool, true, false, ◌||◌, List, [], ◌∷◌, ◌++◌, map, length, get_or, replicate, refl, sym, ap, ◌∙◌, arith, append_assoc, append-nil, subst}
use Rattle.std.specs.List.{slice_set, All, AllByRecursion}
use Rattle.std.specs.List.Sorted.{IsStrictlySortedBy}
use Rattle.std.specs.Ordering.{eq_by_cmp, is_eq, ordering_reverse}
use Rattle.std.specs.declared.cmp.Ordering.TheVariants.{Less}
use Rattle.std.proofs.lemmas.Cmp.{eq_by_cmp_equiv}
use Rattle.std.proofs.lemmas.List.{nil_from_length}
use Rattle.std.proofs.lemmas.Simd.{splat_is_map}
use Rattle.std.proofs.lemmas.List.Folds.{list_any-append}
use Rattle.gs_model.specs.Triples.{RdfTriple, triple_cmp}
use Rattle.gs_model.proofs.GraphLemmas.{triple_total}
use Rattle.gs_term.specs.declared.patterns.Pattern.{Pattern}
use Rattle.gs_event.specs.Solutions.{is_among}
use Rattle.gs_graphs.specs.Solving.{numbered, found_from, marked_by, AreMarked}
use Rattle.gs_graphs.proofs.SearchLemmas.{chosen_by}

-- one triple more, which this one is not
not_last : (found : List RdfTriple) (t u : RdfTriple) → eq_by_cmp triple_cmp u t ≡ false → is_among (found ++ t ∷ []) u ≡ is_among found u
not_last found t u h = list_any-append (eq_by_cmp triple_cmp u) found (t ∷ []) ∙ ap (λ r. is_among found u || (r || false)) h ∙ or_false (is_among found u)
  where
    or_false : (r : Bool) → (r || false) ≡ r
    or_false true = refl
    or_false false = refl

is_last : (found : List RdfTriple) (t : RdfTriple) → is_among (found ++ t ∷ []) t ≡ true
is_last found t = list_any-append (eq_by_cmp triple_cmp t) found (t ∷ []) ∙ ap (λ r. is_among found t || (r || false)) ((eq_by_cmp_equiv triple_total).refl t) ∙ or_true (is_among found t)
  where
    or_true : (r : Bool) → (r || (true || false)) ≡ true
    or_true true = refl
    or_true false = refl

above : (t u : RdfTriple) → triple_cmp t u ≡ Less → eq_by_cmp triple_cmp u t ≡ false
above t u h = ap is_eq (triple_total.antisymm u t ∙ ap ordering_reverse h)

at_place : (P : RdfTriple → Type 0) (us : List RdfTriple) (i : ℕ) (d : RdfTriple) → AllByRecursion P us → i < length us → P (get_or us i d)
at_place P [] i d h lt = absurd (omega arith)
at_place P (u ∷ us) zero d h lt = h.0
at_place P (u ∷ us) (suc i) d h lt = at_place P us i d h.1 (omega arith)

same_above : (found : List RdfTriple) (t : RdfTriple) (us : List RdfTriple) → AllByRecursion (λ u. triple_cmp t u ≡ Less) us → map (is_among found) us ≡ map (is_among (found ++ t ∷ [])) us
same_above found t [] h = refl
same_above found t (u ∷ us) h = λ k. sym (not_last found t u (above t u h.0)) k ∷ same_above found t us h.1 k

set_one : (found us : List RdfTriple) (i : ℕ) (d : RdfTriple) → IsStrictlySortedBy triple_cmp us → i < length us → slice_set (map (is_among found) us) i true ≡ map (is_among (found ++ get_or us i d ∷ [])) us
unfolding IsStrictlySortedBy
set_one found [] i d sorted lt = absurd (omega arith)
set_one found (u ∷ us) zero d sorted lt = λ k. sym (is_last found u) k ∷ same_above found u us sorted.0 k
set_one found (u ∷ us) (suc i) d sorted lt =
    let below : triple_cmp u (get_or us i d) ≡ Less = at_place (λ v. triple_cmp u v ≡ Less) us i d sorted.0 (omega arith) in
    λ k. sym (not_last found (get_or us i d) u (ap is_eq below)) k ∷ set_one found us i d sorted.1 (omega arith) k

-- nothing is marked at first
pub none_marked : (ts : List RdfTriple) (marks : List Bool) → marks ≡ replicate (length ts) false → AreMarked ts marks []
none_marked ts marks is = is ∙ splat_is_map ts (length ts) false refl

-- nothing is found for no patterns
pub none_wanted : (ts : List RdfTriple) (ps : List Pattern) (marks : List Bool) → marks ≡ replicate (length ts) false → length ps ≡ 0 → AreMarked ts marks (found_from ts ps [] [])
none_wanted ts ps marks is none = subst (λ qs. AreMarked ts marks (found_from ts qs [] [])) (sym (nil_from_length ps none)) (none_marked ts marks is)

-- one mark more
pub mark_one : (ts : List RdfTriple) (marks : List Bool) (found : List RdfTriple) (i : ℕ) → IsStrictlySortedBy triple_cmp ts → i < length ts → AreMarked ts marks found
    → AreMarked ts (slice_set marks i true) (found ++ numbered ts i ∷ [])
mark_one ts marks found i sorted lt h = ap (λ ms. slice_set ms i true) h ∙ set_one found ts i _ sorted lt

-- the marks of the triples that were chosen
pub mark_each : (ts : List RdfTriple) (marks : List Bool) (found : List RdfTriple) (is : List ℕ) → IsStrictlySortedBy triple_cmp ts → All (λ i. i < length ts) is → AreMarked ts marks found
    → AreMarked ts (marked_by is marks) (chosen_by ts found is)
mark_each ts marks found [] sorted within h = h
mark_each ts marks found (i ∷ is) sorted within h =
    mark_each ts (slice_set marks i true) (found ++ numbered ts i ∷ []) is sorted (λ k d lt. within (suc k) d (omega arith)) (mark_one ts marks found i sorted (within 0 0 (omega arith)) h)

-- what was chosen comes after what was found
pub chosen_after : (ts xs ys : List RdfTriple) (is : List ℕ) → chosen_by ts (xs ++ ys) is ≡ xs ++ chosen_by ts ys is
chosen_after ts xs ys [] = refl
chosen_after ts xs ys (i ∷ is) = ap (λ zs. chosen_by ts zs is) (append_assoc xs ys (numbered ts i ∷ [])) ∙ chosen_after ts xs (ys ++ numbered ts i ∷ []) is

-- the triples that were chosen and one more are marked
pub mark_found : (ts : List RdfTriple) (marks : List Bool) (found : List RdfTriple) (is : List ℕ) (i : ℕ) → IsStrictlySortedBy triple_cmp ts → All (λ j. j < length ts) is → i < length ts → AreMarked ts marks found
    → AreMarked ts (slice_set (marked_by is marks) i true) (found ++ (chosen_by ts [] is ++ numbered ts i ∷ []))
mark_found ts marks found is i sorted within lt h =
    let both : chosen_by ts found is ++ numbered ts i ∷ [] ≡ found ++ (chosen_by ts [] is ++ numbered ts i ∷ []) =
    ap (λ zs. zs ++ numbered ts i ∷ []) (ap (λ zs. chosen_by ts zs is) (sym (append-nil found)) ∙ chosen_after ts found [] is) ∙ append_assoc found (chosen_by ts [] is) (numbered ts i ∷ []) in
    subst (AreMarked ts (slice_set (marked_by is marks) i true)) both (mark_one ts (marked_by is marks) (chosen_by ts found is) i sorted lt (mark_each ts marks found is sorted within h))
