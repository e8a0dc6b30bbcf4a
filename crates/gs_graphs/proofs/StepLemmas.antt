-- The steps of a search, from place to place.
use Rattle.std.proofs.Common.{◌≡◌, ◌<◌, ◌≤◌, ◌+◌, ℕ, zero, suc, Bool, true, false, nat_eq, List, [], ◌∷◌, ◌++◌, drop, take, length, get_or, Some, refl, sym, ap, ◌∙◌, arith, subst, append-nil, length-append, length-drop, length-take-le}
use Rattle.std.specs.List.{slice_set, All}
use Rattle.std.specs.List.Sorted.{IsStrictlySortedBy}
use Rattle.std.proofs.lemmas.Bool.Decides.{nat_tests}
use Rattle.std.proofs.Math.Seq.{drop-nil, take-append_seam}
use Rattle.std.proofs.lemmas.List.{drop_more, take_more, get_or_default, drop_all}
use Rattle.std.proofs.lemmas.List.Sums.{sum_by-cons}
use Rattle.gs_model.specs.Triples.{RdfTriple, triple_cmp}
use Rattle.gs_term.specs.declared.patterns.Pattern.{Pattern}
use Rattle.gs_event.specs.Solutions.{Bindings, bind_triple}
use Rattle.gs_graphs.specs.declared.solutions.Binding.{Binding}
use Rattle.gs_graphs.specs.declared.solutions.Place.{Place}
use Rattle.gs_graphs.specs.Solving.{bindings_of, Chooses, found_if, found_from, found_among, numbered, or_bound, with_first, bound_by, left_at, left_from, work, marked_by, AreMarked, IsPlace, StepsOn}
use Rattle.gs_graphs.proofs.SearchLemmas.{patterns_after, chosen_by, left-moved, left-chosen, left-given_up, work-moved, work-chosen, work-given_up, bound-more}
use Rattle.gs_graphs.proofs.MarkLemmas.{mark_found}

drop_next : (ps : List Pattern) (n : ℕ) → drop n (drop 1 ps) ≡ drop (suc n) ps
drop_next [] n = drop-nil n
drop_next (p ∷ ps) n = refl

after_is : (ps : List Pattern) (is : List ℕ) → patterns_after ps is ≡ drop (length is) ps
after_is ps [] = refl
after_is ps (i ∷ is) = after_is (drop 1 ps) is ∙ drop_next ps (length is)

-- the first pattern that is left after some choices
pub after_first : (ps : List Pattern) (is : List ℕ) (p : Pattern) → length is < length ps → p ≡ get_or ps (length is) p → patterns_after ps is ≡ p ∷ drop (length is + 1) ps
after_first ps is p few at = after_is ps is ∙ drop_more ps (length is) p few ∙ ap (λ q. q ∷ drop (length is + 1) ps) (sym at)

-- the triple of this number
pub triple_is : (ts : List RdfTriple) (i : ℕ) (t : RdfTriple) → i < length ts → t ≡ get_or ts i t → numbered ts i ≡ t
triple_is ts i t lt at = get_or_default ts i _ t lt ∙ sym at

-- the first of the triples to be tried
among_first : (ts ps : _) (b : Bindings) (chosen zs us : List RdfTriple) (p : Pattern) (qs : List Pattern) (t : RdfTriple) → ps ≡ p ∷ qs → zs ≡ t ∷ us
    → found_among ts ps b chosen zs ≡ found_if (λ c. found_from ts qs c (chosen ++ t ∷ [])) (bind_triple b p t) ++ found_among ts ps b chosen us
among_first ts ps b chosen zs us p qs t e f =
    ap (found_among ts ps b chosen) f ∙ ap (λ rs. found_among ts rs b chosen (t ∷ us)) e
    ∙ ap (λ rs. found_if (λ c. found_from ts qs c (chosen ++ t ∷ [])) (bind_triple b p t) ++ found_among ts rs b chosen us) (sym e)

work_first : (ts ps : _) (zs us : List RdfTriple) (p : Pattern) (qs : List Pattern) (t : RdfTriple) → ps ≡ p ∷ qs → zs ≡ t ∷ us → work ts ps zs ≡ work ts qs ts + 1 + work ts ps us
work_first ts ps zs us p qs t e f =
    let own : work ts (p ∷ qs) (t ∷ us) ≡ work ts qs ts + 1 + work ts (p ∷ qs) us = omega (arith, sum_by-cons (λ (u : RdfTriple). work ts qs ts + 1) t us) in
    ap (work ts ps) f ∙ ap (λ rs. work ts rs (t ∷ us)) e ∙ own ∙ ap (λ rs. work ts qs ts + 1 + work ts rs us) (sym e)

-- a triple that is tried for the first pattern that is left
pub record Tries (ts : List RdfTriple) (ps : List Pattern) (s : Place) (p : Pattern) (t : RdfTriple) : Type 0 where
  pub place : IsPlace ts ps s
  pub within : s.next < length ts
  pub pattern : p ≡ get_or ps (length s.choices.items) p
  pub triple : t ≡ get_or ts s.next t

-- the bindings at a place, and the triples chosen there
abbrev bound_at : List RdfTriple → List Pattern → Place → Bindings
bound_at ts ps s = bound_by ts ps [] s.choices.items

abbrev chosen_at : List RdfTriple → Place → List RdfTriple
chosen_at ts s = chosen_by ts [] s.choices.items

-- what is found at the triple that is tried
abbrev pub found_here : List RdfTriple → List Pattern → Place → Pattern → RdfTriple → List RdfTriple
found_here ts ps s p t = found_if (λ c. found_from ts (drop (length s.choices.items + 1) ps) c (chosen_by ts [] s.choices.items ++ t ∷ [])) (bind_triple (bindings_of s.bound.items) p t)

-- the first pattern that is left, and the triples that are left for it
first_left : (ts ps : _) (s : Place) (p : Pattern) (t : RdfTriple) → Tries ts ps s p t → patterns_after ps s.choices.items ≡ p ∷ drop (length s.choices.items + 1) ps
first_left ts ps s p t h = after_first ps s.choices.items p h.place.few h.pattern

next_left : (ts ps : _) (s : Place) (p : Pattern) (t : RdfTriple) → Tries ts ps s p t → drop s.next ts ≡ t ∷ drop (s.next + 1) ts
next_left ts ps s p t h = drop_more ts s.next t h.within ∙ ap (λ u. u ∷ drop (s.next + 1) ts) (sym h.triple)

-- what is found among the triples that are left
found_next : (ts ps : _) (s : Place) (p : Pattern) (t : RdfTriple) → Tries ts ps s p t
    → found_among ts (patterns_after ps s.choices.items) (bound_at ts ps s) (chosen_at ts s) (drop s.next ts)
    ≡ found_here ts ps s p t ++ found_among ts (patterns_after ps s.choices.items) (bound_at ts ps s) (chosen_at ts s) (drop (s.next + 1) ts)
found_next ts ps s p t h =
    among_first ts (patterns_after ps s.choices.items) (bound_at ts ps s) (chosen_at ts s) (drop s.next ts) (drop (s.next + 1) ts) p (drop (length s.choices.items + 1) ps) t (first_left ts ps s p t h) (next_left ts ps s p t h)
    ∙ ap (λ b. found_if (λ c. found_from ts (drop (length s.choices.items + 1) ps) c (chosen_at ts s ++ t ∷ [])) (bind_triple b p t) ++ found_among ts (patterns_after ps s.choices.items) (bound_at ts ps s) (chosen_at ts s) (drop (s.next + 1) ts)) (sym h.place.bound)

-- the triple was tried, and the one after it is next
pub moved_on : (ts ps : _) (old new : Place) (p : Pattern) (t : RdfTriple) (more : List RdfTriple) (before after : List Bool) → Tries ts ps old p t
    → new.choices.items ≡ old.choices.items → new.bound.items ≡ old.bound.items → new.next ≡ old.next + 1 → found_here ts ps old p t ≡ more
    → ((found : List RdfTriple) → AreMarked ts before found → AreMarked ts after (found ++ more)) → StepsOn ts ps old new before after
moved_on ts ps old new p t more before after h choices bound next here marks =
    let is : List ℕ = old.choices.items in
    let work_is = work_first ts (patterns_after ps is) (drop old.next ts) (drop (old.next + 1) ts) p (drop (length is + 1) ps) t (first_left ts ps old p t h) (next_left ts ps old p t h) in
    let less = work-moved ts ps is old.next (old.next + 1) (omega (arith, work_is)) in
    let among = found_next ts ps old p t h ∙ ap (λ xs. xs ++ found_among ts (patterns_after ps is) (bound_at ts ps old) (chosen_at ts old) (drop (old.next + 1) ts)) here in
    let parts = left-moved ts ps [] [] is old.next (old.next + 1) more among in
    record {
      place = record {
        few = rw choices h.place.few;
        chosen = rw choices h.place.chosen;
        bound = ap bindings_of bound ∙ h.place.bound ∙ ap (bound_by ts ps []) (sym choices);
      };
      less = rw (choices, next) less;
      more = more;
      parts = rw (choices, next) parts;
      marks = marks;
    }

from_is : (ts ps : _) (b : Bindings) (chosen : List RdfTriple) → 0 < length ps → found_from ts ps b chosen ≡ found_among ts ps b chosen ts
from_is ts [] b chosen h = absurd (omega arith)
from_is ts (p ∷ ps) b chosen h = refl

work_some : (ts ps : _) (us : List RdfTriple) → 0 < length ps → 0 < work ts ps us
work_some ts [] us h = absurd (omega arith)
work_some ts (p ∷ ps) us h = omega arith

all_more : (n : ℕ) (is : List ℕ) (j : ℕ) → All (λ i. i < n) is → j < n → All (λ i. i < n) (is ++ j ∷ [])
all_more n [] j h lt zero d within = lt
all_more n [] j h lt (suc k) d within = absurd (omega arith)
all_more n (i ∷ is) j h lt zero d within = h 0 d (omega arith)
all_more n (i ∷ is) j h lt (suc k) d within = all_more n is j (λ m e l. h (suc m) e (omega arith)) lt k d (omega arith)

-- the triple was chosen, and the first one is next for the pattern after it
pub chosen_on : (ts ps : _) (old new : Place) (p : Pattern) (t : RdfTriple) (marks : List Bool) → Tries ts ps old p t
    → length old.choices.items + 1 < length ps → new.choices.items ≡ old.choices.items ++ old.next ∷ [] → bind_triple (bindings_of old.bound.items) p t ≡ Some (bindings_of new.bound.items)
    → new.next ≡ 0 → StepsOn ts ps old new marks marks
chosen_on ts ps old new p t marks h few choices bound next =
    let is : List ℕ = old.choices.items in
    let qs : List Pattern = drop (length is + 1) ps in
    let u : RdfTriple = numbered ts old.next in
    let k : Bindings = bindings_of new.bound.items in
    let B : Bindings = bound_at ts ps old in
    let C : List RdfTriple = chosen_at ts old in
    let P : List Pattern = patterns_after ps is in
    let rest : List RdfTriple = found_among ts P B C (drop (old.next + 1) ts) in
    let left : P ≡ p ∷ qs = first_left ts ps old p t h in
    let same : u ≡ t = triple_is ts old.next t h.within h.triple in
    let tail : drop 1 P ≡ qs = ap (drop 1) left in
    let binds : bind_triple B p t ≡ Some k = ap (λ b. bind_triple b p t) (sym h.place.bound) ∙ bound in
    let with_it : with_first B P u ≡ k = ap (λ rs. with_first B rs u) left ∙ ap (λ v. or_bound B (bind_triple B p v)) same ∙ ap (or_bound B) binds in
    let some : 0 < length qs = omega (arith, length-drop (length is + 1) ps) in
    let here : found_here ts ps old p t ≡ found_among ts (drop 1 P) (with_first B P u) (C ++ u ∷ []) ts =
    ap (found_if (λ c. found_from ts qs c (C ++ t ∷ []))) bound ∙ from_is ts qs k (C ++ t ∷ []) some
    ∙ sym (ap (λ rs. found_among ts rs (with_first B P u) (C ++ u ∷ []) ts) tail ∙ ap (λ b. found_among ts qs b (C ++ u ∷ []) ts) with_it ∙ ap (λ v. found_among ts qs k (C ++ v ∷ []) ts) same) in
    let parts = left-chosen ts ps [] [] is old.next (found_next ts ps old p t h ∙ ap (λ xs. xs ++ rest) here) in
    let work_is = work_first ts P (drop old.next ts) (drop (old.next + 1) ts) p qs t left (next_left ts ps old p t h) in
    let tail_work : work ts (drop 1 P) ts ≡ work ts qs ts = ap (λ rs. work ts rs ts) tail in
    let less = work-chosen ts ps is old.next (omega (arith, work_is, tail_work)) in
    record {
      place = record {
        few = rw choices (omega (arith, length-append is (old.next ∷ [])));
        chosen = rw choices (all_more (length ts) is old.next h.place.chosen h.within);
        bound = sym (ap (bound_by ts ps []) choices ∙ bound-more ts ps [] is old.next ∙ with_it);
      };
      less = rw (choices, next) less;
      more = [];
      parts = rw (choices, next) parts;
      marks = λ found m. subst (AreMarked ts marks) (sym (append-nil found)) m;
    }

-- the last choice was given up, for which all triples were tried
pub given_up : (ts ps : _) (old new : Place) (is : List ℕ) (i : ℕ) (marks : List Bool) → IsPlace ts ps old → length ts ≤ old.next → old.choices.items ≡ is ++ i ∷ []
    → new.choices.items ≡ is → bindings_of new.bound.items ≡ bound_by ts ps [] is → new.next ≡ i + 1 → StepsOn ts ps old new marks marks
given_up ts ps old new is i marks h tried was choices bound next =
    let none : drop old.next ts ≡ [] = drop_all old.next ts tried in
    let long : length old.choices.items ≡ length is + 1 = ap length was ∙ length-append is (i ∷ []) in
    let within : All (λ j. j < length ts) (is ++ i ∷ []) = subst (All (λ j. j < length ts)) was h.chosen in
    let left : 0 < length (patterns_after ps (is ++ i ∷ [])) = omega (arith, h.few, long, length-append is (i ∷ []), ap length (after_is ps (is ++ i ∷ [])), length-drop (length (is ++ i ∷ [])) ps) in
    let less = work-given_up ts ps is i old.next (work_some ts (patterns_after ps (is ++ i ∷ [])) (drop old.next ts) left) in
    record {
      place = record {
        few = rw choices (omega (arith, h.few, long));
        chosen = rw choices (all_fewer (length ts) is i within);
        bound = bound ∙ ap (bound_by ts ps []) (sym choices);
      };
      less = rw (choices, next, was) less;
      more = [];
      parts = rw (choices, next, was) (left-given_up ts ps [] [] is i old.next none);
      marks = λ found m. subst (AreMarked ts marks) (sym (append-nil found)) m;
    }
  where
    all_fewer : (n : ℕ) (is : List ℕ) (j : ℕ) → All (λ i. i < n) (is ++ j ∷ []) → All (λ i. i < n) is
    all_fewer n [] j h k d within = absurd (omega arith)
    all_fewer n (i ∷ is) j h zero d within = h 0 d (omega arith)
    all_fewer n (i ∷ is) j h (suc k) d within = all_fewer n is j (λ m e l. h (suc m) e (omega arith)) k d (omega arith)

-- one pattern more is bound to the triple that was chosen for it
pub bind_next : (ts ps : _) (choices : List ℕ) (i : ℕ) (old new : List Binding) (p : Pattern) (t : RdfTriple) (r : Bool) → i < length choices → length choices ≤ length ps → All (λ j. j < length ts) choices
    → p ≡ get_or ps i p → t ≡ get_or ts (get_or choices i 0) t → Chooses old new p t r → bindings_of old ≡ bound_by ts ps [] (take i choices) → bindings_of new ≡ bound_by ts ps [] (take (i + 1) choices)
bind_next ts ps choices i old new p t r within few chosen pattern triple chooses before =
    let is : List ℕ = take i choices in
    let long : length is ≡ i = length-take-le i choices (omega arith) in
    let left : patterns_after ps is ≡ p ∷ drop (length is + 1) ps = after_first ps is p (omega arith) (pattern ∙ ap (λ n. get_or ps n p) (sym long)) in
    let same : numbered ts (get_or choices i 0) ≡ t = triple_is ts (get_or choices i 0) t (chosen i 0 within) triple in
    bound_then old new p t r chooses
    ∙ ap (λ b. or_bound b (bind_triple b p t)) before
    ∙ sym (ap (λ v. or_bound (bound_by ts ps [] is) (bind_triple (bound_by ts ps [] is) p v)) same)
    ∙ sym (ap (λ rs. with_first (bound_by ts ps [] is) rs (numbered ts (get_or choices i 0))) left)
    ∙ sym (bound-more ts ps [] is (get_or choices i 0))
    ∙ ap (bound_by ts ps []) (sym (take_more choices i 0 within))
  where
    bound_then : (old new : List Binding) (p : Pattern) (t : RdfTriple) (r : Bool) → Chooses old new p t r → bindings_of new ≡ or_bound (bindings_of old) (bind_triple (bindings_of old) p t)
    bound_then old new p t true h = sym (ap (or_bound (bindings_of old)) h.1)
    bound_then old new p t false h = ap bindings_of h.0 ∙ sym (ap (or_bound (bindings_of old)) h.1)

-- whether there are any, by the test of their number
pub some_there : (n : ℕ) (b : Bool) → b ≡ nat_eq n 0 → b ≡ false → 0 < n
some_there zero b is none = absurd (let clash : true ≡ false = sym is ∙ none in cc)
some_there (suc n) b is none = omega arith

pub none_there : (n : ℕ) (b : Bool) → b ≡ nat_eq n 0 → b ≡ true → n ≡ 0
none_there n b is none = let zero_is : nat_eq n 0 ≡ true = sym is ∙ none in grind (arith, nat_tests)

-- the triple is no instance
pub passed_on : (ts ps : _) (old new : Place) (p : Pattern) (t : RdfTriple) (marks : List Bool) → Tries ts ps old p t → Chooses old.bound.items new.bound.items p t false
    → new.choices.items ≡ old.choices.items → new.next ≡ old.next + 1 → StepsOn ts ps old new marks marks
passed_on ts ps old new p t marks h chooses choices next =
    moved_on ts ps old new p t [] marks marks h choices chooses.0 next (ap (found_if (λ c. found_from ts (drop (length old.choices.items + 1) ps) c (chosen_by ts [] old.choices.items ++ t ∷ []))) chooses.1)
    (λ found m. subst (AreMarked ts marks) (sym (append-nil found)) m)

-- the triple is the last one of a solution
pub marked_on : (ts ps : _) (old new : Place) (p : Pattern) (t : RdfTriple) (bound : List Binding) (before after : List Bool) → Tries ts ps old p t → IsStrictlySortedBy triple_cmp ts
    → length ps ≤ length old.choices.items + 1 → Chooses old.bound.items bound p t true → new.choices.items ≡ old.choices.items → new.bound.items ≡ take (length old.bound.items) bound
    → new.next ≡ old.next + 1 → after ≡ slice_set (marked_by old.choices.items before) old.next true → StepsOn ts ps old new before after
marked_on ts ps old new p t bound before after h sorted last chooses choices cut next marks =
    let is : List ℕ = old.choices.items in
    let more : List RdfTriple = chosen_by ts [] is ++ t ∷ [] in
    let here : found_here ts ps old p t ≡ more =
    ap (found_if (λ c. found_from ts (drop (length is + 1) ps) c more)) chooses.1 ∙ ap (λ qs. found_from ts qs (bindings_of bound) more) (drop_all (length is + 1) ps last) in
    let same : numbered ts old.next ≡ t = triple_is ts old.next t h.within h.triple in
    let kept : take (length old.bound.items) bound ≡ old.bound.items = ap (take (length old.bound.items)) chooses.0.parts ∙ take-append_seam old.bound.items chooses.0.more in
    moved_on ts ps old new p t more before after h choices (cut ∙ kept) next here
    (λ found m. subst (λ ms. AreMarked ts ms (found ++ more)) (sym marks) (subst (λ u. AreMarked ts (slice_set (marked_by is before) old.next true) (found ++ (chosen_by ts [] is ++ u ∷ []))) same (mark_found ts before found is old.next sorted h.place.chosen h.within m)))

-- the first place
pub first_place : (ts ps : _) (s : Place) → s.choices.items ≡ [] → s.bound.items ≡ [] → 0 < length ps → IsPlace ts ps s
first_place ts ps s choices bound some = record {
  few = rw choices some;
  chosen = rw choices (λ k d lt. absurd (omega arith));
  bound = ap bindings_of bound ∙ ap (bound_by ts ps []) (sym choices);
}

-- all is left there
pub all_left : (ts ps : _) (s : Place) → s.choices.items ≡ [] → s.next ≡ 0 → 0 < length ps → left_from ts ps s ≡ found_from ts ps [] []
all_left ts ps s choices next some = ap (λ is. left_at ts ps [] [] is s.next) choices ∙ ap (λ n. left_at ts ps [] [] [] n) next ∙ sym (from_is ts ps [] [] some)
