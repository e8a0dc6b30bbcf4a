-- Solutions of patterns: what is found is an instance under a solution, and each of these is found.
use Rattle.std.proofs.Common.{◌≡◌, subst, ℕ, Bool, true, false, cond, ◌||◌, ◌&&◌, List, [], ◌∷◌, ◌++◌, map, Option, Some, None, refl, sym, ap, ◌∙◌, append_assoc}
use Rattle.std.specs.List.{list_all, flat_map}
use Rattle.std.specs.Option.{option_and_then}
use Rattle.std.specs.Cmp.{Equal-is}
use Rattle.std.specs.Ordering.{eq_by_cmp}
use Rattle.std.specs.Str.{bytes_eq}
use Rattle.std.proofs.lemmas.Bool.{and_parts}
use Rattle.std.proofs.lemmas.Cmp.{eq_by_cmp_equiv}
use Rattle.std.proofs.lemmas.List.Folds.{list_any-append}
use Rattle.std.proofs.lemmas.Slice.Eq.{bytes_eq-Decides}
use Rattle.gs_model.specs.Terms.{Term, text_of}
use Rattle.gs_model.specs.Triples.{RdfTriple, triple_cmp, term_eq}
use Rattle.gs_model.specs.Graphs.{Graph, triples_of}
use Rattle.gs_term.specs.declared.patterns.Part.{Part}
use Rattle.gs_term.specs.declared.patterns.Part.TheVariants.{Term as TheTerm, Variable}
use Rattle.gs_term.specs.declared.patterns.Pattern.{Pattern}
use Rattle.gs_event.specs.Solutions.{Assignment, value_of_part, instance_of, is_among, IsInstance, ListsInstances, Bindings, term_for, with_term, bind, bind_triple, all_if, solutions, or_any, assignment_of, instances_of}
use Rattle.gs_model.proofs.TextLemmas.{text_of-injective}
use Rattle.gs_model.proofs.GraphLemmas.{triple_total, triple_exact}

-- equal terms are the same
same_term : (t u : Term) → term_eq t u ≡ true → t ≡ u
same_term t u h = text_of-injective t u ((bytes_eq-Decides (text_of t) (text_of u)).0 h)

-- and the other way round
term_is : (t u : Term) → t ≡ u → term_eq t u ≡ true
term_is t u e = (bytes_eq-Decides (text_of t) (text_of u)).1 (ap text_of e)

-- equal triples are the same
pub same_triple : (t u : RdfTriple) → eq_by_cmp triple_cmp t u ≡ true → t ≡ u
same_triple t u h = triple_exact t u ((Equal-is (triple_cmp t u)).0 h)

triple_is : (t : RdfTriple) → eq_by_cmp triple_cmp t t ≡ true
triple_is t = (eq_by_cmp_equiv triple_total).refl t

-- the assignment has the terms of the bindings
abbrev pub Agrees : Assignment → Bindings → Type 0
Agrees a b = (x : List ℕ) (t : Term) → term_for b x ≡ Some t → a x ≡ t

some_is : (t u : Term) → Some t ≡ Some u → t ≡ u
some_is t u e = cc

bound_is : (b c : Bindings) → Some b ≡ Some c → b ≡ c
bound_is b c e = cc

-- A part that stands for a term under the new bindings; what they say, the old ones said.
abbrev Binds : Bindings → (Assignment → Term) → Term → Bindings → Type 0
Binds b value t c = (a : Assignment) → Agrees a c → Agrees a b × (value a ≡ t)

kept_if : (value : Assignment → Term) (b c : Bindings) (u t : Term) (r : Bool) → term_eq u t ≡ r
    → ((a : Assignment) → Agrees a b → value a ≡ u) → cond r (Some b) None ≡ Some c → Binds b value t c
kept_if value b c u t true h is e a agrees =
    let same : b ≡ c = bound_is b c e in
    let before : Agrees a b = λ x v f. agrees x v (ap (λ z. term_for z x) (sym same) ∙ f) in
    (before, is a before ∙ same_term u t h)
kept_if value b c u t false h is e a agrees = absurd (cc)

-- one more binding
first_is : (b : Bindings) (x : List ℕ) (t : Term) → term_for ((x, t) ∷ b) x ≡ Some t
first_is b x t = ap (λ r. cond r (Some t) (term_for b x)) ((bytes_eq-Decides x x).1 refl)

other_is : (b : Bindings) (x y : List ℕ) (t v : Term) (r : Bool) → bytes_eq x y ≡ r → term_for b x ≡ None → term_for b y ≡ Some v → cond r (Some t) (term_for b y) ≡ Some v
other_is b x y t v true h none e = absurd (let same : x ≡ y = (bytes_eq-Decides x y).0 h in let clash : None ≡ Some v = sym none ∙ ap (term_for b) same ∙ e in cc)
other_is b x y t v false h none e = e

with_sound : (b c : Bindings) (x : List ℕ) (t : Term) (o : Option Term) → term_for b x ≡ o → with_term b x t o ≡ Some c → Binds b (λ a. a x) t c
with_sound b c x t None none e a agrees =
    let same : (x, t) ∷ b ≡ c = bound_is ((x, t) ∷ b) c e in
    let there : (y : List ℕ) (v : Term) → term_for ((x, t) ∷ b) y ≡ Some v → a y ≡ v = λ y v f. agrees y v (ap (λ z. term_for z y) (sym same) ∙ f) in
    (λ y v f. there y v (other_is b x y t v (bytes_eq x y) refl none f), there x t (first_is b x t))
with_sound b c x t (Some u) is e a agrees = kept_if (λ a. a x) b c u t (term_eq u t) refl (λ a agrees. agrees x u is) e a agrees

bind_sound : (b c : Bindings) (p : Part) (t : Term) → bind b p t ≡ Some c → Binds b (λ a. value_of_part a p) t c
bind_sound b c (TheTerm u) t e = kept_if (λ a. u) b c u t (term_eq u t) refl (λ a agrees. refl) e
bind_sound b c (Variable x) t e = with_sound b c x t (term_for b x) refl e

-- bindings that an assignment agrees with, for a part that stands for this term
abbrev Found : Assignment → Option Bindings → Type 0
Found a o = (c : Bindings) × (o ≡ Some c) × Agrees a c

still : (a : Assignment) (b : Bindings) (x y : List ℕ) (t v : Term) (r : Bool) → bytes_eq x y ≡ r → Agrees a b → a x ≡ t → cond r (Some t) (term_for b y) ≡ Some v → a y ≡ v
still a b x y t v true h agrees is e = sym (ap a ((bytes_eq-Decides x y).0 h)) ∙ is ∙ some_is t v e
still a b x y t v false h agrees is e = agrees y v e

with_found : (a : Assignment) (b : Bindings) (x : List ℕ) (t : Term) (o : Option Term) → term_for b x ≡ o → Agrees a b → a x ≡ t → Found a (with_term b x t o)
with_found a b x t None none agrees is = ((x, t) ∷ b, refl, λ y v e. still a b x y t v (bytes_eq x y) refl agrees is e)
with_found a b x t (Some u) at agrees is = (b, ap (λ r. cond r (Some b) None) (term_is u t (sym (agrees x u at) ∙ is)), agrees)

bind_found : (a : Assignment) (b : Bindings) (p : Part) (t : Term) → Agrees a b → value_of_part a p ≡ t → Found a (bind b p t)
bind_found a b (TheTerm u) t agrees is = (b, ap (λ r. cond r (Some b) None) (term_is u t is), agrees)
bind_found a b (Variable x) t agrees is = with_found a b x t (term_for b x) refl agrees is

-- the same of a pattern
abbrev pub BindsTriple : Bindings → Pattern → RdfTriple → Bindings → Type 0
BindsTriple b p t c = (a : Assignment) → Agrees a c → Agrees a b × (instance_of a p ≡ t)

alike : (s : RdfTriple) (x y z : Term) → x ≡ s.subject → y ≡ s.predicate → z ≡ s.object → record { subject = x; predicate = y; object = z } ≡ s
alike s x y z e f g = λ i. record { subject = e i; predicate = f i; object = g i }

third_sound : (b c d k : Bindings) (p : Pattern) (t : RdfTriple) → bind b p.subject t.subject ≡ Some c → bind c p.predicate t.predicate ≡ Some d → bind d p.object t.object ≡ Some k → BindsTriple b p t k
third_sound b c d k p t e f g a agrees =
    let o : Agrees a d × (value_of_part a p.object ≡ t.object) = bind_sound d k p.object t.object g a agrees in
    let v : Agrees a c × (value_of_part a p.predicate ≡ t.predicate) = bind_sound c d p.predicate t.predicate f a o.0 in
    let s : Agrees a b × (value_of_part a p.subject ≡ t.subject) = bind_sound b c p.subject t.subject e a v.0 in
    (s.0, alike t (value_of_part a p.subject) (value_of_part a p.predicate) (value_of_part a p.object) s.1 v.1 o.1)

second_sound : (b c k : Bindings) (p : Pattern) (t : RdfTriple) (o : Option Bindings) → bind b p.subject t.subject ≡ Some c → bind c p.predicate t.predicate ≡ o
    → option_and_then (λ d. bind d p.object t.object) o ≡ Some k → BindsTriple b p t k
second_sound b c k p t None e f g = absurd (cc)
second_sound b c k p t (Some d) e f g = third_sound b c d k p t e f g

first_sound : (b k : Bindings) (p : Pattern) (t : RdfTriple) (o : Option Bindings) → bind b p.subject t.subject ≡ o
    → option_and_then (λ c. option_and_then (λ d. bind d p.object t.object) (bind c p.predicate t.predicate)) o ≡ Some k → BindsTriple b p t k
first_sound b k p t None e g = absurd (cc)
first_sound b k p t (Some c) e g = second_sound b c k p t (bind c p.predicate t.predicate) e refl g

pub triple_sound : (b k : Bindings) (p : Pattern) (t : RdfTriple) → bind_triple b p t ≡ Some k → BindsTriple b p t k
triple_sound b k p t e = first_sound b k p t (bind b p.subject t.subject) refl e

triple_found : (a : Assignment) (b : Bindings) (p : Pattern) (t : RdfTriple) → Agrees a b → instance_of a p ≡ t → Found a (bind_triple b p t)
triple_found a b p t agrees is =
    let s : Found a (bind b p.subject t.subject) = bind_found a b p.subject t.subject agrees (ap (λ (u : RdfTriple). u.subject) is) in
    let v : Found a (bind s.0 p.predicate t.predicate) = bind_found a s.0 p.predicate t.predicate s.2 (ap (λ (u : RdfTriple). u.predicate) is) in
    let o : Found a (bind v.0 p.object t.object) = bind_found a v.0 p.object t.object v.2 (ap (λ (u : RdfTriple). u.object) is) in (
      o.0,
      ap (option_and_then (λ c. option_and_then (λ d. bind d p.object t.object) (bind c p.predicate t.predicate))) s.1
          ∙ ap (option_and_then (λ d. bind d p.object t.object)) v.1 ∙ o.1,
      o.2,
    )

-- what holds of each element of a list
abbrev pub Each : {X : Type 0} → (X → Type 0) → List X → Type 0
Each P [] = Unit {0}
Each P (x ∷ xs) = P x × Each P xs

each_append : {X : Type 0} (P : X → Type 0) (xs ys : List X) → Each P xs → Each P ys → Each P (xs ++ ys)
each_append P [] ys h k = k
each_append P (x ∷ xs) ys h k = (h.0, each_append P xs ys h.1 k)

each_flat : {X A : Type 0} (P : A → Type 0) (Q : X → Type 0) (f : X → List A) → ((x : X) → Q x → Each P (f x)) → (xs : List X) → Each Q xs → Each P (flat_map f xs)
each_flat P Q f h [] q = tt
each_flat P Q f h (x ∷ xs) q = each_append P (f x) (flat_map f xs) (h x q.0) (each_flat P Q f h xs q.1)

each_map : {X : Type 0} (P Q : X → Type 0) → ((x : X) → P x → Q x) → (xs : List X) → Each P xs → Each Q xs
each_map P Q f [] h = tt
each_map P Q f (x ∷ xs) h = (f x h.0, each_map P Q f xs h.1)

-- a pattern has one instance under all assignments that agree with the bindings, and it is among the triples
abbrev pub Fixes : List RdfTriple → Bindings → Pattern → Type 0
Fixes ts c p = (t : RdfTriple) × (is_among ts t ≡ true) × ((a : Assignment) → Agrees a c → instance_of a p ≡ t)

-- bindings that are found from others, for these patterns
abbrev pub Solves : List RdfTriple → List Pattern → Bindings → Bindings → Type 0
Solves ts ps b c = ((a : Assignment) → Agrees a c → Agrees a b) × Each (Fixes ts c) ps

solved_then : (ts : List RdfTriple) (p : Pattern) (ps : List Pattern) (b k : Bindings) (t : RdfTriple) → is_among ts t ≡ true → BindsTriple b p t k → (c : Bindings) → Solves ts ps k c → Solves ts (p ∷ ps) b c
solved_then ts p ps b k t there binds c h = (λ a agrees. (binds a (h.0 a agrees)).0, ((t, there, λ a agrees. (binds a (h.0 a agrees)).1), h.1))

-- the triples of a list are among them
among_self : (ts : List RdfTriple) → Each (λ t. is_among ts t ≡ true) ts
among_self [] = tt
among_self (t ∷ ts) = (ap (λ r. r || is_among ts t) (triple_is t), each_map (λ u. is_among ts u ≡ true) (λ u. is_among (t ∷ ts) u ≡ true) (λ u h. or_right (eq_by_cmp triple_cmp u t) (is_among ts u) h) ts (among_self ts))
  where
    or_right : (r s : Bool) → s ≡ true → (r || s) ≡ true
    or_right true s h = refl
    or_right false s h = h

each_solved : (ts : List RdfTriple) (p : Pattern) (ps : List Pattern) (b : Bindings) → ((k : Bindings) → Each (Solves ts ps k) (solutions ts ps k)) → (t : RdfTriple) → is_among ts t ≡ true
    → (o : Option Bindings) → bind_triple b p t ≡ o → Each (Solves ts (p ∷ ps) b) (all_if (solutions ts ps) o)
each_solved ts p ps b again t there None e = tt
each_solved ts p ps b again t there (Some k) e = each_map (Solves ts ps k) (Solves ts (p ∷ ps) b) (solved_then ts p ps b k t there (triple_sound b k p t e)) (solutions ts ps k) (again k)

-- each bindings that are found fix each pattern's instance
pub solutions_sound : (ts : List RdfTriple) (ps : List Pattern) (b : Bindings) → Each (Solves ts ps b) (solutions ts ps b)
solutions_sound ts [] b = ((λ a agrees. agrees, tt), tt)
solutions_sound ts (p ∷ ps) b =
    each_flat (Solves ts (p ∷ ps) b) (λ t. is_among ts t ≡ true) (λ t. all_if (solutions ts ps) (bind_triple b p t))
    (λ t there. each_solved ts p ps b (solutions_sound ts ps) t there (bind_triple b p t) refl) ts (among_self ts)

-- an assignment agrees with some element of a list
abbrev Reaches : Assignment → List Bindings → Type 0
Reaches a bs = (front : List Bindings) × (c : Bindings) × (after : List Bindings) × (bs ≡ front ++ c ∷ after) × Agrees a c

reaches_after : (a : Assignment) (xs ys : List Bindings) → Reaches a ys → Reaches a (xs ++ ys)
reaches_after a xs ys (front, c, after, e, agrees) = (xs ++ front, c, after, ap (λ z. xs ++ z) e ∙ sym (append_assoc xs front (c ∷ after)), agrees)

reaches_before : (a : Assignment) (xs ys : List Bindings) → Reaches a xs → Reaches a (xs ++ ys)
reaches_before a xs ys (front, c, after, e, agrees) = (front, c, after ++ ys, ap (λ z. z ++ ys) e ∙ append_assoc front (c ∷ after) ys, agrees)

reaches_here : (a : Assignment) (f : RdfTriple → List Bindings) (t u : RdfTriple) (rest : List Bindings) → Reaches a (f t) → (r : Bool) → eq_by_cmp triple_cmp t u ≡ r
    → (r ≡ false → Reaches a rest) → Reaches a (f u ++ rest)
reaches_here a f t u rest h true e again = reaches_before a (f u) rest (subst (λ v. Reaches a (f v)) (same_triple t u e) h)
reaches_here a f t u rest h false e again = reaches_after a (f u) rest (again refl)

-- what is reached at one of the triples is reached
reaches_flat : (a : Assignment) (f : RdfTriple → List Bindings) (t : RdfTriple) (ts : List RdfTriple) → is_among ts t ≡ true → Reaches a (f t) → Reaches a (flat_map f ts)
reaches_flat a f t [] there h = absurd (cc)
reaches_flat a f t (u ∷ ts) there h =
    let one : Bool = eq_by_cmp triple_cmp t u in
    reaches_here a f t u (flat_map f ts) h one refl (λ no. reaches_flat a f t ts (sym (ap (λ r. r || is_among ts t) no) ∙ there) h)

pub solutions_complete : (ts : List RdfTriple) (a : Assignment) (ps : List Pattern) (b : Bindings) → Agrees a b → list_all (λ p. is_among ts (instance_of a p)) ps ≡ true → Reaches a (solutions ts ps b)
solutions_complete ts a [] b agrees h = ([], b, [], refl, agrees)
solutions_complete ts a (p ∷ ps) b agrees h =
    let parts : (is_among ts (instance_of a p) ≡ true) × (list_all (λ q. is_among ts (instance_of a q)) ps ≡ true) = and_parts (is_among ts (instance_of a p)) (list_all (λ q. is_among ts (instance_of a q)) ps) h in
    let found : Found a (bind_triple b p (instance_of a p)) = triple_found a b p (instance_of a p) agrees refl in
    reaches_flat a (λ t. all_if (solutions ts ps) (bind_triple b p t)) (instance_of a p) ts parts.0
    (subst (λ o. Reaches a (all_if (solutions ts ps) o)) (sym found.1) (solutions_complete ts a ps found.0 found.2 parts.1))

-- the assignment that bindings give agrees with them
pub given_agrees : (b : Bindings) → Agrees (assignment_of b) b
given_agrees b x t e = ap or_any e

-- under two assignments that agree with what fixes the patterns, they have the same instances
same_instances : (ts : List RdfTriple) (c : Bindings) (a d : Assignment) → Agrees a c → Agrees d c → (ps : List Pattern) → Each (Fixes ts c) ps → map (instance_of a) ps ≡ map (instance_of d) ps
same_instances ts c a d k l [] h = refl
same_instances ts c a d k l (p ∷ ps) (f, rest) =
    ap (λ t. t ∷ map (instance_of a) ps) (f.2 a k ∙ sym (f.2 d l)) ∙ ap (λ us. instance_of d p ∷ us) (same_instances ts c a d k l ps rest)

all_among : (ts : List RdfTriple) (c : Bindings) (a : Assignment) → Agrees a c → (ps : List Pattern) → Each (Fixes ts c) ps → list_all (λ p. is_among ts (instance_of a p)) ps ≡ true
all_among ts c a k [] h = refl
all_among ts c a k (p ∷ ps) (f, rest) =
    ap (λ t. is_among ts t && list_all (λ q. is_among ts (instance_of a q)) ps) (f.2 a k) ∙ ap (λ r. r && list_all (λ q. is_among ts (instance_of a q)) ps) f.1 ∙ all_among ts c a k ps rest

either : (r s : Bool) → (r || s) ≡ true → (P : Type 0) → (r ≡ true → P) → (s ≡ true → P) → P
either true s h P f g = f refl
either false s h P f g = g h

-- what is among the instances of some bindings is so of one of them
instance_found : (g : Graph) (ps : List Pattern) (t : RdfTriple) (bs : List Bindings) → Each (Solves (triples_of g) ps []) bs
    → is_among (flat_map (λ b. map (instance_of (assignment_of b)) ps) bs) t ≡ true → IsInstance g ps t
instance_found g ps t [] h there = absurd (cc)
instance_found g ps t (c ∷ bs) h there =
    let one : List RdfTriple = map (instance_of (assignment_of c)) ps in
    let rest : List RdfTriple = flat_map (λ b. map (instance_of (assignment_of b)) ps) bs in
    either (is_among one t) (is_among rest t) (sym (list_any-append (eq_by_cmp triple_cmp t) one rest) ∙ there) (IsInstance g ps t)
    (λ in_one. (assignment_of c, all_among (triples_of g) c (assignment_of c) (given_agrees c) ps h.0.1, in_one))
    (λ in_rest. instance_found g ps t bs h.1 in_rest)

each_at : {X : Type 0} (P : X → Type 0) (front : List X) (x : X) (after : List X) → Each P (front ++ x ∷ after) → P x
each_at P [] x after h = h.0
each_at P (y ∷ front) x after h = each_at P front x after h.1

or_true : (r s : Bool) → s ≡ true → (r || s) ≡ true
or_true true s h = refl
or_true false s h = h

or_left : (r s : Bool) → r ≡ true → (r || s) ≡ true
or_left true s h = refl
or_left false s h = absurd (cc)

among_flat : (f : Bindings → List RdfTriple) (t : RdfTriple) (front : List Bindings) (c : Bindings) (after : List Bindings) → is_among (f c) t ≡ true → is_among (flat_map f (front ++ c ∷ after)) t ≡ true
among_flat f t [] c after h = list_any-append (eq_by_cmp triple_cmp t) (f c) (flat_map f after) ∙ or_left (is_among (f c) t) (is_among (flat_map f after) t) h
among_flat f t (b ∷ front) c after h =
    list_any-append (eq_by_cmp triple_cmp t) (f b) (flat_map f (front ++ c ∷ after)) ∙ or_true (is_among (f b) t) (is_among (flat_map f (front ++ c ∷ after)) t) (among_flat f t front c after h)

-- an instance under a solution is found
found_instance : (g : Graph) (ps : List Pattern) (t : RdfTriple) → IsInstance g ps t → is_among (instances_of g ps) t ≡ true
found_instance g ps t (a, solves, there) = go (solutions_complete (triples_of g) a ps [] (λ x u e. absurd (cc)) solves)
  where
    f : Bindings → List RdfTriple
    f b = map (instance_of (assignment_of b)) ps

    go : Reaches a (solutions (triples_of g) ps []) → is_among (flat_map f (solutions (triples_of g) ps [])) t ≡ true
    go (front, c, after, e, agrees) =
        let fixed : Solves (triples_of g) ps [] c = each_at (Solves (triples_of g) ps []) front c after (subst (Each (Solves (triples_of g) ps [])) e (solutions_sound (triples_of g) ps [])) in
        let same : map (instance_of a) ps ≡ map (instance_of (assignment_of c)) ps = same_instances (triples_of g) c a (assignment_of c) agrees (given_agrees c) ps fixed.1 in
        ap (λ bs. is_among (flat_map f bs) t) e ∙ among_flat f t front c after (sym (ap (λ us. is_among us t) same) ∙ there)

-- just the instances under solutions are found
pub instances_are : (g : Graph) (ps : List Pattern) → ListsInstances g ps (instances_of g ps)
instances_are g ps = record {
  sound = λ t. instance_found g ps t (solutions (triples_of g) ps []) (solutions_sound (triples_of g) ps []);
  complete = found_instance g ps;
}
