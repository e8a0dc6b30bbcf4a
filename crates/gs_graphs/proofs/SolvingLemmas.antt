-- The search for the instances of patterns finds those under each solution, in their order.
use Rattle.std.proofs.Common.{◌≡◌, Bool, true, false, not, ◌&&◌, ◌||◌, List, [], ◌∷◌, ◌++◌, map, Option, Some, None, refl, sym, ap, ◌∙◌, append_assoc, append-nil}
use Rattle.std.specs.List.{flat_map, filter, list_all}
use Rattle.std.specs.Ordering.{eq_by_cmp}
use Rattle.std.proofs.lemmas.Bool.{and_parts}
use Rattle.std.proofs.lemmas.Map.Views.{any-filter_same}
use Rattle.std.proofs.lemmas.List.Sums.{fold-append}
use Rattle.std.proofs.lemmas.Grind.{flat_map-append}
use Rattle.gs_model.specs.Triples.{RdfTriple, triple_cmp}
use Rattle.gs_model.specs.Graphs.{Graph, graph_of, triples_of}
use Rattle.gs_term.specs.declared.patterns.Pattern.{Pattern}
use Rattle.gs_event.specs.Updates.{without_triples}
use Rattle.gs_event.specs.Solutions.{Assignment, is_among, ListsInstances, Bindings, instance_of, bind_triple, all_if, solutions, assignment_of, instances_of}
use Rattle.gs_event.proofs.SolutionLemmas.{Each, Solves, same_triple, triple_sound, solutions_sound, given_agrees, instances_are}
use Rattle.gs_graphs.specs.declared.solutions.Binding.{Binding}
use Rattle.gs_graphs.specs.Solving.{bindings_of, found_if, found_from}

-- one binding more
pub bindings_push : (bs : List Binding) (b : Binding) → bindings_of (bs ++ b ∷ []) ≡ (b.name.now, b.term.now) ∷ bindings_of bs
bindings_push bs b = fold-append (λ known (x : Binding). (x.name.now, x.term.now) ∷ known) [] bs (b ∷ [])

-- the instances of these patterns under each bindings of a list, after the triples that were chosen
abbrev under_each : List RdfTriple → List Pattern → List Bindings → List RdfTriple
under_each chosen ps cs = flat_map (λ c. chosen ++ map (instance_of (assignment_of c)) ps) cs

-- the triple that was chosen for a pattern is its instance under each solution found from there
moved : (ts : List RdfTriple) (p : Pattern) (ps : List Pattern) (b k : Bindings) (t : RdfTriple) (chosen : List RdfTriple) → bind_triple b p t ≡ Some k → (cs : List Bindings) → Each (Solves ts ps k) cs
    → under_each (chosen ++ t ∷ []) ps cs ≡ under_each chosen (p ∷ ps) cs
moved ts p ps b k t chosen e [] h = refl
moved ts p ps b k t chosen e (c ∷ cs) h =
    let is : instance_of (assignment_of c) p ≡ t = (triple_sound b k p t e (assignment_of c) (h.0.0 (assignment_of c) (given_agrees c))).1 in
    let here : (chosen ++ t ∷ []) ++ map (instance_of (assignment_of c)) ps ≡ chosen ++ map (instance_of (assignment_of c)) (p ∷ ps) =
    append_assoc chosen (t ∷ []) (map (instance_of (assignment_of c)) ps) ∙ ap (λ u. chosen ++ u ∷ map (instance_of (assignment_of c)) ps) (sym is) in
    ap (λ xs. xs ++ under_each (chosen ++ t ∷ []) ps cs) here ∙ ap (λ xs. (chosen ++ map (instance_of (assignment_of c)) (p ∷ ps)) ++ xs) (moved ts p ps b k t chosen e cs h.1)

by_bindings : (ts : List RdfTriple) (p : Pattern) (ps : List Pattern) (b : Bindings) (t : RdfTriple) (chosen : List RdfTriple) → ((k : Bindings) (more : List RdfTriple) → found_from ts ps k more ≡ under_each more ps (solutions ts ps k))
    → (o : Option Bindings) → bind_triple b p t ≡ o → found_if (λ c. found_from ts ps c (chosen ++ t ∷ [])) o ≡ under_each chosen (p ∷ ps) (all_if (solutions ts ps) o)
by_bindings ts p ps b t chosen again None e = refl
by_bindings ts p ps b t chosen again (Some k) e = again k (chosen ++ t ∷ []) ∙ moved ts p ps b k t chosen e (solutions ts ps k) (solutions_sound ts ps k)

found_each : (ts : List RdfTriple) (p : Pattern) (ps : List Pattern) (b : Bindings) (chosen : List RdfTriple) → ((k : Bindings) (more : List RdfTriple) → found_from ts ps k more ≡ under_each more ps (solutions ts ps k)) → (us : List RdfTriple)
    → flat_map (λ t. found_if (λ c. found_from ts ps c (chosen ++ t ∷ [])) (bind_triple b p t)) us ≡ under_each chosen (p ∷ ps) (flat_map (λ t. all_if (solutions ts ps) (bind_triple b p t)) us)
found_each ts p ps b chosen again [] = refl
found_each ts p ps b chosen again (t ∷ us) =
    ap (λ xs. xs ++ flat_map (λ t. found_if (λ c. found_from ts ps c (chosen ++ t ∷ [])) (bind_triple b p t)) us) (by_bindings ts p ps b t chosen again (bind_triple b p t) refl)
    ∙ ap (λ xs. under_each chosen (p ∷ ps) (all_if (solutions ts ps) (bind_triple b p t)) ++ xs) (found_each ts p ps b chosen again us)
    ∙ sym (flat_map-append (λ c. chosen ++ map (instance_of (assignment_of c)) (p ∷ ps)) (all_if (solutions ts ps) (bind_triple b p t)) (flat_map (λ t. all_if (solutions ts ps) (bind_triple b p t)) us))

-- what is found from some bindings
pub found_so : (ts : List RdfTriple) (ps : List Pattern) (b : Bindings) (chosen : List RdfTriple) → found_from ts ps b chosen ≡ under_each chosen ps (solutions ts ps b)
found_so ts [] b chosen = sym (append-nil (chosen ++ []) ∙ append-nil chosen)
found_so ts (p ∷ ps) b chosen = found_each ts p ps b chosen (found_so ts ps) ts

-- with nothing bound and chosen, the instances of a graph
pub all_found : (g : Graph) (ps : List Pattern) → found_from (triples_of g) ps [] [] ≡ instances_of g ps
all_found g ps = found_so (triples_of g) ps [] []

-- a triple that is one of some instances, of which each is among these triples
instance_among : (ts : List RdfTriple) (a : Assignment) (ps : List Pattern) (t : RdfTriple) → list_all (λ p. is_among ts (instance_of a p)) ps ≡ true → is_among (map (instance_of a) ps) t ≡ true → is_among ts t ≡ true
instance_among ts a [] t h there = absurd (cc)
instance_among ts a (p ∷ ps) t h there =
    let parts = and_parts (is_among ts (instance_of a p)) (list_all (λ q. is_among ts (instance_of a q)) ps) h in
    by_first (eq_by_cmp triple_cmp t (instance_of a p)) refl parts.0 (instance_among ts a ps t parts.1)
  where
    by_first : (r : Bool) → eq_by_cmp triple_cmp t (instance_of a p) ≡ r → is_among ts (instance_of a p) ≡ true → (is_among (map (instance_of a) ps) t ≡ true → is_among ts t ≡ true) → is_among ts t ≡ true
    by_first true e here again = ap (is_among ts) (same_triple t (instance_of a p) e) ∙ here
    by_first false e here again = again (sym (ap (λ r. r || is_among (map (instance_of a) ps) t) e) ∙ there)

-- the triples that pass a test of triples
passing : (xs ts : List RdfTriple) (t : RdfTriple) → is_among (filter (is_among xs) ts) t ≡ (is_among xs t && is_among ts t)
passing xs ts t = any-filter_same (eq_by_cmp triple_cmp t) (is_among xs) (is_among xs t) (λ k e. ap (is_among xs) (sym (same_triple t k e))) ts

-- the triples of a graph that are among the instances found are all instances
pub listed : (g : Graph) (ps : List Pattern) (found : List RdfTriple) → found ≡ filter (is_among (instances_of g ps)) (triples_of g) → ListsInstances g ps found
listed g ps found is = record {
  sound = λ t h. (instances_are g ps).sound t (and_parts (is_among (instances_of g ps) t) (is_among (triples_of g) t) (sym (ap (λ xs. is_among xs t) is ∙ passing (instances_of g ps) (triples_of g) t) ∙ h)).0;
  complete = λ t h.
      ap (λ xs. is_among xs t) is ∙ passing (instances_of g ps) (triples_of g) t ∙ ap (λ r. r && is_among (triples_of g) t) ((instances_are g ps).complete t h)
      ∙ instance_among (triples_of g) h.0 ps t h.1 h.2;
}

-- two lists of all instances have the same triples
pub same_lists : (g : Graph) (ps : List Pattern) (xs ys : List RdfTriple) → ListsInstances g ps xs → ListsInstances g ps ys → (t : RdfTriple) → is_among xs t ≡ is_among ys t
same_lists g ps xs ys h k t = alike (is_among xs t) (is_among ys t) (λ e. k.complete t (h.sound t e)) (λ e. h.complete t (k.sound t e))
  where
    alike : (r s : Bool) → (r ≡ true → s ≡ true) → (s ≡ true → r ≡ true) → r ≡ s
    alike true s f h = sym (f refl)
    alike false true f h = h refl
    alike false false f h = refl

-- a graph without its instances
pub without_instances : (g : Graph) (ps : List Pattern) (found : List RdfTriple) → ListsInstances g ps found → without_triples g found ≡ without_triples g (instances_of g ps)
without_instances g ps found h = λ i. graph_of (filter (λ t. not (same_lists g ps found (instances_of g ps) h (instances_are g ps) t i)) (triples_of g))
