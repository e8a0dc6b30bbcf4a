-- The search for the instances of patterns: what is bound, and what is found from there. No public clause cites this
-- module.
use Rattle.std.specs.Prelude.{◌≡◌, ◌<◌, ◌+◌, ℕ, Bool, true, false, List, [], ◌∷◌, ◌++◌, map, drop, length, Option, Some, None, Result, Ok, Err, IfOk}
use Rattle.std.specs.declared.vec.Vec.{Vec}
use Rattle.std.specs.List.{filter, fold, flat_map, sum_by, slice_index_or, slice_set, All}
use Rattle.gs_model.specs.Terms.{Term, Iri}
use Rattle.gs_model.specs.Triples.{RdfTriple}
use Rattle.gs_term.specs.declared.patterns.Part.{Part}
use Rattle.gs_term.specs.declared.patterns.Pattern.{Pattern}
use Rattle.gs_event.specs.Solutions.{Bindings, bind, bind_triple, is_among}
use Rattle.gs_graphs.specs.declared.solutions.Binding.{Binding}
use Rattle.gs_graphs.specs.declared.solutions.Place.{Place}

-- what is bound, the last first
abbrev pub bindings_of : List Binding → Bindings
bindings_of bs = fold (λ known b. (b.name.now, b.term.now) ∷ known) [] bs

-- what is found for one more triple, where there are bindings under which it is the pattern's instance
abbrev pub found_if : (Bindings → List RdfTriple) → Option Bindings → List RdfTriple
found_if again None = []
found_if again (Some b) = again b

-- what is found for the patterns that are left, from these bindings and the triples chosen for the patterns before
abbrev pub found_from : List RdfTriple → List Pattern → Bindings → List RdfTriple → List RdfTriple
found_from ts [] b chosen = chosen
found_from ts (p ∷ ps) b chosen = flat_map (λ t. found_if (λ c. found_from ts ps c (chosen ++ t ∷ [])) (bind_triple b p t)) ts

-- what is found for these patterns, with nothing bound and chosen
abbrev pub found_in : List RdfTriple → List Pattern → List RdfTriple
found_in ts ps = found_from ts ps [] []

-- what is found of these triples for the first of the patterns that are left
abbrev pub found_among : List RdfTriple → List Pattern → Bindings → List RdfTriple → List RdfTriple → List RdfTriple
found_among ts [] b chosen us = []
found_among ts (p ∷ ps) b chosen us = flat_map (λ t. found_if (λ c. found_from ts ps c (chosen ++ t ∷ [])) (bind_triple b p t)) us

-- the triple of this number, and past the end any
abbrev pub numbered : List RdfTriple → ℕ → RdfTriple
numbered ts i = slice_index_or ts i (record { subject = Iri []; predicate = Iri []; object = Iri [] })

-- these bindings, where there are any, and else those that were there
abbrev pub or_bound : Bindings → Option Bindings → Bindings
or_bound b None = b
or_bound b (Some c) = c

-- with the first pattern bound to this triple, where that may be
abbrev pub with_first : Bindings → List Pattern → RdfTriple → Bindings
with_first b [] t = b
with_first b (p ∷ ps) t = or_bound b (bind_triple b p t)

-- with the first patterns bound to the triples of these numbers
abbrev pub bound_by : List RdfTriple → List Pattern → Bindings → List ℕ → Bindings
bound_by ts ps b [] = b
bound_by ts ps b (i ∷ is) = bound_by ts (drop 1 ps) (with_first b ps (numbered ts i)) is

-- what is left to be found where the triples of these numbers are chosen for the first patterns, and this one is tried next
abbrev pub left_at : List RdfTriple → List Pattern → Bindings → List RdfTriple → List ℕ → ℕ → List RdfTriple
left_at ts ps b chosen [] next = found_among ts ps b chosen (drop next ts)
left_at ts ps b chosen (i ∷ is) next =
    left_at ts (drop 1 ps) (with_first b ps (numbered ts i)) (chosen ++ numbered ts i ∷ []) is next
    ++ found_among ts ps b chosen (drop (i + 1) ts)

-- how many steps it takes at most to try these triples for the first of the patterns that are left, and to go back
abbrev pub work : List RdfTriple → List Pattern → List RdfTriple → ℕ
work ts [] us = 0
work ts (p ∷ ps) us = sum_by (λ t. work ts ps ts + 1) us + 1

-- how many steps are left at most
abbrev pub work_at : List RdfTriple → List Pattern → List ℕ → ℕ → ℕ
work_at ts ps [] next = work ts ps (drop next ts)
work_at ts ps (i ∷ is) next = work_at ts (drop 1 ps) is next + work ts ps (drop (i + 1) ts)

-- what is left to be found from a place
abbrev pub left_from : List RdfTriple → List Pattern → Place → List RdfTriple
left_from ts ps s = left_at ts ps [] [] s.choices.items s.next

-- how many steps are left from a place at most
abbrev pub work_from : List RdfTriple → List Pattern → Place → ℕ
work_from ts ps s = work_at ts ps s.choices.items s.next

-- some pattern is left, triples are chosen, and what is bound is bound by them
pub record IsPlace (ts : List RdfTriple) (ps : List Pattern) (s : Place) : Type 0 where
  pub few : length s.choices.items < length ps
  pub chosen : All (λ i. i < length ts) s.choices.items
  pub bound : bindings_of s.bound.items ≡ bound_by ts ps [] s.choices.items

-- a mark for each triple that is one of these
abbrev pub AreMarked : List RdfTriple → List Bool → List RdfTriple → Type 0
AreMarked ts marks found = marks ≡ map (is_among found) ts

-- copies of the triples that are marked, where the marks are those of a test
abbrev pub CopiesMarked : {X E : Type 0} → List RdfTriple → List Bool → Result (Vec RdfTriple X) E → Type 0
CopiesMarked ts marks r = (test : RdfTriple → Bool) → marks ≡ map test ts → IfOk r (λ found. found.items ≡ filter test ts)

-- the marks with those of these numbers
abbrev pub marked_by : List ℕ → List Bool → List Bool
marked_by is marks = fold (λ ms i. slice_set ms i true) marks is

-- a step from place to place: what was found on the way is marked, and the rest is left
pub record StepsOn (ts : List RdfTriple) (ps : List Pattern) (old new : Place) (before after : List Bool) : Type 0 where
  pub place : IsPlace ts ps new
  pub less : work_from ts ps new < work_from ts ps old
  pub more : List RdfTriple
  pub parts : left_from ts ps old ≡ more ++ left_from ts ps new
  pub marks : (found : List RdfTriple) → AreMarked ts before found → AreMarked ts after (found ++ more)

-- a step, or the end
abbrev pub AdvancesSearch : List RdfTriple → List Pattern → Place → Place → List Bool → List Bool → Bool → Type 0
AdvancesSearch ts ps old new before after true = StepsOn ts ps old new before after
AdvancesSearch ts ps old new before after false = (left_from ts ps old ≡ []) × (after ≡ before)

-- the same, without a mark
abbrev pub GoesBack : List RdfTriple → List Pattern → Place → Place → Bool → Type 0
GoesBack ts ps old new more = (marks : List Bool) → AdvancesSearch ts ps old new marks marks more

-- more are bound, after those that were
pub record BindsMore (old new : List Binding) : Type 0 where
  pub more : List Binding
  pub parts : new ≡ old ++ more

-- what is bound with this, where that may be
abbrev pub BindsTo : Option Bindings → List Binding → Bool → Type 0
BindsTo o new true = o ≡ Some (bindings_of new)
BindsTo o new false = o ≡ None

-- whether it may stand under bindings that grow, and what is bound then
abbrev pub Extends : {E : Type 0} → Option Bindings → List Binding → List Binding → Result Bool E → Type 0
Extends o old new (Err e) = Unit {0}
Extends o old new (Ok stands) = BindsMore old new × BindsTo o new stands

-- whether a part stands for a term
abbrev pub Binds : {E : Type 0} → List Binding → List Binding → Part → Term → Result Bool E → Type 0
Binds old new p t r = Extends (bind (bindings_of old) p t) old new r

-- whether a triple is the instance of a pattern
abbrev pub BindsTriple : {E : Type 0} → List Binding → List Binding → Pattern → RdfTriple → Result Bool E → Type 0
BindsTriple old new p t r = Extends (bind_triple (bindings_of old) p t) old new r

-- whether a triple is the instance of a pattern, and what is bound then: as much as before where it is not
abbrev pub Chooses : List Binding → List Binding → Pattern → RdfTriple → Bool → Type 0
Chooses old new p t true = BindsMore old new × (bind_triple (bindings_of old) p t ≡ Some (bindings_of new))
Chooses old new p t false = (new ≡ old) × (bind_triple (bindings_of old) p t ≡ None)
