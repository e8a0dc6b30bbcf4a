-- The steps of a search: what is left to be found, and how much work, after a triple was tried, chosen or given up.
use Rattle.std.proofs.Common.{◌≡◌, ◌<◌, ◌+◌, ℕ, List, [], ◌∷◌, ◌++◌, drop, refl, ap, ◌∙◌, arith, append_assoc}
use Rattle.gs_model.specs.Triples.{RdfTriple}
use Rattle.gs_term.specs.declared.patterns.Pattern.{Pattern}
use Rattle.gs_event.specs.Solutions.{Bindings}
use Rattle.gs_graphs.specs.Solving.{found_among, numbered, with_first, bound_by, left_at, work, work_at}

-- the patterns that are left after those of the choices
abbrev pub patterns_after : List Pattern → List ℕ → List Pattern
patterns_after ps [] = ps
patterns_after ps (i ∷ is) = patterns_after (drop 1 ps) is

-- the triples that were chosen, after some others
abbrev pub chosen_by : List RdfTriple → List RdfTriple → List ℕ → List RdfTriple
chosen_by ts chosen [] = chosen
chosen_by ts chosen (i ∷ is) = chosen_by ts (chosen ++ numbered ts i ∷ []) is

-- what is left where the choices stay and another triple is tried next
pub left-moved : (ts : List RdfTriple) (ps : List Pattern) (b : Bindings) (chosen : List RdfTriple) (is : List ℕ) (next after : ℕ) (more : List RdfTriple)
    → found_among ts (patterns_after ps is) (bound_by ts ps b is) (chosen_by ts chosen is) (drop next ts) ≡ more ++ found_among ts (patterns_after ps is) (bound_by ts ps b is) (chosen_by ts chosen is) (drop after ts)
    → left_at ts ps b chosen is next ≡ more ++ left_at ts ps b chosen is after
left-moved ts ps b chosen [] next after more h = h
left-moved ts ps b chosen (i ∷ is) next after more h =
    let rest : List RdfTriple = found_among ts ps b chosen (drop (i + 1) ts) in
    let inner = left-moved ts (drop 1 ps) (with_first b ps (numbered ts i)) (chosen ++ numbered ts i ∷ []) is next after more h in
    ap (λ xs. xs ++ rest) inner ∙ append_assoc more (left_at ts (drop 1 ps) (with_first b ps (numbered ts i)) (chosen ++ numbered ts i ∷ []) is after) rest

-- what is left where the next triple is chosen
pub left-chosen : (ts : List RdfTriple) (ps : List Pattern) (b : Bindings) (chosen : List RdfTriple) (is : List ℕ) (next : ℕ)
    → found_among ts (patterns_after ps is) (bound_by ts ps b is) (chosen_by ts chosen is) (drop next ts)
    ≡ left_at ts (patterns_after ps is) (bound_by ts ps b is) (chosen_by ts chosen is) (next ∷ []) 0
    → left_at ts ps b chosen is next ≡ left_at ts ps b chosen (is ++ next ∷ []) 0
left-chosen ts ps b chosen [] next h = h
left-chosen ts ps b chosen (i ∷ is) next h =
    ap (λ xs. xs ++ found_among ts ps b chosen (drop (i + 1) ts)) (left-chosen ts (drop 1 ps) (with_first b ps (numbered ts i)) (chosen ++ numbered ts i ∷ []) is next h)

none_among : (ts : List RdfTriple) (ps : List Pattern) (b : Bindings) (chosen : List RdfTriple) → found_among ts ps b chosen [] ≡ []
none_among ts [] b chosen = refl
none_among ts (p ∷ ps) b chosen = refl

-- what is left where the last choice is given up, for which all triples were tried
pub left-given_up : (ts : List RdfTriple) (ps : List Pattern) (b : Bindings) (chosen : List RdfTriple) (is : List ℕ) (i next : ℕ) → drop next ts ≡ []
    → left_at ts ps b chosen (is ++ i ∷ []) next ≡ left_at ts ps b chosen is (i + 1)
left-given_up ts ps b chosen [] i next h =
    let inner = ap (found_among ts (drop 1 ps) (with_first b ps (numbered ts i)) (chosen ++ numbered ts i ∷ [])) h ∙ none_among ts (drop 1 ps) (with_first b ps (numbered ts i)) (chosen ++ numbered ts i ∷ []) in
    ap (λ xs. xs ++ found_among ts ps b chosen (drop (i + 1) ts)) inner
left-given_up ts ps b chosen (j ∷ is) i next h =
    ap (λ xs. xs ++ found_among ts ps b chosen (drop (j + 1) ts)) (left-given_up ts (drop 1 ps) (with_first b ps (numbered ts j)) (chosen ++ numbered ts j ∷ []) is i next h)

-- nothing is left where nothing is chosen and all triples were tried
pub left-none : (ts : List RdfTriple) (ps : List Pattern) (b : Bindings) (chosen : List RdfTriple) (next : ℕ) → drop next ts ≡ [] → left_at ts ps b chosen [] next ≡ []
left-none ts ps b chosen next h = ap (found_among ts ps b chosen) h ∙ none_among ts ps b chosen

-- the work where the choices stay and another triple is tried next
pub work-moved : (ts : List RdfTriple) (ps : List Pattern) (is : List ℕ) (next after : ℕ) → work ts (patterns_after ps is) (drop after ts) < work ts (patterns_after ps is) (drop next ts) → work_at ts ps is after < work_at ts ps is next
work-moved ts ps [] next after h = h
work-moved ts ps (i ∷ is) next after h = let inner = work-moved ts (drop 1 ps) is next after h in omega (arith, inner)

-- the work where the next triple is chosen
pub work-chosen : (ts : List RdfTriple) (ps : List Pattern) (is : List ℕ) (next : ℕ)
    → work_at ts (patterns_after ps is) (next ∷ []) 0 < work ts (patterns_after ps is) (drop next ts)
    → work_at ts ps (is ++ next ∷ []) 0 < work_at ts ps is next
work-chosen ts ps [] next h = h
work-chosen ts ps (i ∷ is) next h = let inner = work-chosen ts (drop 1 ps) is next h in omega (arith, inner)

-- the work where the last choice is given up, while some pattern is left
pub work-given_up : (ts : List RdfTriple) (ps : List Pattern) (is : List ℕ) (i next : ℕ) → 0 < work ts (patterns_after ps (is ++ i ∷ [])) (drop next ts)
    → work_at ts ps is (i + 1) < work_at ts ps (is ++ i ∷ []) next
work-given_up ts ps [] i next h = omega (arith, h)
work-given_up ts ps (j ∷ is) i next h = let inner = work-given_up ts (drop 1 ps) is i next h in omega (arith, inner)

-- one choice more
pub bound-more : (ts : List RdfTriple) (ps : List Pattern) (b : Bindings) (is : List ℕ) (i : ℕ) → bound_by ts ps b (is ++ i ∷ []) ≡ with_first (bound_by ts ps b is) (patterns_after ps is) (numbered ts i)
bound-more ts ps b [] i = refl
bound-more ts ps b (j ∷ is) i = bound-more ts (drop 1 ps) (with_first b ps (numbered ts j)) is i

pub after-more : (ps : List Pattern) (is : List ℕ) (i : ℕ) → patterns_after ps (is ++ i ∷ []) ≡ drop 1 (patterns_after ps is)
after-more ps [] i = refl
after-more ps (j ∷ is) i = after-more (drop 1 ps) is i
