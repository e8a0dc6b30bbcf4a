-- The two routes lead where the definition says.
use Rattle.std.proofs.Common.{◌≡◌, ℕ, ◌-◌, Bool, true, false, cond, List, [], ◌∷◌, length, drop, Option, Some, None, refl, sym, ap, ◌∙◌, lit<, inl, inr, subst}
use Rattle.std.specs.Prelude.{nat_eq, option_map}
use Rattle.std.specs.List.{starts_with}
use Rattle.std.specs.Str.{bytes_eq}
use Rattle.std.proofs.lemmas.Bool.{cases_Bool, eqb-true, eqb-false, eq-eqb, ne_eqb}
use Rattle.matchit.specs.Rows.{Rows}
use Rattle.matchit.specs.Seek.{step, or_else, seek, first, param_step}
use Rattle.matchit.proofs.SeekLemmas.{seek-empty, param_step-empty, first-prefix, or_else-none}
use Rattle.gs_names.specs.declared.routes.Route.{Route}
use Rattle.gs_names.specs.declared.routes.Route.TheVariants.{Store, Graphs}
use Rattle.matchit.specs.Router.{RouteOf, map_key}
use Rattle.matchit.proofs.RenameLemmas.{first-rename}
use Rattle.gs_names.specs.Routes.{LeadsToPlaces}
use Rattle.gs_names.specs.Places.{some_more, place_of}

-- the place of a route by its number
abbrev pub named : Option ℕ → Option Route
named None = None
named (Some k) = Some (cond (nat_eq k 0) Graphs Store)

-- both routes after their common slash
abbrev tails : Rows
tails = (103 ∷ 114 ∷ 97 ∷ 112 ∷ 104 ∷ 115 ∷ 47 ∷ 257 ∷ [], 0) ∷ (115 ∷ 116 ∷ 111 ∷ 114 ∷ 101 ∷ [], 1) ∷ []

-- the two routes
abbrev pub both : Rows
both = (47 ∷ 103 ∷ 114 ∷ 97 ∷ 112 ∷ 104 ∷ 115 ∷ 47 ∷ 257 ∷ [], 0) ∷ (47 ∷ 115 ∷ 116 ∷ 111 ∷ 114 ∷ 101 ∷ [], 1) ∷ []

-- no route goes on with a parameter
seek-none : (b : ℕ) (q : List ℕ) → seek ((param_step {K = ℕ} [] (b ∷ q)).0 - 1) (param_step {K = ℕ} [] (b ∷ q)).1 q ≡ None
seek-none b q = simp (param_step-empty (b ∷ q), seek-empty ((param_step {K = ℕ} [] (b ∷ q)).0 - 1) q)

-- the route, where the path ends
abbrev end_at : (k : ℕ) (q : List ℕ) → Option ℕ
end_at k [] = Some k
end_at k (b ∷ q) = None

-- a route that ends
first-end : (k : ℕ) (q : List ℕ) → first (([], k) ∷ []) q ≡ end_at k q
unfolding seek
first-end k [] = refl
first-end k (b ∷ q) = simp (seek-none b q, seek-empty 0 q)

-- the route of graphs, where there is more of the path
abbrev more_at : List ℕ → Option ℕ
more_at [] = None
more_at (b ∷ q) = Some 0

-- a route that takes all the rest
first-rest : (q : List ℕ) → first ((257 ∷ [], 0) ∷ []) q ≡ more_at q
unfolding seek
first-rest [] = refl
first-rest (b ∷ q) = rw (seek-none b q) (taken (nat_eq 257 b) q)
  where
    taken : (v : Bool) (p : List ℕ) → or_else {K = ℕ} (seek 0 (cond v (([], 0) ∷ []) []) p) (Some 0) ≡ Some 0
    taken true p = rw (first-end 0 p) (at p)
      where
        at : (p : List ℕ) → or_else {K = ℕ} (end_at 0 p) (Some 0) ≡ Some 0
        at [] = refl
        at (c ∷ p) = refl
    taken false p = rw (seek-empty 0 p)

-- after the slash
first-tails : (b : ℕ) (q : List ℕ) → first tails (b ∷ q) ≡ seek 0 (step b tails) q
unfolding seek
first-tails b q = simp (seek-none b q, or_else-none)

-- both routes begin with a slash
first-both : (path : List ℕ) → first both path ≡ cond (starts_with nat_eq path (47 ∷ [])) (first tails (drop 1 path)) None
first-both path = first-prefix (47 ∷ []) tails path (lit< tt, tt)

-- the route of graphs
first-graphs : (q : List ℕ) → first ((114 ∷ 97 ∷ 112 ∷ 104 ∷ 115 ∷ 47 ∷ 257 ∷ [], 0) ∷ []) q
    ≡ cond (starts_with nat_eq q (114 ∷ 97 ∷ 112 ∷ 104 ∷ 115 ∷ 47 ∷ [])) (more_at (drop 6 q)) None
first-graphs q =
    first-prefix (114 ∷ 97 ∷ 112 ∷ 104 ∷ 115 ∷ 47 ∷ []) ((257 ∷ [], 0) ∷ []) q (lit< tt, (lit< tt, (lit< tt, (lit< tt, (lit< tt, (lit< tt, tt))))))
    ∙ ap (λ (o : Option ℕ). cond (starts_with nat_eq q (114 ∷ 97 ∷ 112 ∷ 104 ∷ 115 ∷ 47 ∷ [])) o None) (first-rest (drop 6 q))

-- the route of the store
first-store : (q : List ℕ) → first ((116 ∷ 111 ∷ 114 ∷ 101 ∷ [], 1) ∷ []) q
    ≡ cond (starts_with nat_eq q (116 ∷ 111 ∷ 114 ∷ 101 ∷ [])) (end_at 1 (drop 4 q)) None
first-store q =
    first-prefix (116 ∷ 111 ∷ 114 ∷ 101 ∷ []) (([], 1) ∷ []) q (lit< tt, (lit< tt, (lit< tt, (lit< tt, tt))))
    ∙ ap (λ (o : Option ℕ). cond (starts_with nat_eq q (116 ∷ 111 ∷ 114 ∷ 101 ∷ [])) o None) (first-end 1 (drop 4 q))

-- its place
same_value : (v : Bool) (r : List ℕ) → named (cond v (more_at r) None) ≡ cond v (some_more r) None
same_value true [] = refl
same_value true (b ∷ r) = refl
same_value false r = refl

-- a test of equal numbers, the other way round
flip : (x c : ℕ) (v : Bool) → nat_eq x c ≡ v → nat_eq c x ≡ v
flip x c true e = eq-eqb c x (sym (eqb-true x c e))
flip x c false e = ne_eqb c x (λ q. eqb-false x c e (sym q))

-- a text begins with another, and ends there
whole : (w q : List ℕ) → named (cond (starts_with nat_eq q w) (end_at 1 (drop (length w) q)) None) ≡ cond (bytes_eq q w) (Some Store) None
whole [] [] = refl
whole [] (c ∷ q) = refl
whole (x ∷ w) [] = refl
whole (x ∷ w) (c ∷ q) = elim (cases_Bool (nat_eq x c)) [
  | inl t ↦ rw (t, flip x c true t) (whole w q)
  | inr n ↦ rw (n, flip x c false n)
]

-- a path that begins with `/g`
at_graphs : (q : List ℕ) → named (first both (47 ∷ 103 ∷ q)) ≡ place_of (47 ∷ 103 ∷ q)
at_graphs q =
    ap named (first-both (47 ∷ 103 ∷ q) ∙ first-tails 103 q ∙ first-graphs q)
    ∙ same_value (starts_with nat_eq q (114 ∷ 97 ∷ 112 ∷ 104 ∷ 115 ∷ 47 ∷ [])) (drop 6 q)

-- a path that begins with `/s`
at_store : (q : List ℕ) → named (first both (47 ∷ 115 ∷ q)) ≡ place_of (47 ∷ 115 ∷ q)
at_store q =
    ap named (first-both (47 ∷ 115 ∷ q) ∙ first-tails 115 q ∙ first-store q) ∙ whole (116 ∷ 111 ∷ 114 ∷ 101 ∷ []) q

-- a path that begins with a slash and another byte
at_other : (y : ℕ) (q : List ℕ) → nat_eq 103 y ≡ false → nat_eq 115 y ≡ false → named (first both (47 ∷ y ∷ q)) ≡ place_of (47 ∷ y ∷ q)
at_other y q g s =
    let gone : step y tails ≡ [] = rw (g, s) in
    ap named (first-both (47 ∷ y ∷ q) ∙ first-tails y q ∙ ap (λ (r : Rows). seek 0 r q) gone ∙ seek-empty 0 q)
    ∙ rw (g, flip 115 y false s)

-- a path that begins with a slash
at_slash : (p : List ℕ) → named (first both (47 ∷ p)) ≡ place_of (47 ∷ p)
unfolding seek param_step
at_slash [] = refl
at_slash (y ∷ q) =
    elim (cases_Bool (nat_eq 103 y)) [
      | inl t ↦ subst (λ (c : ℕ). named (first both (47 ∷ c ∷ q)) ≡ place_of (47 ∷ c ∷ q)) (eqb-true 103 y t) (at_graphs q)
      | inr g ↦ elim (cases_Bool (nat_eq 115 y)) [
        | inl t ↦ subst (λ (c : ℕ). named (first both (47 ∷ c ∷ q)) ≡ place_of (47 ∷ c ∷ q)) (eqb-true 115 y t) (at_store q)
        | inr s ↦ at_other y q g s
      ]
    ]

-- any path
routed : (path : List ℕ) → named (first both path) ≡ place_of path
unfolding seek
routed [] = refl
routed (x ∷ p) = elim (cases_Bool (nat_eq 47 x)) [
  | inl t ↦ subst (λ (c : ℕ). named (first both (c ∷ p)) ≡ place_of (c ∷ p)) (eqb-true 47 x t) (at_slash p)
  | inr n ↦ ap named (first-both (x ∷ p)) ∙ rw (n, flip 47 x false n)
]

-- the router's rows, whatever else a row keeps
pub leads : (g s : RouteOf Route) → g.value ≡ Graphs → s.value ≡ Store
    → LeadsToPlaces ((47 ∷ 103 ∷ 114 ∷ 97 ∷ 112 ∷ 104 ∷ 115 ∷ 47 ∷ 257 ∷ [], g) ∷ (47 ∷ 115 ∷ 116 ∷ 111 ∷ 114 ∷ 101 ∷ [], s) ∷ [])
leads g s gv sv path =
    let pick : ℕ → RouteOf Route = λ k. cond (nat_eq k 0) g s in
    ap (option_map (λ (r : RouteOf Route). r.value)) (first-rename pick both path) ∙ values (first both path) ∙ routed path
  where
    by : (v : Bool) → (cond v g s).value ≡ cond v Graphs Store
    by true = gv
    by false = sv

    values : (o : Option ℕ) → option_map (λ (r : RouteOf Route). r.value) (map_key (λ k. cond (nat_eq k 0) g s) o) ≡ named o
    values None = refl
    values (Some k) = ap Some (by (nat_eq k 0))
