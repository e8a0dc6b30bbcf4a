-- Lists of shared blocks: a clone has the same blocks, and one block in the place of another.
use Rattle.std.proofs.Common.{◌≡◌, ◌⊎◌, ℕ, List, [], ◌∷◌, Vec, map, set, inl, inr, refl, ap, ◌∙◌}
use Rattle.std.specs.List.{AllZip}
use Rattle.std.specs.Arc.{arc_value}
use Rattle.std.specs.declared.sync.Arc.{Arc}
use Rattle.std.proofs.lemmas.List.{map-set}

-- arcs of the same values, one by one
same_values : {X Z : Type 0} (xs ys : List (Arc X Z)) → AllZip (λ c d. arc_value d ≡ arc_value c) xs ys → map arc_value ys ≡ map arc_value xs
same_values [] [] h = refl
same_values [] (y ∷ ys) h = absurd h
same_values (x ∷ xs) [] h = absurd h
same_values (x ∷ xs) (y ∷ ys) h = λ i. h.0 i ∷ same_values xs ys h.1 i

-- a list of arcs, or a clone of it
pub same_or_clone :
    {X Z W : Type 0} {P : Type 0} (v w : Vec (Arc X Z) W) → (w ≡ v) ⊎ (AllZip (λ c d. arc_value d ≡ arc_value c) v.items w.items × P)
    → map arc_value w.items ≡ map arc_value v.items
same_or_clone v w (inl same) = ap (λ z. map arc_value z.items) same
same_or_clone v w (inr clone) = same_values v.items w.items clone.0

-- a block without bytes in the place of another
pub values_set :
    {Z : Type 0} (arcs new : List (Arc (List ℕ) Z)) (i : ℕ) (a : Arc (List ℕ) Z) → new ≡ set arcs i a → arc_value a ≡ []
    → map arc_value new ≡ set (map arc_value arcs) i []
values_set arcs new i a is none = ap (map arc_value) is ∙ (map-set arc_value arcs i a ∙ ap (set (map arc_value arcs) i) none)
