-- The joined lines of a part of a list of triples.
use Rattle.std.proofs.Common.{◌≡◌, ℕ, ◌+◌, ◌-◌, ◌<◌, ◌≤◌, min, List, [], ◌∷◌, ◌++◌, map, take, drop, length, get_or, refl, sym, ap, ◌∙◌, append_assoc, append-nil, arith, length-drop}
use Rattle.std.specs.List.{concat, take-map, drop-map}
use Rattle.std.proofs.lemmas.List.{take_more, take_min, take_all, drop_min}
use Rattle.gs_model.specs.Triples.{RdfTriple as Triple}

concat_push : (xs : List (List ℕ)) (y : List ℕ) → concat (xs ++ y ∷ []) ≡ concat xs ++ y
concat_push [] y = append-nil y
concat_push (x ∷ xs) y = ap (λ zs. x ++ zs) (concat_push xs y) ∙ sym (append_assoc x (concat xs) y)

-- the part of a list between two places
pub part_is : (ts : List Triple) (start count f m : ℕ) → f ≡ min start (length ts) → m ≡ min count (length ts - f) → take (f + m - f) (drop f ts) ≡ take count (drop start ts)
part_is ts start count f m ef em =
    let width : f + m - f ≡ min count (length (drop f ts)) = omega (arith, length-drop f ts) in
    ap (λ n. take n (drop f ts)) width ∙ take_min count (drop f ts) ∙ ap (λ n. take count (drop n ts)) ef ∙ ap (take count) (drop_min start ts)

-- lines, by what the line of a triple is
module _ (line_by : Triple → List ℕ) where
  map_push : (xs : List Triple) (y : Triple) → map line_by (xs ++ y ∷ []) ≡ map line_by xs ++ line_by y ∷ []
  map_push [] y = refl
  map_push (x ∷ xs) y = ap (λ zs. line_by x ∷ zs) (map_push xs y)

  -- one more line
  pub lines_more : (xs : List Triple) (i : ℕ) (x : Triple) → i < length xs → x ≡ get_or xs i x → concat (map line_by (take (i + 1) xs)) ≡ concat (map line_by (take i xs)) ++ line_by x
  lines_more xs i x within is =
      ap (λ ys. concat (map line_by ys)) (take_more xs i x within)
      ∙ ap concat (map_push (take i xs) (get_or xs i x))
      ∙ concat_push (map line_by (take i xs)) (line_by (get_or xs i x))
      ∙ ap (λ y. concat (map line_by (take i xs)) ++ line_by y) (sym is)

  -- all lines
  pub lines_all : (xs : List Triple) (i : ℕ) → length xs ≤ i → concat (map line_by (take i xs)) ≡ concat (map line_by xs)
  lines_all xs i past = ap (λ ys. concat (map line_by ys)) (take_all i xs past)

  -- the lines of a part of a list
  pub lines_part : (ts part : List Triple) (start count : ℕ) → part ≡ take count (drop start ts) → concat (map line_by part) ≡ concat (take count (drop start (map line_by ts)))
  lines_part ts part start count is =
      ap (λ ys. concat (map line_by ys)) is
      ∙ ap concat (sym (take-map line_by count (drop start ts)) ∙ ap (take count) (sym (drop-map line_by start ts)))
