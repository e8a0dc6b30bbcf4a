-- Lists of seats, one of which is replaced: an idle seat stands in its place for a while.
use Rattle.std.proofs.Common.{◌≡◌, ℕ, ◌<◌, true, false, List, [], ◌∷◌, map, length, get_or, set, Option, Some, None, is_some, refl, sym, ap, ◌∙◌, arith}
use Rattle.std.specs.List.{All}
use Rattle.std.proofs.lemmas.List.{length-map, get_or-map, map-set, set-set}
use Rattle.std.proofs.lemmas.List.Elements.{All-head, All-tail}
use Rattle.gs_tree_store.specs.declared.books.Seat.{Seat}
use Rattle.gs_tree_store.specs.declared.books.Seat.TheVariants.{Idle}
use Rattle.gs_tree_store.specs.Books.{is_reading}

module _ {Y : Type 0} (f g : Seat → Y) where
  -- what does not change of any seat is the same list
  pub same_map : (xs : List Seat) → All (λ x. g x ≡ f x) xs → map g xs ≡ map f xs
  same_map [] same = refl
  same_map (x ∷ xs) same =
      let first = All-head (λ y. g y ≡ f y) x xs same in
      let rest = same_map xs (All-tail (λ y. g y ≡ f y) x xs same) in
      λ i. first i ∷ rest i

  -- what does not change of the other seats changes in one place of the list
  pub map_beside : (xs : List Seat) (s : ℕ) (now : Seat) → All (λ x. g x ≡ f x) (set xs s Idle) → map g (set xs s now) ≡ set (map f xs) s (g now)
  map_beside xs s now same =
      ap (map g) (sym (set-set xs s Idle now))
      ∙ map-set g (set xs s Idle) s now
      ∙ ap (λ ys. set ys s (g now)) (same_map (set xs s Idle) same ∙ map-set f xs s Idle)
      ∙ set-set (map f xs) s (f Idle) (g now)

-- as many pins as seats
pub pins_long : (pins : List (Option ℕ)) (xs : List Seat) → map is_some pins ≡ map is_reading xs → length pins ≡ length xs
pins_long pins xs flags = sym (length-map pins (λ (o : Option ℕ). is_some o)) ∙ ap length flags ∙ length-map xs is_reading

-- whether there is a pin in a place is whether the seat reads
pub pin_at : (pins : List (Option ℕ)) (xs : List Seat) (k : ℕ) (d : Seat) → map is_some pins ≡ map is_reading xs → k < length xs → is_some (get_or pins k None) ≡ is_reading (get_or xs k d)
pin_at pins xs k d flags within =
    let long = pins_long pins xs flags in
    sym (get_or-map (λ (o : Option ℕ). is_some o) pins k None false (omega arith))
    ∙ ap (λ bs. get_or bs k false) flags
    ∙ get_or-map is_reading xs k d false within

-- a value that is there
pub some_of : (o : Option ℕ) → is_some o ≡ true → (n : ℕ) × (o ≡ Some n)
some_of None e = absurd (cc)
some_of (Some n) e = (n, refl)
