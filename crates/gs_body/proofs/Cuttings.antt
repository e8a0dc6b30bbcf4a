-- A text in pieces.
use Rattle.std.proofs.Common.{◌≡◌, ◌++◌, ◌<◌, ℕ, List, length, take, drop, get_or, suc, sym, ap, ◌∙◌, append_assoc, take-append-drop, drop-cons}
use Rattle.std.specs.List.{flat_map}
use Rattle.std.proofs.lemmas.List.Concat.{flat_map-append}

-- the pieces before one, that one, and those after it
pub cut_at : {X : Type 0} (f : X → List ℕ) (xs : List X) (i : ℕ) (d : X) → i < length xs
    → flat_map f (take i xs) ++ f (get_or xs i d) ++ flat_map f (drop (suc i) xs) ≡ flat_map f xs
cut_at f xs i d h =
    append_assoc (flat_map f (take i xs)) (f (get_or xs i d)) (flat_map f (drop (suc i) xs))
    ∙ ap (λ z. flat_map f (take i xs) ++ flat_map f z) (sym (drop-cons xs i d h))
    ∙ sym (flat_map-append f (take i xs) (drop i xs))
    ∙ ap (flat_map f) (take-append-drop i xs)
