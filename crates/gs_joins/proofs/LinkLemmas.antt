-- Lists whose patterns share no variable.
use Rattle.std.proofs.Common.{◌≡◌, ◌≤◌, ◌<◌, ◌+◌, ℕ, Bool, true, false, ◌||◌, List, length, take, drop, get_or, slice_get, unwrap_or, option_map, Option, Some, refl, sym, ap, ◌∙◌}
use Rattle.std.proofs.lemmas.List.Folds.{list_any_more}
use Rattle.std.proofs.Math.ListN.{drop_of_length-le}
use Rattle.gs_joins.specs.declared.lots.Lot.{Lot}
use Rattle.gs_joins.specs.Links.{has_variable, has_variable_at, one_has, IsApart}

-- what the pattern of a list has
pub has_at_is : (ls : List Lot) (i : ℕ) (l : Lot) (x : List ℕ) → slice_get ls i ≡ Some l → has_variable_at ls x i ≡ has_variable l.sought x
has_at_is ls i l x e = ap (λ (o : Option Lot). unwrap_or (option_map (λ (l : Lot). has_variable l.sought x) o) false) e

-- where one of two tests passes
either : (a b : Bool) (P : Type 0) → (a || b) ≡ true → (a ≡ true → P) → (b ≡ true → P) → P
either true b P h f g = f refl
either false b P h f g = g h

-- one list more in front
pub front_more : (ls : List Lot) (front : List ℕ) (i : ℕ) (l : Lot) (h : List ℕ → Bool) → i < length front → slice_get ls (get_or front i 0) ≡ Some l
    → IsApart (one_has ls (take i front)) h → IsApart (has_variable l.sought) h → IsApart (one_has ls (take (i + 1) front)) h
front_more ls front i l h within at old one = record {
  other = λ x e. either (one_has ls (take i front) x) (has_variable_at ls x (get_or front i 0)) (h x ≡ false)
      (sym (list_any_more (has_variable_at ls x) front i 0 within) ∙ e)
      (old.other x) (λ has. one.other x (sym (has_at_is ls (get_or front i 0) l x at) ∙ has));
}

-- one list more after them
pub after_more : (ls : List Lot) (rest : List ℕ) (i : ℕ) (l : Lot) (h : List ℕ → Bool) → i < length rest → slice_get ls (get_or rest i 0) ≡ Some l
    → IsApart h (one_has ls (take i rest)) → IsApart h (has_variable l.sought) → IsApart h (one_has ls (take (i + 1) rest))
after_more ls rest i l h within at old one = record {
  other = λ x e. list_any_more (has_variable_at ls x) rest i 0 within ∙ ap (λ b. b || has_variable_at ls x (get_or rest i 0)) (old.other x e)
      ∙ has_at_is ls (get_or rest i 0) l x at ∙ one.other x e;
}

-- nothing comes after all
pub apart_all : (ls : List Lot) (order : List ℕ) (many : ℕ) → length order ≤ many → IsApart (one_has ls (take many order)) (one_has ls (drop many order))
apart_all ls order many h = record { other = λ x e. ap (λ is. one_has ls is x) (drop_of_length-le order h) }
