-- A label that stands whole at the front of a piece.
use Rattle.std.proofs.Common.{◌≡◌, ℕ, zero, suc, ◌+◌, ◌-◌, ◌<◌, true, List, [], ◌∷◌, length, take, drop, get_or, sym, ap, ap₂, ◌∙◌, subst, arith, length-drop}
use Rattle.std.specs.Prelude.{nat_lt, slice_index}
use Rattle.std.specs.List.{list_all}
use Rattle.std.proofs.lemmas.List.{length-take-le}
use Rattle.std.proofs.lemmas.Bool.Decides.{nat_tests}
use Rattle.gs_ntterm.specs.Classes.{is_space, begins_label}
use Rattle.gs_ntterm.specs.Runs.{runs_in_label}
use Rattle.gs_ntterm.specs.Wholes.{LabelBegins, LabelFront}
use Rattle.gs_ntterm.proofs.RunLemmas.{low_label}
use Rattle.gs_ntterm.proofs.WholeLemmas.{ascii_by}

-- its mark and its first character
pub label_begins : (x : List ℕ) → 2 < length x → get_or x 0 0 ≡ 95 → get_or x 1 0 ≡ 58 → get_or x 2 0 < 128 → begins_label (get_or x 2 0) ≡ true → LabelBegins x
label_begins [] l d e h b = absurd (omega arith)
label_begins (c1 ∷ []) l d e h b = absurd (omega arith)
label_begins (c1 ∷ c2 ∷ []) l d e h b = absurd (omega arith)
label_begins (c1 ∷ c2 ∷ c3 ∷ cs) l d e h b =
    let small : nat_lt c3 128 ≡ true = grind (arith, nat_tests) in
    record { first = c3; rest = cs; is = ap₂ (λ u v. u ∷ v ∷ c3 ∷ cs) d e; small = small; begins = b }

-- with a run of its characters
module _ (x : List ℕ) (b : LabelBegins x) (k : ℕ) (e : list_all runs_in_label (take k (drop 3 x)) ≡ true) where
  label_is : take (3 + k - 2) (drop 2 x) ≡ b.first ∷ take k b.rest
  label_is =
      let n : 3 + k - 2 ≡ suc k = omega arith in
      ap (λ m. take m (drop 2 x)) n ∙ ap (λ z. take (suc k) (drop 2 z)) b.is

  more_plain : list_all runs_in_label (take k b.rest) ≡ true
  more_plain = subst (λ (z : List ℕ). list_all runs_in_label (take k (drop 3 z)) ≡ true) b.is e

  each_low : (i : ℕ) → slice_index (b.first ∷ take k b.rest) i < 128
  each_low zero = let s : nat_lt b.first 128 ≡ true = b.small in grind (arith, nat_tests)
  each_low (suc i) = ascii_by runs_in_label low_label (take k b.rest) more_plain i

  pub label_ascii : (i : ℕ) → slice_index (take (3 + k - 2) (drop 2 x)) i < 128
  label_ascii i = subst (λ (z : List ℕ). slice_index z i < 128) (sym label_is) (each_low i)

  pub label_front : 3 + k < length x → is_space (get_or x (3 + k) 0) ≡ true → LabelFront x (take (3 + k - 2) (drop 2 x))
  label_front h s =
      let size : length (take (3 + k - 2) (drop 2 x)) + 2 ≡ 3 + k = omega (arith, length-take-le (3 + k - 2) (drop 2 x) (omega (arith, h, length-drop 2 x))) in
      let n : 3 + k ≡ suc (suc (suc k)) = omega arith in
      record {
        first = b.first;
        more = take k b.rest;
        is = label_is;
        small = b.small;
        begins = b.begins;
        plain = more_plain;
        stands = ap (λ m. take m x) (size ∙ n) ∙ ap (λ z. take (suc (suc (suc k))) z) b.is ∙ ap (λ z. 95 ∷ 58 ∷ z) (sym label_is);
        within = omega (arith, size, h);
        blank = subst (λ (m : ℕ). is_space (get_or x m 0) ≡ true) (sym size) s;
      }
