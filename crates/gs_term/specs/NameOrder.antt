-- The order of names tells apart exactly what differs: the law that its `impl`s cite.
use Rattle.std.specs.Prelude.{◌≡◌, ℕ, List, [], ◌∷◌, ◌++◌}
use Rattle.std.specs.Str.{bytes_eq}
use Rattle.std.specs.Ordering.{eq_by_cmp}
use Rattle.std.specs.Cmp.Lexicographic.{texts_ties}
use Rattle.std.proofs.Common.{ap, ◌∙◌}
use Rattle.std.proofs.lemmas.Bool.Decides.{same_from_decides, Decides-like}
use Rattle.std.proofs.lemmas.Slice.Eq.{bytes_eq-Decides}
use Rattle.std.proofs.lemmas.List.{append_cancel_left, append_cancel_right}
use Rattle.gs_model.specs.Characters.{less_than, greater_than}
use Rattle.gs_term.specs.Names.{in_brackets, name_cmp}

-- two names that stand alike are one
pub same_name : (a b : List ℕ) → in_brackets a ≡ in_brackets b → a ≡ b
same_name a b same =
    let close = greater_than ∷ [] in
    append_cancel_right a b close (append_cancel_left (less_than ∷ []) (a ++ close) (b ++ close) same)

-- names are equal exactly where the order has them tied
pub name_ties : (a b : List ℕ) → bytes_eq a b ≡ eq_by_cmp name_cmp a b
name_ties a b =
    let stand = bytes_eq-Decides (in_brackets a) (in_brackets b) in
    same_from_decides _ _ (bytes_eq-Decides a b) (Decides-like _ (same_name a b) (ap in_brackets) stand)
    ∙ texts_ties (in_brackets a) (in_brackets b)
