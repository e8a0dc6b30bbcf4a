use Rattle.std.proofs.Common.{not, rules, tests, ℕ, nat_eq, ap, ◌∙◌, length, ltb, cond, Option, Some, None, List, ◌≡◌, Bool, true, false, refl, ◌≤◌, ◌+◌, [], ◌∷◌, arith}
use Rattle.std.proofs.lemmas.Bool.{ltb-false}
use Rattle.std.specs.Option.{unwrap_or}
use Rattle.std.specs.List.{position_or_len}
use Rattle.std.proofs.lemmas.Iterator.{YieldsList-from_slice}
use Rattle.std.proofs.lemmas.Iterator.Search.{position_from_yields_List}
use Rattle.gs_names.proofs.words.position.Goals as goal

within : (p : ℕ → Bool) (xs : List ℕ) → position_or_len p xs ≤ length xs
within p [] = omega arith
within p (x ∷ xs) = by (p x) (within p xs)
  where
    by : (v : Bool) → position_or_len p xs ≤ length xs → cond (not v) (1 + position_or_len p xs) 0 ≤ length (x ∷ xs)
    by true h = omega arith
    by false h = omega (arith, h)

at_most : (p : ℕ → Bool) (xs : List ℕ) (v : Bool) → ltb (position_or_len p xs) (length xs) ≡ v
    → unwrap_or (cond v (Some (position_or_len p xs)) None) (length xs) ≡ position_or_len p xs
at_most p xs true e = refl
at_most p xs false e = let low = ltb-false (position_or_len p xs) (length xs) e in omega (arith, low, within p xs)

pub returns : goal.returns
returns c =
    let p : ℕ → Bool = λ x. nat_eq x c.args.byte in
    let found = position_from_yields_List p _ _ c.position.result c.position.ensures.ran (YieldsList-from_slice c.args.value.now c.iter.ensures.rest) (λ x b q k. search (rules, tests)) in
    c.unwrap_or.ensures ∙ ap (λ (o : Option ℕ). unwrap_or o (length c.args.value.now)) found ∙ at_most p c.args.value.now _ refl
