-- What a vector's own iterator gives.
use Rattle.std.proofs.Common.{◌≡◌, List, [], ◌∷◌, sym, ap, ◌∙◌, refl, length, arith}
use Rattle.std.specs.Iterator.{Yields}
use Rattle.std.specs.declared.option.Option.TheVariants.{None}
use Rattle.std.specs.declared.vec.IntoIter.{IntoIter}
use Rattle.std.specs.Vec.Iter.{into_iter_items, into_iter_steps}

-- a list of length 0 is empty
no_items : {X : Type 0} (xs : List X) → length xs ≡ 0 → [] ≡ xs
no_items [] e = refl
no_items (x ∷ xs) e = absurd (omega arith)

module _ {X Z : Type 0} where
  -- until it is empty it gives all its items
  pub items_given : (xs : List X) (s t u : IntoIter X Z) → Yields (into_iter_steps {X = X} {Z = Z}) s xs t
      → into_iter_steps {X = X} {Z = Z} t None u → xs ≡ into_iter_items s
  items_given [] s t u y e = no_items (into_iter_items t) (sym t.rest.ok.0 ∙ e.0) ∙ ap into_iter_items (sym y)
  items_given (x ∷ xs) s t u y e = ap (λ l. x ∷ l) (items_given xs y.0 t u y.2 e) ∙ sym y.1.0
