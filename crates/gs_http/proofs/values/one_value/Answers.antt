use Rattle.std.proofs.Common.{List, ℕ, ◌∷◌, map, ap, sym, ◌∙◌}
use Rattle.std.specs.Borrow.{Bor}
use Rattle.gs_http.proofs.values.one_value.Goals as goal

pub returns-in-Some-next : goal.returns-in-Some-next
returns-in-Some-next c =
    let now : Bor (List ℕ) → List ℕ = λ v. v.now in
    let first = c.in-Some.ensures.steps in
    let second = c.in-Some-next.ensures.steps in (
      c.in-Some.first.now.now,
      c.in-Some-next.field-0.now.now,
      map now c.next-2.new.self,
      ap (map now) (sym c.get_all.ensures.value ∙ sym c.iter-values.ensures ∙ first) ∙ ap (λ (vs : List (Bor (List ℕ))). c.in-Some.first.now.now ∷ map now vs) second,
    )
