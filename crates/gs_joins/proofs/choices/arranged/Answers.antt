use Rattle.std.proofs.Common.{◌<◌, ℕ, List, Vec, Global, length, sym, ap, ◌∙◌, subst, arith}
use Rattle.std.specs.List.Sorted.{IsPermutation}
use Rattle.std.proofs.lemmas.List.Sorted.{IsPermutation-refl, IsPermutation-swap, All-permutation}
use Rattle.gs_joins.proofs.choices.arranged.Goals as goal
use Rattle.gs_joins.proofs.choices.arranged.Goals.{then-order-gt1, else-order-gt1}

pub returns-clause-same : goal.returns-clause-same
returns-clause-same c =
    subst (λ (is : List ℕ). IsPermutation is c.if-order-gt1.new.items) c.in_ok-new.ensures.items (elim c.if-order-gt1.branch [
      | then-order-gt1 w ↦
          let few = w.if-order-gt1.true in
          IsPermutation-swap c.in_ok-new.new.items c.if-order-gt1.new.items 0 w.fewest-best.result
          (omega (arith, few, ap length c.in_ok-new.ensures.items)) (omega (arith, few, w.fewest-best.ensures, ap length c.in_ok-new.ensures.items))
          (ap (λ (v : Vec ℕ Global). v.items) w.new-is ∙ w.swap.ensures.items)
      | else-order-gt1 w ↦ subst (IsPermutation c.in_ok-new.new.items) (sym (ap (λ (v : Vec ℕ Global). v.items) w.new-is)) (IsPermutation-refl c.in_ok-new.new.items)
    ])

pub returns-clause-within : goal.returns-clause-within
returns-clause-within c = All-permutation (λ i. i < length c.args.lots.now) c.args.order.now c.if-order-gt1.new.items (returns-clause-same c) c.requires.order
