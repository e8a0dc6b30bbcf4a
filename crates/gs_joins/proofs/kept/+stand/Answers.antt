use Rattle.std.proofs.Common.{◌<◌, length, sym, ◌∙◌, subst, arith}
use Rattle.std.specs.Bool.{Decides}
use Rattle.std.proofs.lemmas.List.Elements.{All-take, All-drop}
use Rattle.std.proofs.lemmas.List.Sorted.{All-permutation, length_permutation}
use Rattle.gs_joins.specs.Values.{HasSolution}
use Rattle.gs_joins.specs.Choices.{AreIn}
use Rattle.gs_joins.proofs.GroupLemmas.{if_ok, none_left, none_stand, rest_stand}
use Rattle.gs_joins.proofs.kept.+stand.Goals as goal

pub returns-then-is_empty : goal.returns-then-is_empty
returns-then-is_empty t c = none_left c.args.lots.now c.args.order.now c.if-is_empty.ensures

pub stand_by_themselves-requires : goal.stand_by_themselves-requires
stand_by_themselves-requires t c = record {
  lots = c.requires.lots;
  group = subst (AreIn c.args.lots.now) (sym c.split_at_mut-group.ensures.front)
      (All-take (λ i. i < length c.args.lots.now) c.gather-many.result c.gather-many.new.order
      (All-permutation (λ i. i < length c.args.lots.now) c.args.order.now c.gather-many.new.order c.gather-many.ensures.same c.requires.order));
}

pub returns-then-not-branch : goal.returns-then-not-branch
returns-then-not-branch t c =
    let ls = c.args.lots.now in
    let group = c.split_at_mut-group.result.0.now in
    none_stand ls c.args.order.now c.gather-many.new.order group c.gather-many.result c.gather-many.ensures.same c.split_at_mut-group.ensures.front
    (sym c.if-not-branch.true ∙ c.in_ok-stand_by_themselves.ensures)

pub stand-requires : goal.stand-requires
stand-requires t c =
    let same = length_permutation c.args.order.now c.gather-many.new.order c.gather-many.ensures.same in (
      omega (arith, c.decreases, same, c.split_at_mut-group.ensures.back_len, c.split_at_mut-group.ensures.front_len, c.gather-many.ensures.some, c.gather-many.ensures.within),
      (
        c.requires.lots,
        subst (AreIn c.args.lots.now) (sym c.split_at_mut-group.ensures.back)
            (All-drop (λ i. i < length c.args.lots.now) c.gather-many.result c.gather-many.new.order
            (All-permutation (λ i. i < length c.args.lots.now) c.args.order.now c.gather-many.new.order c.gather-many.ensures.same c.requires.order)),
      ),
    )

pub returns : goal.returns
returns t c =
    let ls = c.args.lots.now in
    let group = c.split_at_mut-group.result.0.now in
    let rest = c.split_at_mut-group.result.1.now in
    if_ok c.stand.result (λ stands. Decides stands (HasSolution ls rest)) (λ stands. Decides stands (HasSolution ls c.args.order.now))
    (λ found decides. rest_stand ls c.args.order.now c.gather-many.new.order group rest c.gather-many.result found c.gather-many.ensures.same c.split_at_mut-group.ensures.front c.split_at_mut-group.ensures.back
    c.gather-many.ensures.apart (sym c.if-not-branch.false ∙ c.in_ok-stand_by_themselves.ensures) decides)
    c.stand.ensures
