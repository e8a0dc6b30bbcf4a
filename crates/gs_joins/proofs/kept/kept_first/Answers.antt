use Rattle.std.proofs.Common.{◌<◌, ◌-◌, length, take, drop, sym, subst}
use Rattle.std.specs.Bool.{Decides}
use Rattle.std.proofs.Common.{Vec, Global}
use Rattle.std.proofs.lemmas.List.Elements.{All-take, All-drop}
use Rattle.std.proofs.lemmas.List.Sorted.{All-permutation}
use Rattle.gs_pool.specs.declared.nodes.Key.{Key}
use Rattle.gs_joins.specs.Values.{HasSolution, KeepsAt}
use Rattle.gs_joins.specs.Choices.{AreIn, KeepsThose}
use Rattle.gs_joins.proofs.GroupLemmas.{if_ok}
use Rattle.gs_joins.proofs.KeptLemmas.{without_first, keeps_no_at, keeps_those_at}
use Rattle.gs_joins.proofs.kept.kept_first.Goals as goal

pub stand-requires-clause-order : goal.stand-requires-clause-order
stand-requires-clause-order c =
    subst (AreIn c.args.lots.now) (sym c.split_at_mut-group.ensures.back)
    (All-drop (λ i. i < length c.args.lots.now) c.gather-many.result c.gather-many.new.order
    (All-permutation (λ i. i < length c.args.lots.now) c.args.order.now c.gather-many.new.order c.gather-many.ensures.same c.requires.order.within))

pub returns-then-not-branch : goal.returns-then-not-branch
returns-then-not-branch c =
    let ls = c.args.lots.now in
    let rest = c.split_at_mut-group.result.1.now in
    subst (KeepsAt ls c.args.at) (sym c.new.ensures.items)
    (keeps_no_at ls c.args.at c.args.order.now c.gather-many.new.order c.gather-many.result c.requires.order c.requires.first c.gather-many.ensures rest
    (subst (λ b. Decides b (HasSolution ls rest)) c.if-not-branch.true c.in_ok-stand.ensures))

pub kept-requires-clause-others : goal.kept-requires-clause-others
kept-requires-clause-others c =
    let group = c.split_at_mut-group.result.0.now in
    All-take (λ i. i < length c.args.lots.now) (length group - 1) (drop 1 group)
    (All-drop (λ i. i < length c.args.lots.now) 1 group
    (subst (AreIn c.args.lots.now) (sym c.split_at_mut-group.ensures.front)
    (All-take (λ i. i < length c.args.lots.now) c.gather-many.result c.gather-many.new.order
    (All-permutation (λ i. i < length c.args.lots.now) c.args.order.now c.gather-many.new.order c.gather-many.ensures.same c.requires.order.within))))

pub returns : goal.returns
returns c =
    let ls = c.args.lots.now in
    let new = c.gather-many.new.order in
    let many = c.gather-many.result in
    let group = c.split_at_mut-group.result.0.now in
    let rest = c.split_at_mut-group.result.1.now in
    let others = take (length group - 1) (drop 1 group) in
    if_ok c.kept.result (λ (kept : Vec Key Global). KeepsThose ls c.args.at others kept.items) (λ (kept : Vec Key Global). KeepsAt ls c.args.at kept.items)
    (λ (kept : Vec Key Global) h. keeps_those_at ls c.args.at c.args.order.now new many c.requires.order c.requires.first c.gather-many.ensures others rest kept.items
    (without_first (take many new) group c.split_at_mut-group.ensures.front) c.split_at_mut-group.ensures.back
    (subst (λ b. Decides b (HasSolution ls rest)) c.if-not-branch.false c.in_ok-stand.ensures) h)
    c.kept.ensures
