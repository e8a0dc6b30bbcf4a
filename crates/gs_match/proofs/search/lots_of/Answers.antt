use Rattle.std.proofs.Common.{◌+◌, ◌∷◌, ◌++◌, [], List, take, sym, ap, ◌∙◌, subst}
use Rattle.std.specs.List.Sorted.{IsPermutation}
use Rattle.std.proofs.lemmas.List.{take_more, take_all}
use Rattle.gs_tree.specs.Reading.{keys_at}
use Rattle.gs_joins.specs.declared.sought.Sought.{Sought}
use Rattle.gs_joins.specs.declared.lots.Lot.{Lot}
use Rattle.gs_match.specs.Solving.{AreLots}
use Rattle.gs_match.specs.Candidates.{ListsThem}
use Rattle.gs_match.proofs.SolveLemmas.{small_all, lots_more, lots_arranged}
use Rattle.gs_match.proofs.search.lots_of.Goals as goal

pub new-requires : goal.new-requires
new-requires c =
    let ks = keys_at c.args.keys.now.pool.now c.args.keys.now.root in
    small_all c.args.keys.now.order.dict.now.terms ks c.in_ok-list.list.items c.in_ok-list.ensures.sound c.requires.graph.given c.requires.few

pub loop-one-preserved : goal.loop-one-preserved
loop-one-preserved c =
    let ks = keys_at c.args.keys.now.pool.now c.args.keys.now.root in
    let ss = c.deref-one-items.result.now in
    let i = c.loop-one.one-index in
    let s = c.one-item.result in
    let more = sym (take_more ss i s c.loop-one-test.true ∙ ap (λ (z : Sought). take i ss ++ z ∷ []) (sym c.one-item.is)) in
    subst (AreLots ks (take (i + 1) ss)) (sym c.in_ok-push.ensures.items)
    (subst (λ (zs : List Sought). AreLots ks zs (c.loop-one.lots.items ++ c.in_ok-new.field-0 ∷ [])) more
    (lots_more ks (take i ss) s c.loop-one.lots.items c.in_ok-new.field-0 c.in_ok-list.list.items c.loop-one.invariant c.in_ok-new.ensures
    (subst (λ (zs : List Lot). ListsThem ks zs s c.in_ok-list.list.items) c.as_slice.ensures.value c.in_ok-list.ensures)))

pub returns : goal.returns
returns c =
    let ks = keys_at c.args.keys.now.pool.now c.args.keys.now.root in
    let ss = c.deref-one-items.result.now in
    lots_arranged ks c.args.sought.now ss c.loop-one.lots.items
    (subst (IsPermutation c.args.sought.now) (sym c.deref-one-items.ensures.value) c.in_ok-arranged.ensures)
    (subst (λ (zs : List Sought). AreLots ks zs c.loop-one.lots.items) (take_all c.loop-one.one-index ss c.loop-one-test.false) c.loop-one.invariant)
