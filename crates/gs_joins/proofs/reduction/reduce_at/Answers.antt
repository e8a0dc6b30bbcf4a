use Rattle.std.proofs.Common.{List, slice_get, MatchOption, subst}
use Rattle.gs_joins.specs.declared.lots.Lot.{Lot}
use Rattle.gs_joins.specs.Reductions.{Keeps}
use Rattle.gs_joins.proofs.LotLemmas.{at_has, reduces_at}
use Rattle.gs_joins.proofs.reduction.reduce_at.Goals as goal

pub returns : goal.returns
returns c =
    let ls = c.args.lots.now.items in
    let l = c.index-2.result.now in
    let kept = c.in_ok-kept.kept.items in
    reduces_at ls c.args.at l c.in_ok-lot.lot kept c.requires.lots c.requires.at c.index-2.ensures
    (at_has (λ (z : Lot). Keeps ls z.sought z.keys.items kept) ls c.args.at l c.requires.at c.index-2.ensures
    (subst (λ (zs : List Lot). MatchOption (slice_get zs c.args.at) (Unit {0}) (λ (z : Lot). Keeps zs z.sought z.keys.items kept)) c.as_slice.ensures.value c.in_ok-kept.ensures.1))
    c.in_ok-lot.ensures
