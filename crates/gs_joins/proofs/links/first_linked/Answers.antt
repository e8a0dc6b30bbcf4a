use Rattle.std.proofs.Common.{length, get_or, refl, sym, subst}
use Rattle.std.proofs.lemmas.Option.{slice_get_read}
use Rattle.gs_joins.specs.Links.{has_variable, one_has, IsApart}
use Rattle.gs_joins.proofs.LinkLemmas.{after_more}
use Rattle.gs_joins.proofs.links.first_linked.Goals as goal

pub loop-i-preserved : goal.loop-i-preserved
loop-i-preserved c =
    let ls = c.args.lots.now in
    let rest = c.args.rest.now in
    let i = c.loop-i.i in
    let l = c.index-lots-number.result in
    after_more ls rest i l (one_has ls c.args.front.now) c.loop-i-test.true
    (slice_get_read ls (length ls) (get_or rest i 0) l refl (c.requires.rest i 0 c.loop-i-test.true) c.index-lots-number.is)
    c.loop-i.invariant (subst (λ x. IsApart (one_has ls c.args.front.now) (has_variable x.sought)) (sym c.index-lots-number.is) (c.is_linked_to.ensures c.if-is_linked_to.false))
