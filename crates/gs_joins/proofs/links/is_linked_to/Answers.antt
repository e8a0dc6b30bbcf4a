use Rattle.std.proofs.Common.{length, get_or, refl, sym, subst}
use Rattle.std.proofs.lemmas.Option.{slice_get_read}
use Rattle.gs_joins.specs.Links.{has_variable, IsApart}
use Rattle.gs_joins.proofs.LinkLemmas.{front_more}
use Rattle.gs_joins.proofs.links.is_linked_to.Goals as goal

pub loop-i-preserved : goal.loop-i-preserved
loop-i-preserved c =
    let ls = c.args.lots.now in
    let front = c.args.front.now in
    let i = c.loop-i.i-index in
    let l = c.index-lots-i.result in
    front_more ls front i l (has_variable c.args.sought.now) c.loop-i-test.true
    (slice_get_read ls (length ls) (get_or front i 0) l refl (c.requires i 0 c.loop-i-test.true) c.index-lots-i.is)
    c.loop-i.invariant (subst (λ x. IsApart (has_variable x.sought) (has_variable c.args.sought.now)) (sym c.index-lots-i.is) (c.is_linked.ensures c.if-is_linked.false))
