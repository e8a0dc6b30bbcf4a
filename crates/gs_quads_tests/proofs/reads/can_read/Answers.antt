use Rattle.std.proofs.Common.{ℕ, None, subst, arith}
use Rattle.std.specs.List.{AllByRecursion}
use Rattle.gs_quads.specs.Places.{root_at}
use Rattle.gs_quads.specs.Found.{AreNext}
use Rattle.gs_quads.proofs.Numbers.{next_are}
use Rattle.gs_quads_tests.specs.Trees.{IsOneOf}
use Rattle.gs_quads_tests.proofs.Readable.{walk_has}
use Rattle.gs_quads_tests.proofs.reads.can_read.Goals as goal

pub returns-in-None : goal.returns-in-None
returns-in-None c holds =
    let v = c.args.version in
    let r = c.args.records.now in
    let next = c.in_ok-next.next in
    let P : ℕ → Type 0 = λ n. IsOneOf c.args.roots.now (root_at r.records n) in
    let listed = c.next_at.ensures.listed in
    let walk = next_are 1000 v r (omega arith) listed None next.0.items next.1 c.in_ok-next.ensures.numbers c.in_ok-next.ensures.rest in
    walk_has v r listed P next.0.items (subst (AreNext v r None next.0.items) c.in-None.is walk)
    (subst (AllByRecursion P) c.deref.ensures.value (c.are_of_trees.ensures holds))
