use Rattle.std.proofs.Common.{ℕ, ◌∙◌, List, is_ok, map, ap, sym, subst, arith}
use Rattle.std.specs.Arc.{arc_value}
use Rattle.std.specs.Vec.{with_items}
use Rattle.std.proofs.lemmas.List.{with_items_is}
use Rattle.gs_texts.specs.Releasing.{EmptiesMarked}
use Rattle.gs_texts.proofs.ReleaseLemmas.{emptied_none}
use Rattle.gs_texts.proofs.SealedLemmas.{same_or_clone}
use Rattle.gs_texts.proofs.sealed.SealedBlocks.release.Goals as goal

pub returns-in_err-list-clause-kept : goal.returns-in_err-list-clause-kept
returns-in_err-list-clause-kept c =
    let is = same_or_clone _ _ (rw c.in_err-list.was at c.make_mut.follows.holds-at-none) ∙ c.self.view_is in
    subst (EmptiesMarked c.args.gone.now c.args.self.now) (sym is) (emptied_none c.args.gone.now c.args.self.now)

pub returns-clause-kept : goal.returns-clause-kept
returns-clause-kept c =
    let lent = c.make_mut.follows.holds (with_items c.in_ok-list.list.now c.empty_marked.new.blocks) (ap is_ok c.in_ok-list.was) in
    let is = ap (map arc_value) c.as_mut_slice.ensures.value ∙ (same_or_clone _ _ (rw c.in_ok-list.was at c.make_mut.ensures.value) ∙ c.self.view_is) in
    rw (lent, with_items_is c.in_ok-list.list.now c.empty_marked.new.blocks (omega arith)) (subst (λ (z : List (List ℕ)). EmptiesMarked c.args.gone.now z (map arc_value c.empty_marked.new.blocks)) is c.empty_marked.ensures.kept)
