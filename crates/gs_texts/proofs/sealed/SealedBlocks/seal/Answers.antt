use Rattle.std.proofs.Common.{[], ◌∷◌, ◌++◌, is_ok, map, ap, ◌∙◌}
use Rattle.std.specs.Arc.{arc_value}
use Rattle.std.proofs.lemmas.List.{map-append}
use Rattle.std.proofs.lemmas.Result.{err_from_is_err_and}
use Rattle.gs_texts.proofs.SealedLemmas.{same_or_clone}
use Rattle.gs_texts.proofs.sealed.SealedBlocks.seal.Goals as goal
use Rattle.gs_texts.proofs.sealed.SealedBlocks.seal.Goals.{in-Ok, in-Err}

pub returns-in_err-list-clause-sealed : goal.returns-in_err-list-clause-sealed
returns-in_err-list-clause-sealed c =
    let is = same_or_clone _ _ (rw c.in_err-list.was at c.make_mut.follows.holds-at-none) in
    rw (err_from_is_err_and c.from_residual.result c.from_residual.ensures.1).1 (is ∙ c.self.view_is)

pub returns-in_err-reserve-clause-sealed : goal.returns-in_err-reserve-clause-sealed
returns-in_err-reserve-clause-sealed c =
    let lent = c.make_mut.follows.holds c.reserve.new.self (ap is_ok c.in_ok-list.was) in
    let is = ap (map arc_value) c.reserve.ensures.items ∙ (same_or_clone _ _ (rw c.in_ok-list.was at c.make_mut.ensures.value) ∙ c.self.view_is) in
    rw ((err_from_is_err_and c.from_residual-in_err-reserve.result c.from_residual-in_err-reserve.ensures.1).1, lent) is

pub returns-clause-sealed : goal.returns-clause-sealed
returns-clause-sealed c =
    let done = ap is_ok c.in_ok-list.was in
    let is = ap (map arc_value) c.reserve.ensures.items ∙ (same_or_clone _ _ (rw c.in_ok-list.was at c.make_mut.ensures.value) ∙ c.self.view_is) in
    elim c.match-new.branch [
      | in-Ok w ↦
          let full = (rw w.in-Ok.is at c.new.ensures.ok) ∙ c.replace-full.ensures.value in
          let pushed = ap (map arc_value) w.push_reserved.ensures.items ∙ map-append arc_value c.reserve.new.self.items (w.in-Ok.full ∷ []) in
          rw (w.self-inside-is, w.result-is, c.make_mut.follows.holds w.push_reserved.new.self done) (pushed ∙ λ i. is i ++ full i ∷ [])
      | in-Err w ↦ rw (w.self-inside-is, w.result-is, c.make_mut.follows.holds c.reserve.new.self done) is
    ]
