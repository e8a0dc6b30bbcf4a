use Rattle.std.proofs.Common.{[], sym, ap, ◌∙◌}
use Rattle.gs_event.specs.Histories.{view_of}
use Rattle.gs_chronicle.specs.Pages.{PageView}
use Rattle.gs_shared.specs.Counts.{stamps_in}
use Rattle.gs_shared.proofs.CountLemmas.{fresh_counts}
use Rattle.gs_shared.proofs.StartLemmas.{began_new}
use Rattle.gs_shared.proofs.shared.Shared.new.Goals as goal

pub invariant_of-locked-clause-began : goal.invariant_of-locked-clause-began
invariant_of-locked-clause-began g c =
    began_new _ _ (c.in_ok-audited.ensures.view ∙ ap (λ s. view_of s []) (sym c.requires.start))

pub invariant_of-locked-clause-tied : goal.invariant_of-locked-clause-tied
invariant_of-locked-clause-tied g c =
    λ _. c.new-stamp_log.ensures.none.0 ∙ sym (ap (λ (p : PageView). stamps_in p.rows) c.in_ok-audited.ensures.page)

pub invariant_of-locked-clause-counted : goal.invariant_of-locked-clause-counted
invariant_of-locked-clause-counted g c =
    let none = c.new-stamp_log.ensures.none in
    fresh_counts 65536 4000000 _ _ _ _ _ c.in_ok-audited.ensures.page c.in_ok-audited.ensures.staged none.1 none.2
