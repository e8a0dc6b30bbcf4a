use Rattle.std.proofs.Common.{◌≡◌, ap, ◌∙◌}
use Rattle.gs_pass.specs.Tallies.{tally_of}
use Rattle.gs_gates.specs.Records.{told}
use Rattle.gs_gates.proofs.SweepLemmas.{sweeps_keep}
use Rattle.gs_gates.proofs.reclaimers.reclaim.Goals as goal

pub returns-clause-seat : goal.returns-clause-seat
returns-clause-seat g c =
    let kept = sweeps_keep c.sweep_after.new.door (λ d. d.pass.record) (λ old e a new. told old.pass.record e a new.pass.record)
    (record { to = λ old e a new given. given }) c.sweep_after.ensures.0 c.new-door.result c.sweep_after.ensures.1 in
    ap (λ p. p.record.seat) c.into_pass.ensures ∙ (kept.0 ∙ ap (λ p. p.record.seat) c.new-door.ensures)

pub returns-clause-tally : goal.returns-clause-tally
returns-clause-tally g c =
    let kept = sweeps_keep c.sweep_after.new.door (λ d. d.pass.record) (λ old e a new. told old.pass.record e a new.pass.record)
    (record { to = λ old e a new given. given }) c.sweep_after.ensures.0 c.new-door.result c.sweep_after.ensures.1 in
    ap (λ p. tally_of p.record) c.into_pass.ensures ∙ (kept.1 ∙ ap (λ p. tally_of p.record) c.new-door.ensures)
