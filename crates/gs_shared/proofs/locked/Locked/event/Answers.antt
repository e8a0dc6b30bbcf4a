use Rattle.std.proofs.Common.{◌+◌, [], ◌∷◌, ◌++◌, sym, ap, ◌∙◌}
use Rattle.gs_shared.specs.Asked.{decided_of, brought_of}
use Rattle.gs_pass.specs.Stamps.{receipt, stamp}
use Rattle.gs_pass.specs.Tallies.{tally_of, count_plus}
use Rattle.gs_shared.proofs.CountLemmas.{undecided_kept, decided_kept}
use Rattle.gs_shared.proofs.AskedLemmas.{told_decided}
use Rattle.gs_shared.proofs.StartLemmas.{began_next, own_is_there}
use Rattle.gs_shared.proofs.locked.Locked.event.Goals as goal

pub invariant_of-self : goal.invariant_of-self
invariant_of-self g c =
    let a = c.event_with-answer.result in
    let asked = sym c.requires.asked in
    let step = c.event_with-answer.ensures in
    let kept = undecided_kept 65536 4000000 _ _ _ c.args.event.now a _ _ c.brought.result _ _ _ _ _ _ step.steps.fits step.page step.staged
    (c.brought.ensures ∙ ap (λ x. brought_of x a) (sym asked)) (ap (λ x. decided_of x a) asked ∙ sym c.decided.ensures ∙ c.in-None.is)
    c.count.ensures.stamps c.count.ensures.totals.0 c.count.ensures.totals.1 c.args.self.now.tied c.args.self.now.counted in record {
      began = began_next g.B.Room.start _ _ c.args.event.now a step.steps.view c.args.self.now.began;
      tied = kept.0;
      counted = kept.1;
    }

pub invariant_of-self-in-Some : goal.invariant_of-self-in-Some
invariant_of-self-in-Some g c =
    let a = c.event_with-answer.result in
    let asked = sym c.requires.asked in
    let step = c.event_with-answer.ensures in
    let kept = decided_kept 65536 4000000 _ _ _ c.args.event.now a _ _ c.brought.result c.args.pass.now.record.seat (receipt c.last_number-number.result c.in-Some.kind c.in-Some.status) _ _ _ _ _ _
    step.steps.fits step.page step.staged c.requires.own
    (c.brought.ensures ∙ ap (λ x. brought_of x a) (sym asked)) (ap (λ x. decided_of x a) asked ∙ sym c.decided.ensures ∙ c.in-Some.is) c.last_number-number.ensures
    (c.enter.ensures.stamps ∙ (λ i. c.count.ensures.stamps i ++ stamp (c.count.ensures.seat i) (receipt c.last_number-number.result c.in-Some.kind c.in-Some.status) ∷ []))
    (c.enter.ensures.totals.0 ∙ ap (λ n. n + 1) c.count.ensures.totals.0) (c.enter.ensures.totals.1 ∙ c.count.ensures.totals.1) c.args.self.now.tied c.args.self.now.counted in record {
      began = began_next g.B.Room.start _ _ c.args.event.now a step.steps.view c.args.self.now.began;
      tied = kept.0;
      counted = kept.1;
    }

pub returns-in-Some-clause-told : goal.returns-in-Some-clause-told
returns-in-Some-clause-told g c =
    let a = c.event_with-answer.result in
    let asked = sym c.requires.asked in
    let more = c.brought.ensures ∙ ap (λ x. brought_of x a) (sym asked) in
    told_decided c.args.event.now a (tally_of c.args.pass.now.record) (tally_of c.count.new.pass.record) (tally_of c.enter.new.pass.record) (receipt c.last_number-number.result c.in-Some.kind c.in-Some.status)
    (ap (λ x. decided_of x a) asked ∙ sym c.decided.ensures ∙ c.in-Some.is) c.count.ensures.same.0 c.count.ensures.same.1 (c.count.ensures.counted ∙ ap (count_plus c.args.pass.now.record.triples) more) c.enter.ensures.entered

pub returns-in-None-clause-there : goal.returns-in-None-clause-there
returns-in-None-clause-there g c =
    own_is_there g.B.Room.start _ c.args.event.now _ _ c.args.self.now.began c.args.pass.now.seated c.requires.own c.event_with-answer.ensures.steps.fits

pub returns-in-Some-clause-there : goal.returns-in-Some-clause-there
returns-in-Some-clause-there g c =
    own_is_there g.B.Room.start _ c.args.event.now _ _ c.args.self.now.began c.args.pass.now.seated c.requires.own c.event_with-answer.ensures.steps.fits
