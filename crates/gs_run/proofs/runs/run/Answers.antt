use Rattle.std.proofs.Common.{List, [], ◌∷◌, ◌++◌, refl, sym, ap, ◌∙◌, arith, subst, take}
use Rattle.std.proofs.lemmas.Grind.{common_steps}
use Rattle.std.proofs.lemmas.List.{take_more, take_all}
use Rattle.gs_event.specs.declared.answers.Answer.{Answer}
use Rattle.gs_event.specs.Runs.{Runs}
use Rattle.gs_event.proofs.RunLemmas.{runs_more}
use Rattle.gs_run.proofs.runs.run.Goals as goal

pub loop-event-init : goal.loop-event-init
loop-event-init g c = record {
  run = subst (λ (answers : List Answer). Runs g.S.EventStore.Takes c.args.store.now [] answers c.args.store.now) (sym c.in-Ok.ensures.items) refl;
  many = grind (arith, common_steps, c.in-Ok.ensures.items);
  room = grind (arith, common_steps, c.in-Ok.ensures.exact);
}

pub loop-event-preserved : goal.loop-event-preserved
loop-event-preserved g c =
    let events = take_more c.args.events.now c.loop-event.event-index c.event-item.result c.loop-event-test.true ∙ ap (λ e. take c.loop-event.event-index c.args.events.now ++ e ∷ []) (sym c.event-item.is) in
    record {
      run =
          rw (events, c.push_reserved.ensures.items) (runs_more g.S.EventStore.Takes c.args.store.now c.loop-event.store c.step-answer.new.self (take c.loop-event.event-index c.args.events.now) c.loop-event.answers.items c.event-item.result c.step-answer.result c.loop-event.invariant.run c.step-answer.ensures.takes);
      many = grind (arith, common_steps, c.push_reserved.ensures.items);
      room = grind (arith, common_steps, c.push_reserved.ensures.capacity);
    }

pub returns-clause-ran : goal.returns-clause-ran
returns-clause-ran g c =
    subst (λ events. Runs g.S.EventStore.Takes c.args.store.now events c.loop-event.answers.items c.loop-event.store) (take_all c.loop-event.event-index c.args.events.now c.loop-event-test.false) c.loop-event.invariant.run
