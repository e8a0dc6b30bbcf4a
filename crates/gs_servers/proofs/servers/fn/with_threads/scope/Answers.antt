use Rattle.std.proofs.Common.{◌≡◌, ◌+◌, [], ◌∷◌, ◌++◌, length, rules, ap, ◌∙◌, sym, subst, arith, length-append}
use Rattle.gs_talk.specs.Logs.{Server}
use Rattle.gs_shared.specs.Seats.{From, IsFreshOf}
use Rattle.gs_workers.specs.Served.{IsPromised}
use Rattle.gs_servers.proofs.RecordLemmas.{all_came, from_front, from_last, from_push, move_on}
use Rattle.gs_servers.proofs.servers.fn.with_threads.scope.Goals as goal

pub push_reserved-requires : goal.push_reserved-requires
push_reserved-requires g c =
    let v = c.loop-pass.invariant in
    omega (arith, v.many, v.room, ap length c.in-Some.ensures.steps.0)

pub loop-pass-preserved : goal.loop-pass-preserved
loop-pass-preserved g c =
    let v = c.loop-pass.invariant in
    let pass = c.in-Some.pass in
    let worker = c.in_ok-worker.worker in
    let step = c.in-Some.ensures.steps.0 in
    let longer = length-append c.loop-pass.yielded (pass ∷ []) in
    let more = length-append c.loop-pass.workers.items (worker ∷ []) in
    let p : Server = record { base = c.captures.plan.base.now; piece = c.captures.plan.piece } in record {
      whole = move_on c.loop-pass.yielded pass _ ∙ (ap (λ xs. c.loop-pass.yielded ++ xs) (sym step) ∙ v.whole);
      many = omega (arith, v.many, ap length c.push_reserved.ensures.items, longer, more);
      room = omega (arith, v.room, ap length step, longer, c.push_reserved.ensures.capacity);
      promised = λ fresh.
          let was = from_last (λ seat x. IsFreshOf seat x.record) 0 c.loop-pass.yielded pass fresh in
          let same : worker.promise.before.value.record ≡ pass.record = search rules in
          let made : record { base = worker.promise.plan.base.now; piece = worker.promise.plan.piece } ≡ p = search rules in
          let place : 0 + length c.loop-pass.yielded ≡ 0 + length c.loop-pass.workers.items = omega (arith, v.many) in
          subst (From (λ seat w. IsPromised p seat (record { base = w.promise.plan.base.now; piece = w.promise.plan.piece }) w.promise.before.value.record) 0) (sym c.push_reserved.ensures.items)
          (from_push (λ seat w. IsPromised p seat (record { base = w.promise.plan.base.now; piece = w.promise.plan.piece }) w.promise.before.value.record) 0 c.loop-pass.workers.items worker
          (v.promised (from_front (λ seat x. IsFreshOf seat x.record) 0 c.loop-pass.yielded (pass ∷ []) fresh))
          (subst (λ n. IsFreshOf n worker.promise.before.value.record) place (subst (IsFreshOf (0 + length c.loop-pass.yielded)) (sym same) was), made));
    }

pub returns : goal.returns
returns g c =
    let v = c.loop-pass.invariant in
    let p : Server = record { base = c.captures.plan.base.now; piece = c.captures.plan.piece } in
    let none : length c.loop-pass.pass-iterator.rest.items ≡ 0 = search rules in
    let whole : c.loop-pass.yielded ++ c.loop-pass.pass-iterator.rest.items ≡ c.captures.passes.items = search rules in
    let all = all_came c.loop-pass.yielded c.loop-pass.pass-iterator.rest.items c.captures.passes.items none whole in record {
      many = c.join_all-back.ensures.many ∙ (v.many ∙ ap length all);
      served = λ fresh. c.join_all-back.ensures.served p (v.promised (subst (From (λ seat x. IsFreshOf seat x.record) 0) (sym all) fresh));
      last = search rules;
    }
