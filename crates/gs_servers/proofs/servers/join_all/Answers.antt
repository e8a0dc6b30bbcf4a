use Rattle.std.proofs.Common.{◌≡◌, ◌+◌, [], ◌∷◌, ◌++◌, length, ap, ◌∙◌, sym, subst, arith, length-append}
use Rattle.gs_shared.specs.Seats.{From}
use Rattle.gs_workers.specs.Served.{IsPromised, ServedOn, WasServed}
use Rattle.gs_servers.proofs.RecordLemmas.{from_front, from_last, from_push}
use Rattle.gs_servers.proofs.servers.join_all.Goals as goal

pub push_reserved-requires : goal.push_reserved-requires
push_reserved-requires g c =
    let v = c.loop-worker.invariant in
    omega (arith, v.many, ap length c.in-Some.ensures.steps.0, v.whole, v.room, c.requires.1)

pub loop-worker-preserved : goal.loop-worker-preserved
loop-worker-preserved g c =
    let v = c.loop-worker.invariant in
    let worker = c.in-Some.worker in
    let first = worker.promise.before.value.record in
    let pass = c.join-pass.result in
    let longer = length-append c.loop-worker.yielded (worker ∷ []) in
    let more = length-append c.loop-worker.back.items (pass ∷ []) in record {
      whole = omega (arith, v.whole, ap length c.in-Some.ensures.steps.0, longer);
      room = c.push_reserved.ensures.capacity ∙ v.room;
      many = omega (arith, v.many, ap length c.push_reserved.ensures.items, longer, more);
      served = λ p promised.
          let last = from_last (λ seat w. IsPromised p seat (record { base = w.promise.plan.base.now; piece = w.promise.plan.piece }) w.promise.before.value.record) 0 c.loop-worker.yielded worker promised in
          let place : 0 + length c.loop-worker.yielded ≡ 0 + length c.loop-worker.back.items = omega (arith, v.many) in
          let was = subst (λ n. WasServed p n pass.record) place (first, last.0, subst (λ q. ServedOn q first pass.record) last.1 c.join-pass.ensures) in
          subst (From (λ seat x. WasServed p seat x.record) 0) (sym c.push_reserved.ensures.items)
          (from_push (λ seat x. WasServed p seat x.record) 0 c.loop-worker.back.items pass
          (v.served p (from_front (λ seat w. IsPromised p seat (record { base = w.promise.plan.base.now; piece = w.promise.plan.piece }) w.promise.before.value.record) 0 c.loop-worker.yielded (worker ∷ []) promised)) was);
    }
