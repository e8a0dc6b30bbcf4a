use Rattle.std.proofs.Common.{◌≡◌, ◌+◌, ◌≤◌, ◌++◌, length, vec_capacity}
use Rattle.gs_shared.specs.Seats.{From, IsFreshOf}
use Rattle.gs_workers.specs.Served.{IsPromised}
use Rattle.gs_servers.proofs.servers.fn.with_threads.scope.Given as goal

abbrev pub invariant-loop-pass : goal.invariant-loop-pass
invariant-loop-pass g l = record {
  whole : l.yielded ++ l.pass-iterator.rest.items ≡ l.initial.pass-iterator.rest.items;
  many : length l.workers.items ≡ length l.yielded;
  room : length l.yielded + length l.pass-iterator.rest.items ≤ vec_capacity l.workers;
  promised : From (λ seat x. IsFreshOf seat x.record) 0 l.yielded
      → From (λ seat w. IsPromised (record { base = l.plan.base.now; piece = l.plan.piece }) seat
      (record { base = w.promise.plan.base.now; piece = w.promise.plan.piece }) w.promise.before.value.record) 0 l.workers.items;
}
