use Rattle.std.proofs.Common.{◌≡◌, ◌+◌, length, vec_capacity}
use Rattle.gs_talk.specs.Logs.{Server}
use Rattle.gs_shared.specs.Seats.{From}
use Rattle.gs_workers.specs.Served.{IsPromised, WasServed}
use Rattle.gs_servers.proofs.servers.join_all.Given as goal

abbrev pub invariant-loop-worker : goal.invariant-loop-worker
invariant-loop-worker g l = record {
  whole : length l.yielded + length l.worker-iterator.rest.items ≡ length l.fn.workers.items;
  room : vec_capacity l.back ≡ vec_capacity l.fn.back;
  many : length l.back.items ≡ length l.yielded;
  served : (p : Server)
      → From (λ seat w. IsPromised p seat (record { base = w.promise.plan.base.now; piece = w.promise.plan.piece }) w.promise.before.value.record) 0 l.yielded
      → From (λ seat x. WasServed p seat x.record) 0 l.back.items;
}
