use Rattle.std.proofs.Common.{◌≡◌, ◌+◌, length, vec_capacity}
use Rattle.gs_shared.specs.Seats.{From, IsFreshOf}
use Rattle.gs_shared.proofs.shared.Shared.handed_out.Given as goal

abbrev pub invariant-loop : goal.invariant-loop
invariant-loop g l = record {
  left : length l.spaces.items + l.counter ≡ length l.fn.spaces.items;
  made : length l.passes.items ≡ l.counter;
  room : vec_capacity l.passes ≡ vec_capacity l.fn.passes;
  handed : l.self.handed ≡ l.fn.self.handed + l.counter;
  seats : l.self.seats ≡ l.fn.self.seats;
  from : From (λ seat p. IsFreshOf seat p.record) l.fn.self.handed l.passes.items;
}
