use Rattle.std.proofs.Common.{◌≡◌, length, vec_capacity}
use Rattle.gs_shared.proofs.shared.rooms.Given as goal

abbrev pub invariant-loop : goal.invariant-loop
invariant-loop g l = record {
  made : length l.spaces.items ≡ l.counter;
  room : vec_capacity l.spaces ≡ vec_capacity l.initial.spaces;
}
