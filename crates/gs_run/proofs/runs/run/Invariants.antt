use Rattle.std.proofs.Common.{◌≡◌, ◌≤◌, length, take, vec_capacity}
use Rattle.gs_event.specs.Runs.{Runs}
use Rattle.gs_run.proofs.runs.run.Given as goal

-- the answers so far are those of a run of the events so far, and there is room for the rest
abbrev pub invariant-loop-event : goal.invariant-loop-event
invariant-loop-event g l = record {
  run : Runs g.S.EventStore.Takes l.fn.store (take l.event-index l.events) l.answers.items l.store;
  many : length l.answers.items ≡ l.event-index;
  room : length l.events ≤ vec_capacity l.answers;
}
