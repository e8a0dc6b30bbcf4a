use Rattle.std.proofs.Common.{◌-◌, ◌≤◌, length, take}
use Rattle.gs_machine.specs.Machines.{steps}
use Rattle.gs_ntread.specs.Reader.{ntriples}
use Rattle.gs_ntread.specs.Readers.{Advances, led_of}
use Rattle.gs_ntread.proofs.reader.NTriplesReader.take_all.Given as goal

abbrev pub invariant-loop-at : goal.invariant-loop-at
invariant-loop-at l = record {
  within : l.at ≤ length l.piece;
  taken : Advances l.fn.self l.self l.fn.triples.items l.triples.items (steps (ntriples l.fn.self.request) (led_of l.fn.self) (take l.at l.piece));
}

abbrev pub decreases-loop-at : goal.decreases-loop-at
decreases-loop-at l = length l.piece - l.at
