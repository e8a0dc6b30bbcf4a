use Rattle.std.proofs.Common.{◌≡◌, ◌≤◌, map, take}
use Rattle.gs_small_triples.specs.Kept.{numbers_in, width, moved}
use Rattle.gs_small_triples.proofs.packings.Packing.numbers.Given as goal

abbrev pub invariant-loop-three : goal.invariant-loop-three
invariant-loop-three l = record {
  kept : numbers_in l.kept ≡ map (moved l.self.places.items) (take l.three-index l.numbers);
  wide : l.self.count ≤ width l.kept;
}
