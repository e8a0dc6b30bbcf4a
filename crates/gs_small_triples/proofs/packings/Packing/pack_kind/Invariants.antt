use Rattle.std.proofs.Common.{◌≡◌, ◌<◌, ℕ, false, length, get_or}
use Rattle.gs_small_triples.specs.Packed.{IsPlaced, StayPlaced}
use Rattle.gs_small_triples.proofs.packings.Packing.pack_kind.Given as goal

abbrev pub invariant-loop-number : goal.invariant-loop-number
invariant-loop-number l = record {
  noted : length l.self.places.items ≡ length l.terms;
  placed : (k : ℕ) → k < l.number → get_or l.flags k false ≡ l.flag → IsPlaced l.terms l.self k;
  stay : StayPlaced l.terms l.fn.self l.self;
}
