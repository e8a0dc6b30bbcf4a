use Rattle.std.proofs.Common.{◌≡◌, ℕ, List, length}
use Rattle.gs_upload.specs.Readings.{FeedsEach, IsClosedReading}
use Rattle.gs_upload.proofs.CuttingLemmas.{Cutting}
use Rattle.gs_upload.proofs.readings.Reading.feed_each.Given as goal

abbrev pub invariant-loop-rest : goal.invariant-loop-rest
invariant-loop-rest g l = (pieces : List (List ℕ)) × Cutting l.length l.text l.rest pieces
    × FeedsEach g.R.BodyReader.meaning_of g.R.BodyReader.Leads g.R.BodyReader.is_closed l.fn.self l.self pieces l.fn.triples.items l.triples.items
    × (IsClosedReading g.R.BodyReader.is_closed l.fn.self → l.self ≡ l.fn.self)

abbrev pub decreases-loop-rest : goal.decreases-loop-rest
decreases-loop-rest g l = length l.rest
