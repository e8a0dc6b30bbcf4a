-- As how many triples lists count that are joined.
use Rattle.std.proofs.Common.{◌≡◌, ◌+◌, List, ◌++◌, arith}
use Rattle.std.proofs.lemmas.List.Sums.{sum_by-append}
use Rattle.gs_model.specs.Triples.{RdfTriple}
use Rattle.gs_chronicle.specs.Sizes.{stopped_count, triple_size, triples_size}

-- two lists count as both do, up to the last value of a count
pub triples_size-append : (xs ys : List RdfTriple) → triples_size (xs ++ ys) ≡ stopped_count (triples_size xs + triples_size ys)
triples_size-append xs ys = omega (arith, sum_by-append triple_size xs ys)
