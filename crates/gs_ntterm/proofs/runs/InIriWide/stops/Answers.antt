use Rattle.std.proofs.Common.{arith}
use Rattle.std.proofs.lemmas.Simd.{zip2_splat}
use Rattle.gs_ntterm.specs.Runs.{runs_in_iri, outside}
use Rattle.gs_ntterm.proofs.Lanes.{where_equal, where_below, where_at_most, either, from_splat, masked}
use Rattle.gs_ntterm.proofs.runs.InIriWide.stops.Goals as goal

pub returns : goal.returns
returns c =
    let v = c.args.v in
    let long = c.fits-v.0 in
    masked _ (outside runs_in_iri) v _ (omega arith) c.fits-v.1
    (either _ _ v (either _ _ v (either _ _ v (either _ _ v (either _ _ v (either _ _ v (either _ _ v (zip2_splat where_below v 16 33 long) (from_splat where_at_most 123 16 v long)) (zip2_splat where_equal v 16 34 long)) (zip2_splat where_equal v 16 60 long)) (zip2_splat where_equal v 16 62 long)) (zip2_splat where_equal v 16 92 long)) (zip2_splat where_equal v 16 94 long)) (zip2_splat where_equal v 16 96 long)) tt
