use Rattle.std.proofs.Common.{arith}
use Rattle.std.proofs.lemmas.Simd.{zip2_splat}
use Rattle.gs_ntterm.specs.Runs.{runs_in_string, outside}
use Rattle.gs_ntterm.proofs.Lanes.{where_equal, where_at_most, either, from_splat, masked}
use Rattle.gs_ntterm.proofs.runs.InStringWide.stops.Goals as goal

pub returns : goal.returns
returns c =
    let v = c.args.v in
    let long = c.fits-v.0 in
    masked _ (outside runs_in_string) v _ (omega arith) c.fits-v.1
    (either _ _ v (either _ _ v (either _ _ v (either _ _ v (from_splat where_at_most 128 16 v long) (zip2_splat where_equal v 16 34 long)) (zip2_splat where_equal v 16 92 long)) (zip2_splat where_equal v 16 10 long)) (zip2_splat where_equal v 16 13 long)) tt
