use Rattle.std.proofs.Common.{◌+◌, ap, arith}
use Rattle.std.specs.List.{sum_by}
use Rattle.gs_chronicle.specs.Sizes.{stopped_count, triple_size}
use Rattle.gs_chronicle.proofs.sizes.list_size.Goals as goal

pub returns : goal.returns
returns c =
    let none = ap (λ ts. stopped_count (c.loop-triple.size + sum_by triple_size ts)) c.in_default.ensures.0 in
    omega (arith, none, c.loop-triple.invariant.0, c.loop-triple.invariant.1)
