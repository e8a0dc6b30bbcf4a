use Rattle.std.proofs.Common.{◌≡◌, length, arith, ap}
use Rattle.std.proofs.lemmas.List.Sorted.{IsPermutation-swap, IsPermutation-trans, length_permutation}
use Rattle.gs_match.proofs.arrangement.known_first.Goals as goal

pub loop-i-preserved : goal.loop-i-preserved
loop-i-preserved c =
    let old = c.loop-i.new.items in
    let many : length old ≡ length c.args.patterns.now = length_permutation c.args.patterns.now old c.loop-i.invariant in
    IsPermutation-trans c.args.patterns.now old c.swap.new.self.items c.loop-i.invariant
    (IsPermutation-swap old c.swap.new.self.items c.loop-i.i c.next_at-best.result (omega (arith, many, ap length c.in_ok-new.ensures.items))
    (omega (arith, ap length c.as_slice.ensures.value)) c.swap.ensures.items)
