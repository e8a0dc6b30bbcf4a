-- One group more is alike.
use Rattle.std.proofs.Common.{◌≡◌, ℕ, ◌+◌, List, take, drop, arith}
use Rattle.std.proofs.Math.Seq.{take-add}
use Rattle.gs_packed_texts.proofs.places.same_groups.Goals as goal

-- two lists begin alike, so far and then some more
take_more_alike : (xs ys : List ℕ) (i n j : ℕ) → j ≡ i + n → take i xs ≡ take i ys → take n (drop i xs) ≡ take n (drop i ys) → take j xs ≡ take j ys
take_more_alike xs ys i n j e front more = rw (e, take-add i n xs, take-add i n ys, front, more)

pub loop-group-preserved : goal.loop-group-preserved
loop-group-preserved c =
    take_more_alike _ _ _ 8 _ (omega arith) c.loop-group.invariant (c.is_same_group.ensures c.if-not-is_same_group.false)
