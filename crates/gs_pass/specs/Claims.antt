-- The claims of a pass.
use Rattle.std.specs.Prelude.{ℕ, suc, List, [], ◌∷◌, map, take, Bool, true, ◌&&◌, ◌==◌, nat_le}
use Rattle.gs_pass.specs.declared.receipts.Receipt.{Receipt}
use Rattle.gs_pass.specs.Limits.{max_receipts}
use Rattle.gs_pass.specs.Stamps.{Claim}

-- the receipt of a claim
abbrev pub receipt_in : Claim → Receipt
receipt_in c = c.1.receipt

-- the receipts of the first of these, as many as a pass keeps
abbrev pub receipts_of : List Claim → List Receipt
receipts_of claims = map receipt_in (take max_receipts claims)

-- whether all are of the seat
abbrev pub are_of : ℕ → List Claim → Bool
are_of seat [] = true
are_of seat (c ∷ cs) = (c.1.seat == seat) && are_of seat cs

-- whether their places rise from this one
abbrev pub rises : ℕ → List Claim → Bool
rises from [] = true
rises from (c ∷ cs) = nat_le from c.0 && rises (suc c.0) cs
