-- What stands behind receipts.
use Rattle.std.specs.Prelude.{◌≡◌, ◌≤◌, ℕ, suc, List, [], ◌∷◌, Some, slice_get}
use Rattle.gs_pass.specs.declared.receipts.Receipt.{Receipt}
use Rattle.gs_pass.specs.declared.records.Record.{Record}
use Rattle.gs_pass.specs.declared.stamps.Stamp.{Stamp}
use Rattle.gs_pass.specs.Stamps.{stamp}

-- each receipt has a stamp of the seat among these, and the stamps' places rise from this one
abbrev pub Backed : List Stamp → ℕ → ℕ → List Receipt → Type 0
Backed all seat from [] = Unit {0}
Backed all seat from (r ∷ rs) =
    (place : ℕ) × (from ≤ place) × (slice_get all place ≡ Some (stamp seat r)) × Backed all seat (suc place) rs

-- each receipt of what a pass was told has a stamp of its seat among these, in the same order
abbrev pub IsBacked : List Stamp → Record → Type 0
IsBacked all r = Backed all r.seat 0 r.receipts.items
