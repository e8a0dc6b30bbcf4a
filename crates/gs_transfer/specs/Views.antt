-- What a transfer stands for, and what its parts say.
use Rattle.std.specs.Prelude.{◌≡◌, ◌≤◌, ◌<◌, ℕ, List, ◌++◌, length, take, drop}
use Rattle.gs_transfer.specs.Limits.{max_size_line_bytes}
use Rattle.gs_transfer.specs.States.{ByteStep, Passes, Fails}
use Rattle.gs_transfer.specs.Cuts.{BodyCut, Open, Faulty, Whole, ends, with_data, cut_from}
use Rattle.gs_transfer.specs.Places.{state_at_place}
use Rattle.gs_transfer.specs.declared.places.Transfer.{Transfer}
use Rattle.gs_transfer.specs.declared.transfers.Part.{Part}
use Rattle.gs_transfer.specs.declared.transfers.Part.TheVariants as part

-- what is left of a body whose transfer stands there, at the front of a text
abbrev pub cut_of : Transfer → List ℕ → BodyCut
cut_of t x = cut_from t.limit (state_at_place t.sum t.place) x

-- What a part says of the bytes at hand, however the text goes on: so many are data; so many are none; the body is over before
-- them; it has a fault; or they settle nothing, and are few.
abbrev pub Parts : Transfer → Transfer → List ℕ → Part → Type 0
Parts old new x (part.Data n) = (0 < n) × (n ≤ length x) × ((y : List ℕ) → cut_of old (x ++ y) ≡ with_data (take n x) (cut_of new (drop n x ++ y)))
Parts old new x (part.Passed n) = (0 < n) × (n ≤ length x) × ((y : List ℕ) → cut_of old (x ++ y) ≡ cut_of new (drop n x ++ y))
Parts old new x part.End = (new ≡ old) × ((y : List ℕ) → cut_of old (x ++ y) ≡ ends (Whole (x ++ y)))
Parts old new x (part.Fault status) = (y : List ℕ) → cut_of old (x ++ y) ≡ ends (Faulty status)
Parts old new x part.More = (new ≡ old) × (length x < max_size_line_bytes) × (cut_of old x ≡ ends Open)

-- what the LF of a size line of so many bytes does is told: it is passed, or the fault
abbrev pub IsSized : Transfer → Transfer → ℕ → ByteStep → Part → Type 0
IsSized old new n (Passes s) (part.Passed m) = (m ≡ n) × (new.limit ≡ old.limit) × (state_at_place new.sum new.place ≡ s)
IsSized old new n (Fails status) (part.Fault told) = told ≡ status
IsSized old new n s p = ⊥
