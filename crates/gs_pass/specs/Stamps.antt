-- What the tokens of a cell know of the stamps that were set in it, and how the cell's steps change it.
use Rattle.std.specs.Prelude.{◌≡◌, ℕ, List, [], ◌∷◌, ◌++◌, length, Some, slice_get, slice_index, true, false}
use mathlib.Core.Option.{some}
use lib.ListN.{get_elem?}
use Rattle.gs_chronicle.specs.declared.kinds.ActionKind.{ActionKind}
use Rattle.gs_pass.specs.declared.knowledge.Knowledge.{Knowledge}
use Rattle.gs_pass.specs.declared.receipts.Receipt.{Receipt}
use Rattle.gs_pass.specs.declared.stamps.Stamp.{Stamp}
use Rattle.gs_pass.specs.Kinds.{kind_of_code}

-- a receipt of these parts
abbrev pub receipt : ℕ → ActionKind → ℕ → Receipt
receipt number kind status = record { number = number; kind = kind; status = status }

-- the stamp of a seat's deciding call
abbrev pub stamp : ℕ → Receipt → Stamp
stamp seat r = record { seat = seat; receipt = r }

-- the stamp that four words say: number, seat, kind and status
abbrev pub stamp_of : List ℕ → Stamp
stamp_of words = stamp (slice_index words 1) (receipt (slice_index words 0) (kind_of_code (slice_index words 2)) (slice_index words 3))

-- a stamp with its place among all
abbrev pub Claim : Type 0
Claim = ℕ × Stamp

-- knows all stamps, and claims some
abbrev pub keeper : List Stamp → List Claim → Knowledge
keeper all claims = record { keeps = true; all = all; claims = claims }

-- only claims some
abbrev pub claimant : List Claim → Knowledge
claimant claims = record { keeps = false; all = []; claims = claims }

-- each claim's stamp stands at its place among these
abbrev pub StandIn : List Stamp → List Claim → Type 0
StandIn all [] = Unit {0}
StandIn all (c ∷ cs) = (slice_get all c.0 ≡ Some c.1) × StandIn all cs

-- there is one list of all stamps: one token at most knows it, and each claim of each token stands in it
abbrev pub KnowOneList : List ℕ → List Knowledge → Type 0
KnowOneList words tokens =
    (by : ℕ)
    × (all : List Stamp)
    × ((i : ℕ) (k : Knowledge) → get_elem? tokens i ≡ some k → (k.keeps ≡ true → (i ≡ by) × (k.all ≡ all)) × StandIn all k.claims)

-- the keeper adds the stamp that it writes, and claims it; its other claims stand
abbrev pub Appended : Knowledge → List ℕ → List ℕ → Knowledge → Type 0
Appended k before after l =
    (l ≡ record { keeps = k.keeps; all = k.all ++ stamp_of after ∷ []; claims = k.claims ++ (length k.all, stamp_of after) ∷ [] }) × StandIn k.all k.claims

-- the keeper's claims stand
abbrev pub Compared : Knowledge → List ℕ → List ℕ → Knowledge → Type 0
Compared k before after l = (l ≡ k) × StandIn k.all k.claims

-- the same with no claims
abbrev pub without_claims : Knowledge → Knowledge
without_claims k = record { keeps = k.keeps; all = k.all; claims = [] }

-- the claims and nothing else
abbrev pub claims_alone : Knowledge → Knowledge
claims_alone k = claimant k.claims

-- the same with the claims of another in place of its own
abbrev pub with_claims_of : Knowledge → Knowledge → Knowledge
with_claims_of k l = record { keeps = k.keeps; all = k.all; claims = l.claims }
