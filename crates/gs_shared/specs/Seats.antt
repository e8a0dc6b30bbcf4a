-- How a shared store begins, and how passes are handed out.
use Rattle.std.specs.Prelude.{◌≡◌, ℕ, ◌+◌, List, [], ◌∷◌, length}
use Rattle.gs_event.specs.Histories.{Start}
use Rattle.gs_event.specs.Views.{View}
use Rattle.gs_pass.specs.declared.records.Record.{Record}
use Rattle.gs_pass.specs.Tallies.{tally_of, IsFresh}

-- what a store shows that began so: its base and limits, and as many seats
abbrev pub BeganAs : Start → View → Type 0
BeganAs start v = (v.totals.setting ≡ start.setting) × (length v.seats ≡ start.seats)

-- P holds of the first of these at n, of the next one at n + 1, and so on
abbrev pub From : {X : Type 0} → (ℕ → X → Type 0) → ℕ → List X → Type 0
From P n [] = Unit {0}
From P n (x ∷ xs) = P n x × From P (n + 1) xs

-- the record of a pass of this seat that was told nothing
abbrev pub IsFreshOf : ℕ → Record → Type 0
IsFreshOf seat r = (r.seat ≡ seat) × IsFresh (tally_of r)
