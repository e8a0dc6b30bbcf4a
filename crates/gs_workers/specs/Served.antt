-- What the passes of workers are told.
use Rattle.std.specs.Prelude.{◌≡◌, ℕ, List, take}
use Rattle.gs_talk.specs.Logs.{Server}
use Rattle.gs_pass.specs.declared.records.Record.{Record}
use Rattle.gs_shared.specs.Seats.{From, IsFreshOf}
use Rattle.gs_workers.specs.Attends.{ServesMany}
use Rattle.gs_gates.specs.Records.{told}

-- connections of the pass's seat were served, one after the other, between what it was told at first and in the end
abbrev pub ServedOn : Server → Record → Record → Type 0
ServedOn p first last = (n : ℕ) × ServesMany p told first.seat n first last

-- a promise that connections will be served as `made` says is one of p, from a pass of this seat that was told nothing
abbrev pub IsPromised : Server → ℕ → Server → Record → Type 0
IsPromised p seat made first = IsFreshOf seat first × (made ≡ p)

-- connections were served, from a pass of this seat that was told nothing
abbrev pub WasServed : Server → ℕ → Record → Type 0
WasServed p seat last = (first : Record) × IsFreshOf seat first × ServedOn p first last

-- the first so many of these were told exactly that, each as the pass of its own seat
abbrev pub WereServed : Server → ℕ → List Record → Type 0
WereServed p n records = From (WasServed p) 0 (take n records)
