-- What contracts see of the parts of a new Shared.
use Rattle.std.specs.Prelude.{◌≡◌, ◌<◌, ℕ, ◌+◌}
use Rattle.std.specs.declared.sync.ledger.Blank.{Blank}
use Rattle.atomic_table.specs.Seated.{TableId}
use Rattle.gs_shared.specs.declared.parts.SharedParts.{SharedParts}

-- the ghost members of a CountedLedger
abbrev pub LedgerNames : Type 0
LedgerNames = record { name : ℕ; parts : ℕ; all : ℕ }

-- each of both ledgers has one part more than there are seats
abbrev pub AreForSeats : ℕ → SharedParts → Type 0
AreForSeats seats p = (p.calls.parts ≡ seats + 1) × (p.triples.parts ≡ seats + 1)

-- a ledger is the one that is named so, and has more parts than there are seats
abbrev pub IsNamedBy : LedgerNames → ℕ → Blank → Type 0
IsNamedBy l seats b = (b.name ≡ l.name) × (b.parts ≡ l.parts) × (l.all ≡ l.parts) × (seats < l.all)

-- both ledgers, of calls and of triples, are named so, with more parts than there are seats, and so is the cell
abbrev pub AreNamedBy : (calls triples : LedgerNames) → TableId → ℕ → SharedParts → Type 0
AreNamedBy calls triples cell seats p = IsNamedBy calls seats p.calls × IsNamedBy triples seats p.triples × (p.cell.table.shared.table_id ≡ cell)
