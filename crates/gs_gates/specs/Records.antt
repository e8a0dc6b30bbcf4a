-- What the passes of a server are told, and what is known of them at the end.
use Rattle.std.specs.Prelude.{◌≡◌, ℕ, ◌+◌, List, length, Some}
use Rattle.std.specs.List.{slice_get}
use Rattle.gs_event.specs.declared.events.Event.{Event}
use Rattle.gs_event.specs.declared.answers.Answer.{Answer}
use Rattle.gs_door.specs.Kinds.{IsOfKind}
use Rattle.gs_pass.specs.declared.records.Record.{Record}
use Rattle.gs_pass.specs.Tallies.{tally_of, IsFresh}
use Rattle.gs_shared.specs.Seats.{From}
use Rattle.gs_shared.specs.Tells.{Tells}

-- the answer is one of the event's, and this is what a pass was told before and after it
abbrev pub told : Record → Event → Answer → Record → Type 0
told r e a s = IsOfKind e a × Tells e a r s

-- the same seat, receipts and counts
abbrev pub IsAsBefore : Record → Record → Type 0
IsAsBefore r s = (s.seat ≡ r.seat) × (tally_of s ≡ tally_of r)

-- one record for each of so many seats from 0 on, in their order
abbrev pub AreOfSeats : ℕ → List Record → Type 0
AreOfSeats n records = (length records ≡ n) × From (λ seat r. r.seat ≡ seat) 0 records

-- the pass at this place was told nothing: it has no receipts, and its counts are 0
abbrev pub IsFreshAt : ℕ → List Record → Type 0
IsFreshAt n records = (r : Record) → slice_get records n ≡ Some r → IsFresh (tally_of r)
