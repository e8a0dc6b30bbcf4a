-- What an answered event makes of the tally of a pass.
use Rattle.std.specs.Prelude.{◌≡◌, ◌≢◌, ℕ, Bool, false, not, nat_eq, MatchBool}
use Rattle.gs_model.specs.declared.refusals.Refusal.TheVariants.{BadSeat}
use Rattle.gs_event.specs.declared.events.Event.{Event}
use Rattle.gs_event.specs.declared.events.Event.TheVariants.{Seat as At, Reclaim}
use Rattle.gs_event.specs.declared.answers.Answer.{Answer}
use Rattle.gs_event.specs.declared.answers.Answer.TheVariants.{Refused}
use Rattle.gs_pass.specs.declared.records.Record.{Record}
use Rattle.gs_pass.specs.Tallies.{Tally, tally_of, Told}

-- whether the event is an action of another seat than this one
abbrev pub is_of_another : ℕ → Event → Bool
is_of_another seat (At s action) = not (nat_eq s seat)
is_of_another seat (Reclaim n) = false

-- what an answered event of its own seat makes of a tally; a Reclaim makes nothing
abbrev pub ToldBy : Event → Answer → Tally → Tally → Type 0
ToldBy (At s action) a v w = Told action a v w
ToldBy (Reclaim n) a v w = w ≡ v

-- what an event of its own seat makes of a tally, with an answer that knows the seat
abbrev pub ToldOwn : Event → Answer → Tally → Tally → Type 0
ToldOwn e a v w = (a ≢ Refused BadSeat) × ToldBy e a v w

-- What an answered event makes of what a pass was told. The seat stays. An action of another seat is refused with BadSeat,
-- which no other event is, and makes nothing.
abbrev pub Tells : Event → Answer → Record → Record → Type 0
Tells e a r s =
    (s.seat ≡ r.seat)
    × MatchBool (is_of_another r.seat e) ((a ≡ Refused BadSeat) × (tally_of s ≡ tally_of r)) (ToldOwn e a (tally_of r) (tally_of s))
