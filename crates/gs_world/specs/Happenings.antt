-- What came to the connections of a world, and what was done at their seats.
use Rattle.std.specs.Prelude.{◌≡◌, ℕ, nat_eq, Bool, true, false, cond, List, [], ◌∷◌, ◌++◌}
use Rattle.gs_event.specs.declared.events.Event.{Event}
use Rattle.gs_event.specs.declared.events.Event.TheVariants as event
use Rattle.gs_event.specs.declared.events.Action.TheVariants.{Cancel}
use Rattle.gs_event.specs.declared.answers.Answer.{Answer}
use Rattle.gs_event.specs.Histories.{History}
use Rattle.gs_talk.specs.Seats.{Deeds}
use Rattle.gs_session.specs.Turns.{joined_input}
use Rattle.gs_world.specs.declared.steps.WorldStep.{WorldStep}
use Rattle.gs_world.specs.declared.steps.WorldStep.TheVariants.{Bytes, Turn, End, Drop, Reclaim}

-- the steps of a world so far, the newest first
abbrev pub Past : Type 0
Past = List WorldStep

-- the step is one of this connection
abbrev pub is_step_of : ℕ → WorldStep → Bool
is_step_of c (Bytes d b) = nat_eq d c
is_step_of c (Turn d) = nat_eq d c
is_step_of c (End d) = nat_eq d c
is_step_of c (Drop d) = nat_eq d c
is_step_of c (Reclaim n) = false

-- what came to a connection
pub record Input : Type 0 where
  pub bytes : List ℕ
  pub ended : Bool
  pub is_dropped : Bool

-- nothing yet
abbrev pub no_input : Input
no_input = record { bytes = []; ended = false; is_dropped = false }

-- what a step of the connection makes of it; bytes after the end count for nothing
abbrev pub with_own : Input → WorldStep → Input
with_own i (Bytes c b) = record i { bytes = joined_input i.ended i.bytes b.items }
with_own i (Turn c) = i
with_own i (End c) = record i { ended = true }
with_own i (Drop c) = record i { is_dropped = true }
with_own i (Reclaim n) = i

-- and after a Drop so does everything
abbrev pub input_with : Input → WorldStep → Input
input_with i step = cond i.is_dropped i (with_own i step)

-- what any step makes of it
abbrev pub with_step : ℕ → Input → WorldStep → Input
with_step c i step = cond (is_step_of c step) (input_with i step) i

-- what came to the connection
abbrev pub input_of : ℕ → Past → Input
input_of c [] = no_input
input_of c (step ∷ past) = with_step c (input_of c past) step

-- what an event does at a seat
abbrev pub deed_at : ℕ → Event → Answer → Deeds
deed_at seat (event.Reclaim n) a = []
deed_at seat (event.Seat s action) a = cond (nat_eq s seat) ((action, a) ∷ []) []

-- what was done at a seat
abbrev pub deeds_at : ℕ → History → Deeds
deeds_at seat [] = []
deeds_at seat (x ∷ before) = deeds_at seat before ++ deed_at seat x.0 x.1

-- a step may make this event: a Turn one of its connection's seat, a Drop the Cancel of its connection's seat, and a Reclaim itself
abbrev pub IsOf : WorldStep → Event → Type 0
IsOf (Turn c) (event.Seat s action) = s ≡ c
IsOf (Drop c) (event.Seat s Cancel) = s ≡ c
IsOf (Reclaim n) (event.Reclaim m) = m ≡ n
IsOf step e = ⊥

-- it may make none
abbrev pub MayRest : WorldStep → Type 0
MayRest (Reclaim n) = ⊥
MayRest step = Unit {0}

-- these are the events that a step makes: one at most
abbrev pub IsMadeBy : WorldStep → History → Type 0
IsMadeBy step [] = MayRest step
IsMadeBy step (x ∷ []) = IsOf step x.0
IsMadeBy step h = ⊥

-- nothing is done at the seat of a connection that these steps dropped
abbrev pub SparesDropped : Past → History → Type 0
SparesDropped past h = (c : ℕ) → (input_of c past).is_dropped ≡ true → deeds_at c h ≡ []

-- After the earlier steps, all events are made by these, in their order, and none at the seat of a connection that was dropped by
-- then.
abbrev pub AreMadeAfter : Past → Past → History → Type 0
AreMadeAfter earlier [] h = h ≡ []
AreMadeAfter earlier (step ∷ past) h = (last : History) × (before : History) × (h ≡ last ++ before) × IsMadeBy step last
    × SparesDropped (past ++ earlier) last × AreMadeAfter earlier past before

-- all events are made so by these steps
abbrev pub AreMadeBy : Past → History → Type 0
AreMadeBy past h = AreMadeAfter [] past h

-- Once a connection is dropped nothing more is done at its seat, by whichever steps.
abbrev pub NothingFollowsADrop : Type 0
NothingFollowsADrop = (c : ℕ) (later earlier : Past) (history : History) → AreMadeBy (later ++ earlier) history → (input_of c earlier).is_dropped ≡ true
    → (more : History) × (before : History) × (history ≡ more ++ before) × AreMadeBy earlier before × (deeds_at c more ≡ [])
