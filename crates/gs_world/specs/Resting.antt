-- What a turn of a connection does: an event, a text or nothing; and where it does nothing all that is to be said is written.
use Rattle.std.specs.Prelude.{◌≡◌, ◌≢◌, ◌<◌, ◌⊎◌, ℕ, false, List, [], ◌∷◌, ◌++◌, reverse}
use Rattle.gs_event.specs.declared.events.Action.{Action}
use Rattle.gs_event.specs.declared.events.Event.TheVariants.{Seat}
use Rattle.gs_event.specs.declared.answers.Answer.{Answer}
use Rattle.gs_event.specs.Histories.{History}
use Rattle.gs_event.specs.Steps.{Steps}
use Rattle.gs_talk.specs.Seats.{Deeds}
use Rattle.gs_talk.specs.Logs.{Server}
use Rattle.gs_talk.specs.Closings.{SaysAll, SaysLast}
use Rattle.gs_world.specs.declared.steps.WorldStep.{WorldStep}
use Rattle.gs_world.specs.declared.steps.WorldStep.TheVariants.{Turn}
use Rattle.gs_world.specs.declared.worlds.World.{World}
use Rattle.gs_world.specs.Happenings.{Past, Input, input_of, deeds_at}
use Rattle.gs_world.specs.Walks.{store_of, Walks}
use Rattle.gs_world.specs.Worlds.{LeadsToWorld, written_on, RunsSteps}

-- by these events each history that led to the world before the turn leads on to the world after it
abbrev pub LeadsOnBy : ℕ → History → World → World → Type 0
LeadsOnBy c more old new = (p : Server) (count : ℕ) (past : Past) (history : History) → LeadsToWorld p count old past history
    → LeadsToWorld p count new (Turn c ∷ past) (more ++ history)

-- the turn made an event, at the connection's seat, and wrote nothing
abbrev pub MakesEvent : ℕ → World → World → Type 0
MakesEvent c old new = (action : Action) × (answer : Answer) × Steps (store_of old) (Seat c action) answer (store_of new) × (written_on new c ≡ written_on old c)
    × LeadsOnBy c ((Seat c action, answer) ∷ []) old new

-- it wrote a text that is not empty, and made no event
abbrev pub WritesText : ℕ → World → World → Type 0
WritesText c old new = (text : List ℕ) × (text ≢ []) × (written_on new c ≡ written_on old c ++ text) × (store_of new ≡ store_of old) × LeadsOnBy c [] old new

-- All that is to be said to what came was written, and each settled request has its outcome, up to the first reply that closes or
-- stops. More may come; or the connection is over, as the input ended, or a reply closed or stopped.
abbrev pub SaysItsAll : Server → Input → Deeds → List ℕ → Type 0
SaysItsAll p i h w = ((i.ended ≡ false) × SaysAll p false i.bytes h w) ⊎ SaysLast p i.ended i.bytes h w

-- it is so on this connection, by each history that leads to the world
abbrev pub HasSaidAll : ℕ → World → Type 0
HasSaidAll c w = (p : Server) (count : ℕ) (past : Past) (history : History) → LeadsToWorld p count w past history
    → SaysItsAll p (input_of c past) (deeds_at c history) (written_on w c)

-- the turn made no event and wrote nothing: all that is to be said was written
abbrev pub SaysNothing : ℕ → World → World → Type 0
SaysNothing c old new = (written_on new c ≡ written_on old c) × (store_of new ≡ store_of old) × LeadsOnBy c [] old new × HasSaidAll c new

-- The last step of a run is a turn of a connection that is there and was not dropped. Then it made an event, or wrote, or all that is
-- to be said was written.
abbrev pub TurnsRestWhereAllIsSaid : Type 0
TurnsRestWhereAllIsSaid = (p : Server) (count c : ℕ) (old new : World) (past : Past) (history : History) (steps : List WorldStep)
    → LeadsToWorld p count old past history → c < count → (input_of c (reverse steps ++ past)).is_dropped ≡ false
    → RunsSteps old (steps ++ Turn c ∷ []) new
    → (mid : World) × RunsSteps old steps mid × Walks mid (Turn c) new × (MakesEvent c mid new ⊎ (WritesText c mid new ⊎ SaysNothing c mid new))
