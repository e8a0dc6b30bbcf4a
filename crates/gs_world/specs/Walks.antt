-- What the steps of a world make of it.
use Rattle.std.specs.Prelude.{◌≡◌, ℕ, true, List, [], ◌∷◌, ◌++◌, Vec, Option, Some, None, MatchOption}
use Rattle.std.specs.List.{slice_get, slice_set}
use Rattle.std.specs.declared.alloc.Global.{Global}
use Rattle.gs_event.specs.declared.events.Event.TheVariants as event
use Rattle.gs_event.specs.declared.answers.Answer.{Answer}
use Rattle.gs_event.specs.Waste.{Shown}
use Rattle.gs_event.specs.Steps.{Steps}
use Rattle.gs_talk.specs.Seats.{Deeds}
use Rattle.gs_session.specs.declared.sessions.Session.{Session}
use Rattle.gs_session.specs.declared.sessions.Turn as turn
use Rattle.gs_session.specs.declared.sessions.Turn.TheVariants.{Output}
use Rattle.gs_session.specs.Turns.{setup_of, is_input_ended, Leads, IsKept, MakesTurn, RestsRightly, Quits, joined_input}
use Rattle.gs_world.specs.declared.connections.Connection.{Connection}
use Rattle.gs_world.specs.declared.steps.WorldStep.{WorldStep}
use Rattle.gs_world.specs.declared.steps.WorldStep.TheVariants.{Bytes, Turn, End, Drop, Reclaim}
use Rattle.gs_world.specs.declared.worlds.World.{World}
use Rattle.gs_world.specs.Happenings.{is_step_of}

-- the session of a connection, none after it was given up
abbrev pub session_of : Connection → Option Session
session_of k = k.session

-- what was written on a connection
abbrev pub bytes_written : Connection → List ℕ
bytes_written k = k.written.items

-- what the store of a world shows
abbrev pub store_of : World → Shown
store_of w = w.store

-- what a turn has to be written
abbrev pub turn_text : turn.Turn → List ℕ
turn_text (Output b) = b.items
turn_text t = []

-- the seat, the base and the lines a piece are as they were
abbrev pub HasSameSetup : Session → Session → Type 0
HasSameSetup s next = setup_of next ≡ setup_of s

-- these bytes came to the session, unless its input had ended
abbrev pub BytesCame : List ℕ → Session → Session → Type 0
BytesCame b s next = ((x : List ℕ) (h : Deeds) (w : List ℕ) → Leads s x h w → Leads next (joined_input (is_input_ended s) x b) h w)
    × HasSameSetup s next × (is_input_ended next ≡ is_input_ended s)

-- no more bytes come to it
abbrev pub HasInputEnded : Session → Session → Type 0
HasInputEnded s next = IsKept s next × HasSameSetup s next × (is_input_ended next ≡ true)

-- it took this turn at the store
abbrev pub TakesTurn : Session → Shown → turn.Turn → Session → Shown → Type 0
TakesTurn s old t next new = MakesTurn Steps s old t next new × RestsRightly t next × HasSameSetup s next × (is_input_ended next ≡ is_input_ended s)

-- its session is now this one, and this was written
abbrev pub Becomes : Connection → Session → List ℕ → Type 0
Becomes k next w = (session_of k ≡ Some next) × (bytes_written k ≡ w)

-- bytes came to a connection; to one that was given up they did not
abbrev pub Gets : List ℕ → Connection → Connection → Type 0
Gets b k k2 = MatchOption (session_of k) (k2 ≡ k) (λ s. (next : Session) × Becomes k2 next (bytes_written k) × BytesCame b s next)

-- its input ended
abbrev pub InputEnds : Connection → Connection → Type 0
InputEnds k k2 = MatchOption (session_of k) (k2 ≡ k) (λ s. (next : Session) × Becomes k2 next (bytes_written k) × HasInputEnded s next)

-- the store stays as it is
abbrev pub Apart : (Connection → Connection → Type 0) → Connection → Shown → Connection → Shown → Type 0
Apart Holds k old k2 new = Holds k k2 × (new ≡ old)

-- one that was given up stays as it is, and so does the store
abbrev pub StaysGone : Connection → Shown → Connection → Shown → Type 0
StaysGone k old k2 new = (k2 ≡ k) × (new ≡ old)

-- it took a turn, whose text was written
abbrev pub MovesOn : Connection → Shown → Connection → Shown → Type 0
MovesOn k old k2 new = MatchOption (session_of k) (StaysGone k old k2 new)
    (λ s. (t : turn.Turn) × (next : Session) × Becomes k2 next (bytes_written k ++ turn_text t) × TakesTurn s old t next new)

-- it took a turn, whose text could not be written
abbrev pub CannotWrite : Connection → Shown → Connection → Shown → Type 0
CannotWrite k old k2 new = (s : Session) × (session_of k ≡ Some s) × (b : Vec ℕ Global) × (next : Session) × Becomes k2 next (bytes_written k)
    × TakesTurn s old (Output b) next new

-- it was given up
abbrev pub LeavesSeat : Connection → Shown → Connection → Shown → Type 0
LeavesSeat k old k2 new = MatchOption (session_of k) (StaysGone k old k2 new)
    (λ s. (session_of k2 ≡ None) × (bytes_written k2 ≡ bytes_written k) × Quits Steps s old new)

-- of the connections, this one alone may have changed, and this holds of it; one that is not there changes nothing
abbrev pub ChangesOne : ℕ → World → World → (Connection → Shown → Connection → Shown → Type 0) → Type 0
ChangesOne c old new Holds =
    MatchOption (slice_get old.connections.items c) (new ≡ old)
    (λ k. (k2 : Connection) × (new.connections.items ≡ slice_set old.connections.items c k2) × Holds k (store_of old) k2 (store_of new))

-- the store freed nodes and records
abbrev pub FreesNodes : ℕ → World → World → Type 0
FreesNodes n old new = (a : Answer) × Steps (store_of old) (event.Reclaim n) a (store_of new) × (new.connections.items ≡ old.connections.items)

-- what a step makes of a world
abbrev pub Walks : World → WorldStep → World → Type 0
Walks old (Bytes c b) new = ChangesOne c old new (Apart (Gets b.items))
Walks old (Turn c) new = ChangesOne c old new MovesOn
Walks old (End c) new = ChangesOne c old new (Apart InputEnds)
Walks old (Drop c) new = ChangesOne c old new LeavesSeat
Walks old (Reclaim n) new = FreesNodes n old new

-- what these steps do, one after another
abbrev pub WalksAll : World → List WorldStep → World → Type 0
WalksAll old [] new = new ≡ old
WalksAll old (step ∷ steps) new = (mid : World) × Walks old step mid × WalksAll mid steps new

-- it was not given up before
abbrev pub IsLive : Connection → Shown → Type 0
IsLive k shown = (s : Session) × (session_of k ≡ Some s)

-- its next turn has a text that could not be written
abbrev pub HasText : Connection → Shown → Type 0
HasText k shown = (k1 : Connection) × (mid : Shown) × CannotWrite k shown k1 mid

-- A step of the connection may be refused for want of memory: bytes for its session, or a turn whose text is to be written.
abbrev pub MayWant : WorldStep → Connection → Shown → Type 0
MayWant (Bytes c b) k shown = IsLive k shown
MayWant (Turn c) k shown = HasText k shown
MayWant step k shown = ⊥

-- a connection that is there, and of which this holds, was given up
abbrev pub IsGivenUp : ℕ → World → World → (Connection → Shown → Type 0) → Type 0
IsGivenUp c old new Holds = (k : Connection) × (slice_get old.connections.items c ≡ Some k) × Holds k (store_of old) × ChangesOne c old new LeavesSeat

-- the step was refused, and its connection given up in its place
abbrev pub RefusesStep : ℕ → World → WorldStep → World → Type 0
RefusesStep c old step new = (is_step_of c step ≡ true) × IsGivenUp c old new (MayWant step)
