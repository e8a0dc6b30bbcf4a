-- What stands in a world after its steps, and what that says of its connections.
use Rattle.std.specs.Prelude.{◌≡◌, ◌≤◌, ◌<◌, ◌⊎◌, ℕ, true, false, List, [], ◌∷◌, ◌++◌, length, reverse, take, Option, Some, None, MatchOption}
use Rattle.std.specs.List.{slice_get}
use Rattle.gs_core.specs.Settings.{start_at}
use Rattle.gs_event.specs.Phases.{Idle}
use Rattle.gs_event.specs.Histories.{History, Start, IsLegal, view_of, pinned_of}
use Rattle.gs_stream.specs.Requests.{requests}
use Rattle.gs_talk.specs.Seats.{Deeds, asked_in}
use Rattle.gs_talk.specs.Points.{ArePointsOf}
use Rattle.gs_talk.specs.Logs.{Server, Talk}
use Rattle.gs_talk.specs.Closings.{SaysFront}
use Rattle.gs_talk.specs.Laws.{HasMisfit, AreOfKind, IsIdle}
use Rattle.gs_session.specs.declared.sessions.Session.{Session}
use Rattle.gs_session.specs.Steps.{server_of}
use Rattle.gs_session.specs.Turns.{setup_of, seat_of, is_input_ended, Leads}
use Rattle.gs_world.specs.declared.connections.Connection.{Connection}
use Rattle.gs_world.specs.declared.steps.WorldStep.{WorldStep}
use Rattle.gs_world.specs.declared.steps.WorldStep.TheVariants.{Drop}
use Rattle.gs_world.specs.declared.worlds.World.{World}
use Rattle.gs_world.specs.Happenings.{Past, Input, no_input, input_of, deeds_at, AreMadeAfter, AreMadeBy}
use Rattle.gs_world.specs.Merging.{IsMerged}
use Rattle.gs_world.specs.Walks.{session_of, bytes_written, store_of, WalksAll, RefusesStep}

-- what came, was done and was written leads to the session
pub record LeadsToSession (p : Server) (seat : ℕ) (i : Input) (h : Deeds) (w : List ℕ) (s : Session) : Type 0 where
  pub leads : Leads s i.bytes h w
  pub ended : is_input_ended s ≡ i.ended
  pub server : server_of (setup_of s) ≡ p
  pub seat_is : seat_of s ≡ seat
  pub live : i.is_dropped ≡ false

-- the connection was given up: what was written is a prefix of what was to be said, and its seat was left idle
pub record HasLeft (p : Server) (seat : ℕ) (i : Input) (h : Deeds) (w : List ℕ) : Type 0 where
  pub front : SaysFront p i.ended i.bytes h w
  pub idle : AreOfKind seat h → IsIdle h
  pub dropped : i.is_dropped ≡ true

-- either
abbrev pub HoldsTo : Server → ℕ → Input → Deeds → Connection → Type 0
HoldsTo p seat i h k = MatchOption (session_of k) (HasLeft p seat i h (bytes_written k)) (LeadsToSession p seat i h (bytes_written k))

-- so many connections to which nothing came yet, each at the seat of its number
pub record AreFresh (p : Server) (count : ℕ) (ks : List Connection) : Type 0 where
  pub many : length ks ≡ count
  pub each : (c : ℕ) (k : Connection) → slice_get ks c ≡ Some k → HoldsTo p c no_input [] k

-- how the store of a world begins
abbrev pub world_start : Server → ℕ → Start
world_start p count = start_at count p.base 0 0

-- These steps, the newest first, and this history lead to the world: so many connections, each at the seat of its number.
pub record LeadsToWorld (p : Server) (count : ℕ) (w : World) (past : Past) (history : History) : Type 0 where
  pub lines : 1 ≤ p.piece
  pub many : length w.connections.items ≡ count
  pub made : AreMadeBy past history
  pub legal : IsLegal (world_start p count) history
  pub view : (store_of w).view ≡ view_of (world_start p count) history
  pub pinned : (store_of w).pinned ≡ pinned_of (world_start p count) history
  pub each : (c : ℕ) (k : Connection) → slice_get w.connections.items c ≡ Some k → HoldsTo p c (input_of c past) (deeds_at c history) k

-- what was written on a connection, nothing where there is none
abbrev pub text_written : Option Connection → List ℕ
text_written None = []
text_written (Some k) = bytes_written k

-- what was written on the connection of this number
abbrev pub written_on : World → ℕ → List ℕ
written_on w c = text_written (slice_get w.connections.items c)

-- What came to one of many connections (i), what was done at its seat (h) and what was written on it (w) go together.
pub record IsServed (p : Server) (i : Input) (h : Deeds) (w : List ℕ) : Type 0 where
  -- what was written is a prefix of what is to be said
  pub front : SaysFront p i.ended i.bytes h w
  -- what the abstract store was asked is what the requests ask, in their order
  pub points : ArePointsOf p.base (requests p.base i.bytes) (asked_in Idle h)
  -- no event was out of its phase, or at a seat that is not there
  pub fits : HasMisfit h → ⊥

-- nothing is left to be done for a connection: it was dropped, or each request was answered
abbrev pub IsDone : Server → Input → Deeds → Type 0
IsDone p i h = (i.is_dropped ≡ true) ⊎ ((said : List ℕ) × Talk p i.ended i.bytes h said [])

-- Bytes to bytes over many connections: the events of all seats and their answers, made by the steps, are one legal history, which
-- the store shows; what it asks of the abstract store is a merging of what the seats asked; each connection is served as if it were
-- the only one; and a seat for which nothing is left is idle.
pub record ServesAll (p : Server) (count : ℕ) (w : World) (past : Past) (history : History) : Type 0 where
  pub made : AreMadeBy past history
  pub legal : IsLegal (world_start p count) history
  pub view : (store_of w).view ≡ view_of (world_start p count) history
  pub merged : IsMerged count history
  pub served : (c : ℕ) → c < count → IsServed p (input_of c past) (deeds_at c history) (written_on w c)
  pub idle : (c : ℕ) → c < count → IsDone p (input_of c past) (deeds_at c history) → slice_get (store_of w).view.seats c ≡ Some Idle

-- A run: the steps were taken; and from each history that led to the world before, one leads on to the world after them, by events
-- that these steps made after those before, and by which all are served.
abbrev pub RunsSteps : World → List WorldStep → World → Type 0
RunsSteps old steps new = WalksAll old steps new
    × ((p : Server) (count : ℕ) (past : Past) (history : History) → LeadsToWorld p count old past history
    → (more : History) × AreMadeAfter past (reverse steps) more × LeadsToWorld p count new (reverse steps ++ past) (more ++ history)
    × ServesAll p count new (reverse steps ++ past) (more ++ history))

-- The first n steps were taken, and the next one was refused; so it is as if its connection had been dropped in its place.
abbrev pub IsCutAt : World → List WorldStep → World → Type 0
IsCutAt old steps new = (n : ℕ) × (c : ℕ) × (step : WorldStep) × (mid : World) × (slice_get steps n ≡ Some step) × WalksAll old (take n steps) mid
    × RefusesStep c mid step new × RunsSteps old (take n steps ++ Drop c ∷ []) new
