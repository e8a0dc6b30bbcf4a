-- What a step of a session does: at most one event.
use Rattle.std.specs.Prelude.{◌≡◌, ◌<◌, ℕ, ◌+◌, ◌*◌, Bool, false, List, [], ◌∷◌, ◌++◌, length, drop}
use Rattle.gs_event.specs.declared.events.Event.{Event}
use Rattle.gs_event.specs.declared.events.Event.TheVariants.{Seat}
use Rattle.gs_event.specs.declared.events.Action.{Action}
use Rattle.gs_event.specs.declared.answers.Answer.{Answer}
use Rattle.gs_transfer.specs.Cuts as cut
use Rattle.gs_transfer.specs.Cuts.{ends, with_data}
use Rattle.gs_transfer.specs.Views.{cut_of}
use Rattle.gs_transfer.specs.declared.places.Transfer.{Transfer}
use Rattle.gs_door.specs.Kinds.{IsOfKind}
use Rattle.gs_stream.specs.Heads.{stripped, head_at}
use Rattle.gs_stream.specs.Heads as head
use Rattle.gs_talk.specs.Seats.{Deeds}
use Rattle.gs_talk.specs.Logs.{Server}
use Rattle.gs_session.specs.declared.phases.Work.TheVariants.{Skipping, Uploading, Committing, Patching, Failing}
use Rattle.gs_session.specs.declared.phases.Phase.{Phase}
use Rattle.gs_session.specs.declared.phases.Phase.TheVariants.{Between, Serving, Over}
use Rattle.gs_session.specs.declared.setups.Setup.{Setup}
use Rattle.gs_session.specs.declared.steps.Step.{Step}
use Rattle.gs_session.specs.declared.steps.Step.TheVariants.{Silent, Made, Wait}
use Rattle.gs_session.specs.Leads.{LeadsTo}

-- the door took the seat's action, and gave an answer of its kind
abbrev pub TakesAction : {D : Type 0} → (D → Event → Answer → D → Type 0) → ℕ → D → Action → Answer → D → Type 0
TakesAction {D} gives seat old action answer new = gives old (Seat seat action) answer new × IsOfKind (Seat seat action) answer

-- and this holds of it
abbrev pub Does : {D : Type 0} → (D → Event → Answer → D → Type 0) → ℕ → D → Action → D → (Answer → Type 0) → Type 0
Does {D} gives seat old action new Holds = (answer : Answer) × TakesAction gives seat old action answer new × Holds answer

-- what a session serves by
abbrev pub server_of : Setup → Server
server_of setup = record { base = setup.site; piece = setup.piece }

-- each history that leads to a phase leads to the other
abbrev pub LeadsAlike : Server → Bool → Phase → List ℕ → Phase → List ℕ → Type 0
LeadsAlike s e p b q c = (x : List ℕ) (h : Deeds) (said : List ℕ) → LeadsTo s e p b x h said → LeadsTo s e q c x h said

-- and there this was said
abbrev pub Speaks : Server → Bool → Phase → List ℕ → Phase → List ℕ → List ℕ → Type 0
Speaks s e p b q c u = (x : List ℕ) (h : Deeds) (said : List ℕ) → LeadsTo s e p b x h said → LeadsTo s e q c x h (said ++ u)

-- and there this was done and said
abbrev pub MakesPhase : Server → Bool → Phase → List ℕ → Phase → List ℕ → Action → Answer → List ℕ → Type 0
MakesPhase s e p b q c action answer u = (x : List ℕ) (h : Deeds) (said : List ℕ) → LeadsTo s e p b x h said → LeadsTo s e q c x (h ++ (action, answer) ∷ []) (said ++ u)

-- what is left of a phase without an event, beside its bytes
abbrev pub rank : Phase → ℕ
rank Over = 0
rank (Serving a Committing) = 1
rank (Serving a (Failing w)) = 1
rank p = 2

-- So much is left to be done without an event: each such step uses a byte, or ends a part of the work.
abbrev pub effort : Phase → List ℕ → ℕ
effort p b = 3 * length b + rank p

-- the first n bytes at hand are these data of the body, and the transfer goes on after them
abbrev pub GivesData : Transfer → Transfer → List ℕ → List ℕ → ℕ → Type 0
GivesData old new b bytes n = (y : List ℕ) → cut_of old (b ++ y) ≡ with_data bytes (cut_of new (drop n b ++ y))

-- the rest of a body has not come, and may come
abbrev pub AwaitsRest : Bool → Transfer → List ℕ → Type 0
AwaitsRest e t b = (e ≡ false) × (cut_of t b ≡ ends cut.Open)

-- nothing can be done before more comes
abbrev pub IsStill : Phase → Bool → List ℕ → Type 0
IsStill Between e b = head_at (stripped b) ≡ head.Open
IsStill (Serving a (Skipping t)) e b = AwaitsRest e t b
IsStill (Serving a (Uploading k t)) e b = AwaitsRest e t b
IsStill (Serving a (Patching r body t)) e b = AwaitsRest e t b
IsStill Over e b = Unit {0}
IsStill p e b = ⊥

-- a step without an event
abbrev pub Rests : Setup → Bool → Phase → List ℕ → Step → List ℕ → Type 0
Rests setup e p b (Silent n) c = (effort n.phase c < effort p b) × Speaks (server_of setup) e p b n.phase c n.said.items
Rests setup e p b (Wait q) c = IsStill q e c × LeadsAlike (server_of setup) e p b q c
Rests setup e p b (Made n) c = ⊥

-- A step: one event, or none.
abbrev pub DoesStep : {D : Type 0} → (D → Event → Answer → D → Type 0) → Setup → Bool → Phase → List ℕ → D → Step → List ℕ → D → Type 0
DoesStep {D} gives setup e p b old (Made n) c new = (action : Action) × (answer : Answer) × TakesAction gives setup.seat old action answer new × MakesPhase (server_of setup) e p b n.phase c action answer n.said.items
DoesStep {D} gives setup e p b old step c new = (new ≡ old) × Rests setup e p b step c
