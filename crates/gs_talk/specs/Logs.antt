-- A log of a connection: an entry for each request, in order.
use Rattle.std.specs.Prelude.{◌≡◌, ◌≤◌, ◌⊎◌, ℕ, ◌+◌, Bool, true, cond, List, [], ◌∷◌, ◌++◌, length}
use Rattle.std.specs.List.{flat_map}
use Rattle.gs_event.specs.declared.events.Action.{Action}
use Rattle.gs_event.specs.declared.events.Action.TheVariants as action
use Rattle.gs_talk.specs.Seats.{Deeds}
use Rattle.gs_verdict.specs.declared.verdicts.Asked.{Asked}
use Rattle.gs_verdict.specs.declared.verdicts.Denial.{Denial}
use Rattle.gs_stream.specs.Requests.{Request, Denied, Asks, Breaks, Waits, requests}
use Rattle.gs_talk.specs.Plans.{Plan, Uploads, Patches, Deletes, Looks, Reads, plan_of}
use Rattle.gs_talk.specs.Progress.{Move, Did, Short, Progress, NotStarted, Wrong}
use Rattle.gs_talk.specs.Moves.{progress}
use Rattle.gs_talk.specs.Replies.{BodyState, Whole, Faulty, Unended, Said, denial_reply, plain, stopped, IsGreeted, said_so_far, IsOwn, Settles, data_of}

-- what was done for a request, what was said to it, and whether the connection goes on
pub record Entry : Type 0 where
  pub moves : List Move
  pub text : List ℕ
  pub goes : Bool

-- an entry for each request that was answered
abbrev pub Log : Type 0
Log = List Entry

-- a move's action with its answer, if it was one
abbrev pub deed_of : Move → Deeds
deed_of (Did action answer) = (action, answer) ∷ []
deed_of Short = []

-- those of some moves
abbrev pub deeds_of : List Move → Deeds
deeds_of ms = flat_map deed_of ms

-- all that was done
abbrev pub deeds : Log → Deeds
deeds log = flat_map (λ e. deeds_of e.moves) log

-- all that was said
abbrev pub texts : Log → List ℕ
texts log = flat_map (λ e. e.text) log

-- an action is the plan's own: its kind, its target or scope, and its condition are the request's, and a piece has so many lines
abbrev pub Suits : ℕ → Plan → Action → Type 0
Suits piece p (action.Open k since) = p ≡ Uploads k since
Suits piece p (action.OpenPatch t since) = p ≡ Patches t since
Suits piece p (action.Delete t since) = p ≡ Deletes t since
Suits piece p (action.Head c) = p ≡ Looks c
Suits piece p (action.Pin c) = p ≡ Reads c
Suits piece p (action.Piece n) = n ≡ piece
Suits piece p other = Unit {0}

-- all of these moves are
abbrev pub AllSuit : ℕ → Plan → List Move → Type 0
AllSuit piece p [] = Unit {0}
AllSuit piece p (Short ∷ ms) = AllSuit piece p ms
AllSuit piece p (Did act answer ∷ ms) = Suits piece p act × AllSuit piece p ms

-- what serves a connection: the base of the store, and how many lines a piece has
pub record Server : Type 0 where
  pub base : List ℕ
  pub piece : ℕ

-- a head that is denied has its own reply; where there was no memory for it, 503, or nothing more
abbrev pub AnswersDenied : Denial → List Move → Said → Type 0
AnswersDenied d [] t = t ≡ denial_reply d
AnswersDenied d (Short ∷ []) t = (t ≡ plain 503 true) ⊎ (t ≡ stopped)
AnswersDenied d ms t = ⊥

-- one, where it is a Stage
abbrev pub stage_count : Move → ℕ
stage_count (Did (action.Stage ts) answer) = 1
stage_count m = 0

-- how many of these moves are
abbrev pub stages_in : List Move → ℕ
stages_in [] = 0
stages_in (m ∷ ms) = stage_count m + stages_in ms

-- What was done for a request may be done for it: the actions are its plan's; what took effect is what it asks; and there is
-- at most one Stage more than its body has bytes so far.
abbrev pub AreProper : Server → Asked → BodyState → List Move → Type 0
AreProper p a b ms = AllSuit p.piece (plan_of a) ms × IsOwn p.base a b (progress a NotStarted ms) × (stages_in ms ≤ length (data_of b) + 1)

-- what was done for a request gives what was said to it
abbrev pub AnswersAsk : Server → Asked → BodyState → List Move → Said → Type 0
AnswersAsk p a b ms t = AreProper p a b ms × ((u : Said) × Settles p.base a b (progress a NotStarted ms) u × IsGreeted a (progress a NotStarted ms) u t)

-- an entry is that of its request
abbrev pub Answered : Server → Bool → Request → List Move → Said → Type 0
Answered p ended (Denied d) ms t = AnswersDenied d ms t
Answered p ended (Asks a body) ms t = AnswersAsk p a (Whole body) ms t
Answered p ended (Breaks a front status) ms t = AnswersAsk p a (Faulty front status) ms t
Answered p ended (Waits a front) ms t = AnswersAsk p a (Unended front ended) ms t

-- The log answers these requests in order, to the first that closes or stops, and leaves the rest. Whether the input has ended
-- stands before it.
abbrev pub AnswersAll : Server → Bool → Log → List Request → List Request → Type 0
AnswersAll p ended [] rs rest = rest ≡ rs
AnswersAll p ended (e ∷ es) [] rest = ⊥
AnswersAll p ended (e ∷ es) (r ∷ rs) rest = Answered p ended r e.moves (e.text, e.goes) × AnswersAll p ended es (cond e.goes rs []) rest

-- nothing settled is left
abbrev pub IsAtRest : List Request → Type 0
IsAtRest [] = Unit {0}
IsAtRest (Waits a front ∷ []) = Unit {0}
IsAtRest rs = ⊥

-- no move was one that may not be
abbrev pub IsRight : Progress → Type 0
IsRight Wrong = ⊥
IsRight c = Unit {0}

-- what was done and said for the request at hand so far
abbrev pub AskInHand : Server → Asked → BodyState → List Move → List ℕ → Type 0
AskInHand p a b now t = AreProper p a b now × IsRight (progress a NotStarted now) × (t ≡ said_so_far a (progress a NotStarted now))

-- for the first of those that are left
abbrev pub InHand : Server → Bool → List Request → List Move → List ℕ → Type 0
InHand p ended (Asks a body ∷ rs) now t = AskInHand p a (Whole body) now t
InHand p ended (Breaks a front status ∷ rs) now t = AskInHand p a (Faulty front status) now t
InHand p ended (Waits a front ∷ rs) now t = AskInHand p a (Unended front ended) now t
InHand p ended rs now t = (now ≡ []) × (t ≡ [])

-- To the stream x, h was done, and this was to be said; these requests are left.
pub record Talk (p : Server) (ended : Bool) (x : List ℕ) (h : Deeds) (said : List ℕ) (rest : List Request) : Type 0 where
  pub log : Log
  pub now : List Move
  pub text : List ℕ
  pub answers : AnswersAll p ended log (requests p.base x) rest
  pub hand : InHand p ended rest now text
  pub done : h ≡ deeds log ++ deeds_of now
  pub written : said ≡ texts log ++ text
