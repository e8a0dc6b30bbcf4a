-- How far a connection has come: all that is to be said was said, or a prefix of it.
use Rattle.std.specs.Prelude.{◌≡◌, ◌⊎◌, ◌||◌, ℕ, Bool, true, false, not, List, [], ◌∷◌, ◌++◌}
use Rattle.gs_verdict.specs.declared.verdicts.Asked.{Asked}
use Rattle.gs_stream.specs.Requests.{Request, Waits}
use Rattle.gs_talk.specs.Plans.{opens, plan_of}
use Rattle.gs_talk.specs.Progress.{Move, Progress, NotStarted, UploadOpen, PatchOpen, Dropped}
use Rattle.gs_talk.specs.Moves.{progress}
use Rattle.gs_talk.specs.Seats.{Deeds}
use Rattle.gs_talk.specs.Logs.{Log, Server, IsAtRest, Talk}

-- nothing is due but the rest of the body: it is dropped, or what it is for was opened
abbrev pub awaits_body : Asked → Progress → Bool
awaits_body a NotStarted = not (opens (plan_of a))
awaits_body a (UploadOpen r g) = true
awaits_body a (PatchOpen r) = true
awaits_body a (Dropped r) = true
awaits_body a c = false

-- the request at hand, if there is one, awaits its body
abbrev pub AwaitsBody : List Request → List Move → Type 0
AwaitsBody (Waits a front ∷ rs) now = awaits_body a (progress a NotStarted now) ≡ true
AwaitsBody rs now = Unit {0}

-- a reply closed, or the connection stopped
abbrev pub is_closed : Log → Bool
is_closed [] = false
is_closed (e ∷ es) = not e.goes || is_closed es

-- All that is to be said was said, and no settled request is left; one that is still open awaits its body. The connection goes on:
-- no reply closed, and it did not stop.
abbrev pub SaysAll : Server → Bool → List ℕ → Deeds → List ℕ → Type 0
SaysAll p ended x h w = (rest : List Request) × IsAtRest rest × ((k : Talk p ended x h w rest) × AwaitsBody rest k.now × (is_closed k.log ≡ false))

-- All that is to be said was said, no request is left, and the connection is over: the input ended, or a reply closed or stopped.
abbrev pub SaysLast : Server → Bool → List ℕ → Deeds → List ℕ → Type 0
SaysLast p ended x h w = (k : Talk p ended x h w []) × ((ended ≡ true) ⊎ (is_closed k.log ≡ true))

-- what was written is a prefix of what was to be said
abbrev pub SaysFront : Server → Bool → List ℕ → Deeds → List ℕ → Type 0
SaysFront p ended x h w = (rest : List Request) × (left : List ℕ) × Talk p ended x h (w ++ left) rest
