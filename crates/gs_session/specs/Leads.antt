-- The histories that lead to a session's state, and what a turn adds to them.
use Rattle.std.specs.Prelude.{◌≡◌, ℕ, Bool, true, false, List, [], ◌++◌}
use Rattle.gs_stream.specs.Requests.{Request, requests}
use Rattle.gs_talk.specs.Progress.{Move}
use Rattle.gs_talk.specs.Seats.{Deeds}
use Rattle.gs_talk.specs.Logs.{Server, Log, AnswersAll, deeds, deeds_of, texts}
use Rattle.gs_talk.specs.Closings.{is_closed}
use Rattle.gs_session.specs.Trails.{Trail, coming, KeepsTrail}
use Rattle.gs_session.specs.declared.phases.Phase.{Phase}
use Rattle.gs_session.specs.declared.phases.Phase.TheVariants.{Over}

-- more bytes may come only before the end of the input
abbrev pub MayCome : Bool → List ℕ → Type 0
MayCome true y = y ≡ []
MayCome false y = Unit {0}

-- after its last request a connection has closed or stopped, and not before
abbrev pub IsShut : Phase → Log → Type 0
IsShut Over log = is_closed log ≡ true
IsShut p log = is_closed log ≡ false

-- The bytes x, with or without an end, what was done for them, and what was said, lead to this phase with these bytes unused.
pub record LeadsTo (s : Server) (ended : Bool) (p : Phase) (unused x : List ℕ) (h : Deeds) (said : List ℕ) : Type 0 where
  pub trail : Trail
  pub log : Log
  pub now : List Move
  pub text : List ℕ
  -- what answers the requests that are still to be answered, after the log, answers those of the stream, however it goes on
  pub same : (y : List ℕ) → MayCome ended y → (more : Log) (rest : List Request) → AnswersAll s ended more (coming s.base p trail (unused ++ y)) rest
      → AnswersAll s ended (log ++ more) (requests s.base (x ++ y)) rest
  pub done : h ≡ deeds log ++ deeds_of now
  pub written : said ≡ texts log ++ text
  pub keeps : KeepsTrail s p trail now text
  pub shut : IsShut p log
