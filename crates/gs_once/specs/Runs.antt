-- What a run does.
use Rattle.std.specs.Prelude.{◌≡◌, ◌⊎◌, ◌≤◌, ℕ, List, [], Option, Result, Ok, Err}
use Rattle.std.specs.Io.KnownBytes.{Appends}
use Rattle.gs_event.specs.Births.{no_births}
use Rattle.gs_event.specs.Waste.{Shown}
use Rattle.gs_event.specs.Steps.{Steps}
use Rattle.gs_event.specs.Histories.{ShowsStart, HasStartPins}
use Rattle.gs_core.specs.Settings.{start_at}
use Rattle.gs_talk.specs.Seats.{Deeds}
use Rattle.gs_talk.specs.Logs.{Server}
use Rattle.gs_session.specs.Connections.{Connection, IsFinished, Quit}
use Rattle.gs_arguments.specs.declared.stops.Stop.{Stop}
use Rattle.gs_arguments.specs.declared.stops.Stop.TheVariants.{BadArguments, CannotListen, NoMemory, ReadFailed, WriteFailed}
use Rattle.gs_arguments.specs.Options.{help_text}
use Rattle.gs_arguments.specs.Asked.{AskedTask, help, connection, listening, nothing}
use Rattle.gs_once.specs.Stops.{AppendsFront, said_line}

-- what is left to read before and after a run, and what its output holds before and after it
pub record Traffic : Type 0 where
  pub unread : Option (List ℕ)
  pub left : Option (List ℕ)
  pub held : Option (List ℕ)
  pub holds : Option (List ℕ)

-- these four
abbrev pub traffic : Option (List ℕ) → Option (List ℕ) → Option (List ℕ) → Option (List ℕ) → Traffic
traffic unread left held holds = record { unread = unread; left = left; held = held; holds = holds }

-- nothing was read
abbrev pub IsUnread : Traffic → Type 0
IsUnread t = t.left ≡ t.unread

-- nothing was read, and nothing written
abbrev pub IsUntouched : Traffic → Type 0
IsUntouched t = IsUnread t × (t.holds ≡ t.held)

-- One connection was served by seat 0 of a new store, which has one seat, this base and no graphs.
pub record ServesConnection (base : List ℕ) (piece : ℕ) (t : Traffic)
    (Holds : Server → Option (List ℕ) → List ℕ → Deeds → List ℕ → Type 0) : Type 0 where
  pub some : 1 ≤ piece
  pub few : piece ≤ 4096
  pub first : Shown
  pub last : Shown
  pub shows : ShowsStart (start_at 1 base 0 0) first
  pub pins : HasStartPins (start_at 1 base 0 0) first
  pub waste : first.waste ≡ []
  pub births : first.births ≡ no_births 1
  pub served : Connection Steps 0 t.unread t.left t.held t.holds first last
      (Holds (record { base = base; piece = piece }) t.left)

-- What a run did of what was asked, where it ended well or for this reason. It has no network, so it listens nowhere.
abbrev pub Performs : AskedTask → Traffic → Result (Unit {0}) Stop → Type 0
Performs help t (Ok done) = IsUnread t × Appends t.held t.holds help_text
Performs help t (Err WriteFailed) = IsUnread t × AppendsFront t.held t.holds help_text
Performs help t (Err NoMemory) = IsUntouched t
Performs help t (Err stop) = ⊥
Performs (connection base piece) t (Ok done) = ServesConnection base piece t IsFinished
Performs (connection base piece) t (Err NoMemory) = IsUntouched t ⊎ ServesConnection base piece t Quit
Performs (connection base piece) t (Err ReadFailed) = ServesConnection base piece t Quit
Performs (connection base piece) t (Err WriteFailed) = ServesConnection base piece t Quit
Performs (connection base piece) t (Err stop) = ⊥
Performs (listening address base workers piece) t (Err CannotListen) = IsUntouched t
Performs (listening address base workers piece) t (Err NoMemory) = IsUntouched t
Performs (listening address base workers piece) t ended = ⊥
Performs nothing t (Err BadArguments) = IsUntouched t
Performs nothing t (Err NoMemory) = IsUntouched t
Performs nothing t ended = ⊥

-- a run ended for this reason, which was said, or a prefix of it
abbrev pub StopsBy : AskedTask → Traffic → Option (List ℕ) → Option (List ℕ) → Stop → Type 0
StopsBy asked t said says stop = Performs asked t (Err stop) × AppendsFront said says (said_line stop)

-- What a run did, by its status. Where that is 0, nothing is said.
pub record Exits (asked : AskedTask) (t : Traffic) (said says : Option (List ℕ)) (status : ℕ) : Type 0 where
  pub is_one : (status ≡ 0) ⊎ ((status ≡ 1) ⊎ ((status ≡ 2) ⊎ ((status ≡ 3) ⊎ (status ≡ 4))))
  pub well : status ≡ 0 → Performs asked t (Ok tt) × (says ≡ said)
  pub failed : status ≡ 1 → StopsBy asked t said says ReadFailed ⊎ StopsBy asked t said says WriteFailed
  pub bad_arguments : status ≡ 2 → StopsBy asked t said says BadArguments
  pub cannot_listen : status ≡ 3 → StopsBy asked t said says CannotListen
  pub no_memory : status ≡ 4 → StopsBy asked t said says NoMemory
