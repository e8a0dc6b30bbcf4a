-- How one line, and how a run of lines, comes out.
use Rattle.std.specs.Prelude.{◌≡◌, ◌≤◌, ℕ, List, [], Option, Result, Ok, Err}
use Rattle.std.specs.Io.KnownBytes.{Appends}
use Rattle.gs_model.specs.Limits.{last_number, max_seats}
use Rattle.gs_event.specs.Waste.{Shown}
use Rattle.gs_commands.specs.declared.commands.Command.{Command}
use Rattle.gs_commands.specs.declared.commands.Command.TheVariants.{Nothing, Begin, Ask, Count, Feed, Patch, Cut}
use Rattle.gs_drill.specs.declared.stops.Stop.{Stop}
use Rattle.gs_drill.specs.declared.stops.Stop.TheVariants.{NoCommand, NoMemory, Failed}
use Rattle.gs_drill.specs.declared.uploads.Uploads.{Uploads}
use Rattle.gs_drill.specs.Printing.{Writes, WritesFront, no_command_text, no_memory_text}
use Rattle.gs_drill.specs.Feeds.{Desk}
use Rattle.gs_drill.specs.Drills.{RunState, CarriesOut, DoesLine, IsLate, IsNoCommand, FinishesRun, StopsAtLine, Halts, BreaksOff}
use Rattle.gs_drill.specs.Standing.{Standing, desk_of}

-- a store may begin with these numbers
abbrev pub IsInRange : Command → Type 0
IsInRange Nothing = Unit {0}
IsInRange (Begin seats commit request) = (1 ≤ seats) × (seats ≤ max_seats) × (commit ≤ last_number) × (request ≤ last_number)
IsInRange (Ask event) = Unit {0}
IsInRange Count = Unit {0}
IsInRange (Feed seat l y) = Unit {0}
IsInRange (Patch seat y) = Unit {0}
IsInRange (Cut n) = Unit {0}

-- a text is made and written
pub record PrintsAll (Makes : List ℕ → Type 0) (old new : Option (List ℕ)) : Type 0 where
  pub text : List ℕ
  pub makes : Makes text
  pub written : Appends old new text

-- a text is made; it is written, or a prefix of it
pub record Prints {X E : Type 0} (Makes : List ℕ → Type 0) (old new : Option (List ℕ)) (outcome : Result X E) : Type 0 where
  pub text : List ℕ
  pub makes : Makes text
  pub written : Writes old new text outcome

-- a text is made, and a prefix of it written
pub record PrintsFront {D : Type 0} (Makes : List ℕ → D → Type 0) (old new : Option (List ℕ)) : Type 0 where
  pub text : List ℕ
  pub last : D
  pub makes : Makes text last
  pub written : WritesFront old new text

-- a text is made by what leaves one of these, and written
pub record PrintsTo {T D : Type 0} (after : T → D) (Makes : List ℕ → D → Type 0) (old new : Option (List ℕ)) : Type 0 where
  pub text : List ℕ
  pub last : T
  pub makes : Makes text (after last)
  pub written : Appends old new text

-- a text is made and written; nothing is written for want of memory; or a write fails
abbrev pub WritesReply : {T D : Type 0} → (T → D) → (List ℕ → D → Type 0) → Option (List ℕ) → Option (List ℕ) → {X : Type 0} → Result X Stop → Type 0
WritesReply after Makes old new (Ok x) = PrintsTo after Makes old new
WritesReply after Makes old new (Err NoCommand) = ⊥
WritesReply after Makes old new (Err NoMemory) = Appends old new []
WritesReply after Makes old new (Err Failed) = PrintsFront Makes old new

-- this text is written; nothing is written for want of memory; or a write fails
abbrev pub RepliesText : List ℕ → Option (List ℕ) → Option (List ℕ) → {X : Type 0} → Result X Stop → Type 0
RepliesText printed old new outcome = WritesReply (λ (d : Unit {0}). d) (λ text d. text ≡ printed) old new outcome

-- the same of what is made at the desk where the code stands
abbrev pub RepliesFrom : Shown → Uploads → Shown → Uploads → (Desk → List ℕ → Desk → Type 0) → Option (List ℕ) → Option (List ℕ)
    → {X : Type 0} → Result X Stop → Type 0
RepliesFrom shown u next w Makes old new outcome = (st : Standing shown u) → WritesReply {T = Standing next w} desk_of (Makes (desk_of st)) old new outcome

-- a command is done; it is late; nothing is written for want of memory; or a write fails
abbrev pub DoesCommand : RunState → Command → {T : Type 0} → (T → RunState) → Option (List ℕ) → Option (List ℕ) → {X : Type 0} → Result X Stop → Type 0
DoesCommand s command after old new (Ok x) = PrintsTo after (CarriesOut s command) old new
DoesCommand s command after old new (Err NoCommand) = IsLate s command × Appends old new []
DoesCommand s command after old new (Err NoMemory) = Appends old new []
DoesCommand s command after old new (Err Failed) = PrintsFront (CarriesOut s command) old new

-- the same of a line
abbrev pub TakesLine : RunState → List ℕ → {T : Type 0} → (T → RunState) → Option (List ℕ) → Option (List ℕ) → {X : Type 0} → Result X Stop → Type 0
TakesLine s line after old new (Ok x) = PrintsTo after (DoesLine s line) old new
TakesLine s line after old new (Err NoCommand) = IsNoCommand s line × Appends old new []
TakesLine s line after old new (Err NoMemory) = Appends old new []
TakesLine s line after old new (Err Failed) = PrintsFront (DoesLine s line) old new

-- what is said of a run that ended early, by the number of its line; of a failed read or write nothing is said
abbrev pub stop_text : Stop → ℕ → List ℕ
stop_text NoCommand n = no_command_text n
stop_text NoMemory n = no_memory_text
stop_text Failed n = []

-- how a run of lines ends before the last of them, by the number of the line
abbrev pub EndsBy : Option (List ℕ) → Option (List ℕ) → Option (List ℕ) → Stop → ℕ → Type 0
EndsBy given old new NoCommand n = StopsAtLine given n old new
EndsBy given old new NoMemory n = Halts given old new
EndsBy given old new Failed n = BreaksOff given old new

-- a run of lines finishes, or it ends by the reason that stopped it
abbrev pub EndsRun : Option (List ℕ) → Option (List ℕ) → Option (List ℕ) → {X : Type 0} → Result X (Stop × ℕ) → Type 0
EndsRun given old new (Ok x) = FinishesRun given old new
EndsRun given old new (Err e) = EndsBy given old new e.0 e.1
