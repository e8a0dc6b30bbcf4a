-- What a run of a schedule's lines writes.
use Rattle.std.specs.Prelude.{◌≡◌, ◌⊎◌, ℕ, ◌+◌, Bool, true, false, List, [], ◌∷◌, ◌++◌, length, Option, None, Some, codes}
use Rattle.std.specs.Io.KnownBytes.{Appends}
use Rattle.gs_event.specs.Datasets.{triples_in}
use Rattle.gs_event.specs.Births.{no_births}
use Rattle.gs_event.specs.Histories.{Start, view_of, pinned_of}
use Rattle.gs_event.specs.Waste.{Shown, nodes_in}
use Rattle.gs_core.specs.Settings.{setting_of}
use Rattle.gs_commands.specs.declared.commands.Command.{Command}
use Rattle.gs_commands.specs.declared.commands.Command.TheVariants.{Nothing, Begin, Ask, Count, Feed, Patch, Cut}
use Rattle.gs_commands.specs.Commands.{SaysCommand, lines_in}
use Rattle.gs_drill.specs.Printing.{counts_text, no_command_text, no_memory_text, WritesFront}
use Rattle.gs_drill.specs.Feeds.{Desk, DoesFeed}
use Rattle.gs_drill.specs.Commits.{DoesEvent}
use Rattle.gs_drill.specs.Patches.{DoesPatch}
use Rattle.gs_feeding.specs.Receiving.{Unfed, IsIn}

-- between two lines: whether a command came before, in pieces of how many bytes texts are fed (0 is whole), what
-- the store shows, and what was fed to each seat
pub record RunState : Type 0 where
  pub begun : Bool
  pub cut : ℕ
  pub desk : Desk

-- what a store shows that has no graph yet
abbrev pub new_store : Start → Shown
new_store start = record { view = view_of start []; pinned = pinned_of start []; waste = []; births = no_births start.seats }

-- a store begins, and nothing was fed
abbrev pub new_state : Bool → Start → RunState
new_state begun start = record { begun = begun; cut = 0; desk = record { shown = new_store start; fed = λ s. Unfed } }

-- where the store of a schedule begins
abbrev pub drill_start : ℕ → ℕ → ℕ → Start
drill_start seats commit request = record { seats = seats; setting = setting_of (codes "http://localhost"); request = request; commit = commit }

-- before the first line: four seats, and no number given out
abbrev pub first_state : RunState
first_state = new_state false (drill_start 4 0 0)

-- what a command prints, and the state that it leaves: a store begins only before any other command, and an upload
-- is fed in one language
abbrev pub CarriesOut : RunState → Command → List ℕ → RunState → Type 0
CarriesOut s Nothing text t = (text ≡ []) × (t ≡ s)
CarriesOut s (Begin seats commit request) text t = (s.begun ≡ false) × (text ≡ []) × (t ≡ new_state true (drill_start seats commit request))
CarriesOut s (Ask event) text t = (t.begun ≡ true) × (t.cut ≡ s.cut) × DoesEvent s.desk event text t.desk
CarriesOut s Count text t = (t.begun ≡ true) × (t.cut ≡ s.cut) × (t.desk ≡ s.desk) × (text ≡ counts_text (nodes_in s.desk.shown) (triples_in s.desk.shown.view.totals.dataset))
CarriesOut s (Feed seat l y) text t = IsIn l (s.desk.fed seat) × (t.begun ≡ true) × (t.cut ≡ s.cut) × DoesFeed s.cut s.desk seat l y.items text t.desk
CarriesOut s (Patch seat y) text t = (t.begun ≡ true) × (t.cut ≡ s.cut) × DoesPatch s.desk seat y.items text t.desk
CarriesOut s (Cut n) text t = (text ≡ []) × (t ≡ record { begun = true; cut = n; desk = s.desk })

-- a line says a command, which is done
pub record DoesLine (s : RunState) (line text : List ℕ) (t : RunState) : Type 0 where
  pub command : Command
  pub says : SaysCommand command line
  pub does : CarriesOut s command text t

-- lines in their order, all that they print, and the state that they leave
abbrev pub Plays : RunState → List (List ℕ) → List ℕ → RunState → Type 0
Plays s [] text t = (text ≡ []) × (t ≡ s)
Plays s (line ∷ lines) text t = (u : RunState) × (first : List ℕ) × (rest : List ℕ) × (text ≡ first ++ rest) × DoesLine s line first u × Plays u lines rest t

-- a line is no command where it stands: it says nothing, or it begins a store after another command, or it feeds
-- an upload in another language than before
abbrev pub IsLate : RunState → Command → Type 0
IsLate s Nothing = ⊥
IsLate s (Begin seats commit request) = s.begun ≡ true
IsLate s (Ask event) = ⊥
IsLate s Count = ⊥
IsLate s (Feed seat l y) = ¬ IsIn l (s.desk.fed seat)
IsLate s (Patch seat y) = ⊥
IsLate s (Cut n) = ⊥

-- each command that the line says, if it says one, is late in this state
abbrev pub IsNoCommand : RunState → List ℕ → Type 0
IsNoCommand s line = (command : Command) → SaysCommand command line → IsLate s command

-- the input is what a reader had left, if it reports that
abbrev pub IsInput : Option (List ℕ) → List ℕ → Type 0
IsInput None input = Unit {0}
IsInput (Some bytes) input = input ≡ bytes

-- each line of the input is a command, and what they print is written
pub record FinishesRun (given old new : Option (List ℕ)) : Type 0 where
  pub input : List ℕ
  pub read : IsInput given input
  pub text : List ℕ
  pub last : RunState
  pub plays : Plays first_state (lines_in input) text last
  pub written : Appends old new text

-- the lines before line n are commands, and what they print is written; line n is no command
pub record StopsAtLine (given : Option (List ℕ)) (n : ℕ) (old new : Option (List ℕ)) : Type 0 where
  pub input : List ℕ
  pub read : IsInput given input
  pub before : List (List ℕ)
  pub line : List ℕ
  pub after : List (List ℕ)
  pub parts : lines_in input ≡ before ++ line ∷ after
  pub number : n ≡ length before + 1
  pub text : List ℕ
  pub last : RunState
  pub plays : Plays first_state before text last
  pub refused : IsNoCommand last line
  pub written : Appends old new text

-- the same, and it is said
pub record SaysStop (given old new errors_old errors_new : Option (List ℕ)) : Type 0 where
  pub line_number : ℕ
  pub stops : StopsAtLine given line_number old new
  pub printed : Appends errors_old errors_new (no_command_text line_number)

-- some first lines are commands, and what they print is written
pub record Halts (given old new : Option (List ℕ)) : Type 0 where
  pub input : List ℕ
  pub read : IsInput given input
  pub before : List (List ℕ)
  pub after : List (List ℕ)
  pub parts : lines_in input ≡ before ++ after
  pub text : List ℕ
  pub last : RunState
  pub plays : Plays first_state before text last
  pub written : Appends old new text

-- the same, where a prefix of what they print is written
pub record BreaksOff (given old new : Option (List ℕ)) : Type 0 where
  pub input : List ℕ
  pub read : IsInput given input
  pub before : List (List ℕ)
  pub after : List (List ℕ)
  pub parts : lines_in input ≡ before ++ after
  pub text : List ℕ
  pub last : RunState
  pub plays : Plays first_state before text last
  pub written : WritesFront old new text

-- A read or a write failed. Of what some first lines print a prefix is written, and nothing is said; or the run ended
-- early, what its lines print is written, and of what is said of that a prefix.
abbrev pub FailsRun : Option (List ℕ) → Option (List ℕ) → Option (List ℕ) → Option (List ℕ) → Option (List ℕ) → Type 0
FailsRun given old new errors_old errors_new = (BreaksOff given old new × Appends errors_old errors_new [])
    ⊎ (((n : ℕ) × StopsAtLine given n old new × WritesFront errors_old errors_new (no_command_text n))
    ⊎ (Halts given old new × WritesFront errors_old errors_new no_memory_text))
