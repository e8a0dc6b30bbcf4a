-- What the words of a command line ask for.
use Rattle.std.specs.Prelude.{◌≡◌, ◌≤◌, ℕ, Bool, true, false, List, [], ◌∷◌, codes, Option, Some, None, Result, Ok, Err, if◌then◌else◌}
use Rattle.std.specs.Str.{bytes_eq}
use Rattle.std.specs.Str.Parse.{digits_value, without_leading_plus}
use Rattle.clap.specs.Words.{Text, fault_of, Kinds, first_value}
use Rattle.clap.specs.declared.parser.matches.Found.{Found}
use Rattle.clap.specs.declared.error.kind.ErrorKind.TheVariants as kind
use Rattle.gs_model.specs.Bases.{is_base}
use Rattle.gs_arguments.specs.declared.stops.Stop.{Stop}
use Rattle.gs_arguments.specs.declared.stops.Stop.TheVariants.{BadArguments, NoMemory}
use Rattle.gs_arguments.specs.declared.tasks.Task.{Task}
use Rattle.gs_arguments.specs.declared.tasks.Task.TheVariants.{Help, Connection, Listen}
use Rattle.gs_arguments.specs.Options.{gsd, given}

-- the text of help; one connection, under this base and with pieces of so many lines; the connections to an
-- address, under this base, by so many workers and with pieces of so many lines; or nothing that the program does
pub data AskedTask : Type 0 where
  help : AskedTask
  connection : List ℕ → ℕ → AskedTask
  listening : List ℕ → List ℕ → ℕ → ℕ → AskedTask
  nothing : AskedTask

-- the number that a text says in decimal digits, after a `+` or none
abbrev pub number_said : Text → ℕ
number_said text = digits_value 10 (without_leading_plus text)

-- the text that was found for this option says this number, of at least 1 and at most the greatest
abbrev pub SaysOptionNumber : Text → ℕ → Found → ℕ → Type 0
SaysOptionNumber id most f n = (t : Text) × (first_value f id ≡ Some t) × (n ≡ number_said t) × (1 ≤ n) × (n ≤ most)

-- what the words ask for under a base, by whether `--once` stands, and by what address `--listen` has
abbrev pub asked_way : Bool → Option Text → Text → ℕ → ℕ → AskedTask
asked_way true None base workers piece = connection base piece
asked_way false (Some address) base workers piece = listening address base workers piece
asked_way once listen base workers piece = nothing

-- what the texts of the five options ask for, where the base may be one
abbrev pub asked_of : Option Text → Option Text → Option Text → Option Text → Option Text → AskedTask
asked_of listen (Some once) (Some base) (Some workers) (Some piece) =
    if is_base base then asked_way (bytes_eq once (codes "true")) listen base (number_said workers) (number_said piece) else nothing
asked_of listen once base workers piece = nothing

-- what the texts that were found for the options ask for
abbrev pub asked_by_found : Found → AskedTask
asked_by_found f =
    asked_of (first_value f (codes "listen")) (first_value f (codes "once")) (first_value f (codes "base"))
    (first_value f (codes "workers")) (first_value f (codes "piece"))

-- what is asked for where clap finds these faults: its fault for `--help` is the question for help
abbrev pub asked_with_faults : Kinds → List Text → AskedTask
asked_with_faults [] words =
    asked_of (given (codes "listen") words) (given (codes "once") words) (given (codes "base") words)
    (given (codes "workers") words) (given (codes "piece") words)
asked_with_faults (kind.DisplayHelp ∷ rest) words = help
asked_with_faults (fault ∷ rest) words = nothing

-- what the words ask for, of which the first is the program's name
abbrev pub asked_by : List Text → AskedTask
asked_by words = asked_with_faults (fault_of gsd words) words

-- what is asked for by words that are read as this task
abbrev pub asked_for : Task → AskedTask
asked_for Help = help
asked_for (Connection base piece) = connection base.now piece
asked_for (Listen address base workers piece) = listening address.now base.now workers piece

-- The base of a task may be one, and a piece has 1 to 4096 lines; where the task is to listen, there are 1 to 256 workers.
abbrev pub IsAllowed : Task → Type 0
IsAllowed Help = Unit {0}
IsAllowed (Connection base piece) = (is_base base.now ≡ true) × (1 ≤ piece) × (piece ≤ 4096)
IsAllowed (Listen address base workers piece) =
    (is_base base.now ≡ true) × (1 ≤ workers) × (workers ≤ 256) × (1 ≤ piece) × (piece ≤ 4096)

-- The task is what is asked for, and its base and numbers are such as are taken.
abbrev pub IsTask : AskedTask → Task → Type 0
IsTask asked task = (asked ≡ asked_for task) × IsAllowed task

-- words that ask for nothing are refused, and memory may be wanted
abbrev pub IsRefusedFor : AskedTask → Stop → Type 0
IsRefusedFor asked BadArguments = asked ≡ nothing
IsRefusedFor asked NoMemory = Unit {0}
IsRefusedFor asked stop = ⊥

-- what is made of words that ask for this
abbrev pub ReadsWords : AskedTask → Result Task Stop → Type 0
ReadsWords asked (Ok task) = IsTask asked task
ReadsWords asked (Err stop) = IsRefusedFor asked stop
