-- What a run says where it does not end well, and its status.
use Rattle.std.specs.Prelude.{ℕ, List, [], ◌∷◌, ◌++◌, codes, Option, take}
use Rattle.std.specs.Io.KnownBytes.{Appends}
use Rattle.gs_model.specs.Characters.{line_feed}
use Rattle.gs_session.specs.declared.serving.ServeFault.{ServeFault}
use Rattle.gs_session.specs.declared.serving.ServeFault.TheVariants as fault
use Rattle.gs_arguments.specs.declared.stops.Stop.{Stop}
use Rattle.gs_arguments.specs.declared.stops.Stop.TheVariants.{BadArguments, CannotListen, NoMemory, ReadFailed, WriteFailed}

-- the line that is said on standard error
abbrev pub said_line : Stop → List ℕ
said_line BadArguments = codes "gsd: bad arguments" ++ line_feed ∷ []
said_line CannotListen = codes "gsd: cannot listen" ++ line_feed ∷ []
said_line NoMemory = codes "gsd: no memory" ++ line_feed ∷ []
said_line ReadFailed = codes "gsd: read failed" ++ line_feed ∷ []
said_line WriteFailed = codes "gsd: write failed" ++ line_feed ∷ []

-- the status
abbrev pub exit_status : Stop → ℕ
exit_status BadArguments = 2
exit_status CannotListen = 3
exit_status NoMemory = 4
exit_status ReadFailed = 1
exit_status WriteFailed = 1

-- what a fault of a connection is to the run
abbrev pub stop_of : ServeFault → Stop
stop_of fault.Read = ReadFailed
stop_of fault.Write = WriteFailed
stop_of fault.NoMemory = NoMemory

-- the text was written, or a prefix of it
abbrev pub AppendsFront : Option (List ℕ) → Option (List ℕ) → List ℕ → Type 0
AppendsFront old new text = (n : ℕ) × Appends old new (take n text)
