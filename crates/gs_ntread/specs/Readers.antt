-- What a reader's fields mean, and what its calls do.
use Rattle.std.specs.Prelude.{◌≡◌, ℕ, ◌<◌, ◌≤◌, List, [], ◌++◌, ◌⊎◌, Option, Some, None, Result, IfOk, length, take}
use Rattle.gs_model.specs.Triples.{RdfTriple}
use Rattle.gs_model.specs.declared.refusals.Refusal.{Refusal}
use Rattle.gs_model.specs.declared.refusals.Refusal.TheVariants as refusal
use Rattle.gs_machine.specs.Machines.{steps, rest}
use Rattle.gs_machine.specs.Utf8.{Lost}
use Rattle.gs_model.specs.declared.faults.Fault.{Fault}
use Rattle.gs_model.specs.declared.faults.Fault.TheVariants.{Syntax, TermTooLong}
use Rattle.gs_body.specs.Bodies.{Ending, Whole, Faulty, Meaning, Statement, all_stated, end_after}
use Rattle.gs_body.specs.Leading.{IsLed}
use Rattle.gs_ntread.specs.Reader.{Led, stating, placing, ntriples, nothing_read}
use Rattle.gs_ntread.specs.States.{LineState, TokenMode, Broken, broken}
use Rattle.gs_ntread.specs.Views.{cursor_state}
use Rattle.gs_ntread.specs.Clauses.{parts_stated}
use Rattle.gs_ntread.specs.declared.parts.Parts.{Parts}
use Rattle.gs_ntread.specs.declared.reader.NTriplesReader.{NTriplesReader}

-- where the machines of a reader stand
abbrev pub led_of : NTriplesReader → Led
led_of r = (r.decoder, (r.read, (cursor_state r.cursor, r.numbering)))

-- A text leads a new reader of a request to this one, and to having given these triples.
abbrev pub LeadsToNTriples : NTriplesReader → List ℕ → List RdfTriple → Type 0
LeadsToNTriples r x ts = IsLed (ntriples r.request) nothing_read (led_of r) r.last x ts

-- a reader goes on, by what a machine gives
pub record Advances (old new : NTriplesReader) (before after : List RdfTriple) (t : Led × List Statement) : Type 0 where
  pub led : led_of new ≡ t.0
  pub given : after ≡ before ++ all_stated t.1
  pub last : new.last ≡ end_after old.last t.1
  pub request : new.request ≡ old.request
  pub closed : new.is_closed ≡ old.is_closed

-- what a triple by its parts gives
abbrev pub led_stated : NTriplesReader → Parts → Led × List Statement
led_stated r p =
    let u = parts_stated r.request r.numbering p in
    ((r.decoder, (r.read, (cursor_state r.cursor, u.0))), u.1)

-- what a character gives
abbrev pub led_placed : NTriplesReader → ℕ → Led × List Statement
led_placed r c =
    let u = (placing r.request).step (r.read, (cursor_state r.cursor, r.numbering)) c in
    ((r.decoder, u.0), u.1)

-- what bytes give, one after another
abbrev pub led_through : NTriplesReader → List ℕ → Led × List Statement
led_through r bytes = steps (ntriples r.request) (led_of r) bytes

-- a reader gives a triple by its parts
abbrev pub GivesParts : (old new : NTriplesReader) → (before after : List RdfTriple) → Parts → Type 0
GivesParts old new before after p = Advances old new before after (led_stated old p)

-- a reader takes a character
abbrev pub TakesChar : (old new : NTriplesReader) → (before after : List RdfTriple) → ℕ → Type 0
TakesChar old new before after c = Advances old new before after (led_placed old c)

-- a reader takes a byte
abbrev pub TakesByte : (old new : NTriplesReader) → (before after : List RdfTriple) → ℕ → Type 0
TakesByte old new before after byte = Advances old new before after ((ntriples old.request).step (led_of old) byte)

-- a reader takes bytes, one after another
abbrev pub TakesEach : (old new : NTriplesReader) → (before after : List RdfTriple) → List ℕ → Type 0
TakesEach old new before after bytes = Advances old new before after (led_through old bytes)

-- a reader takes as many bytes of a piece as it answers
abbrev pub TakesFront : (old new : NTriplesReader) → (before after : List RdfTriple) → List ℕ → Result ℕ Refusal → Type 0
TakesFront old new before after piece answer = IfOk answer (λ n. TakesEach old new before after (take n piece))

-- a reader takes as many bytes of a piece as it answers, which complete nothing
abbrev pub TakesRun : {E : Type 0} → (old new : NTriplesReader) → List ℕ → Result ℕ E → Type 0
TakesRun old new piece answer = IfOk answer (λ n. (ts : List RdfTriple) → TakesEach old new ts ts (take n piece))

-- a triple by its parts, which a reader has yet to give, is complete with the first n bytes of a piece
pub record CompletesTriple (old new : NTriplesReader) (piece : List ℕ) (p : Parts) (n : ℕ) : Type 0 where
  pub some : 0 < n
  pub within : n ≤ length piece
  pub led : led_through old (take n piece) ≡ led_stated new p

-- so it is with so many bytes, or nothing is done
abbrev pub TakesParts : (old new : NTriplesReader) → (piece : List ℕ) → Option (Parts × ℕ) → Type 0
TakesParts old new piece None = led_of new ≡ led_of old
TakesParts old new piece (Some w) = CompletesTriple old new piece w.0 w.1

-- what the end of the text gives between two characters
abbrev pub text_end : NTriplesReader → Meaning
text_end r = rest (stating r.request) (cursor_state r.cursor, r.numbering) []

-- what the end of the text gives
abbrev pub body_end : NTriplesReader → Meaning
body_end r = rest (ntriples r.request) (led_of r) []

-- a fault was found in a state
abbrev pub IsStoppedMode : TokenMode → Type 0
IsStoppedMode (Broken e) = Unit {0}
IsStoppedMode m = ⊥

-- nothing more is read in a state
abbrev pub IsStopped : LineState → Type 0
IsStopped s = IsStoppedMode s.1

-- the refusal of a fault, where the last statement ends after so many bytes
abbrev pub refusal_after : ℕ → Fault → Refusal
refusal_after last Syntax = refusal.Syntax last
refusal_after last TermTooLong = refusal.TermTooLong

-- a refusal for a fault
pub record RefusesFault (e : Refusal) (last : ℕ) (P : Fault → Type 0) : Type 0 where
  pub fault : Fault
  pub is : P fault
  pub refusal : e ≡ refusal_after last fault

-- a refusal by a state, where the last statement ends after so many bytes
abbrev pub FaultsAs : Refusal → ℕ → LineState → Type 0
FaultsAs e last s = RefusesFault e last (λ f. s ≡ broken f)

-- the same by what a machine gives, or for want of memory
abbrev pub FaultyAfter : Refusal → ℕ → Led × List Statement → Type 0
FaultyAfter e last t = (e ≡ refusal.NoMemory) ⊎ RefusesFault e (end_after last t.1) (λ f. t.0.1.1.0 ≡ broken f)

-- the same by bytes, one after another
abbrev pub FaultsAfter : NTriplesReader → List ℕ → Refusal → Type 0
FaultsAfter old bytes e = FaultyAfter e old.last (led_through old bytes)

-- the same by the end of the text
abbrev pub ConcludesAs : Refusal → ℕ → Ending → Type 0
ConcludesAs e last end = RefusesFault e last (λ f. end ≡ Faulty f)

-- the same by what a machine gives at the end of the text, or for want of memory
abbrev pub FaultyEnd : Refusal → ℕ → Meaning → Type 0
FaultyEnd e last t = (e ≡ refusal.NoMemory) ⊎ RefusesFault e (end_after last t.0) (λ f. t.1 ≡ Faulty f)

-- the text ends without a fault, and gives the rest of its triples
pub record EndsWell (before after : List RdfTriple) (t : Meaning) : Type 0 where
  pub whole : t.1 ≡ Whole
  pub given : after ≡ before ++ all_stated t.0

-- where the decoder is lost the grammar is broken
abbrev pub Sound : Led → Type 0
Sound s = s.0 ≡ Lost → IsStopped s.1.1.0

-- the same of a reader that lost no character, by the end of the text
abbrev pub FaultsAtEnd : NTriplesReader → Refusal → Type 0
FaultsAtEnd old e = Sound (led_of old) → FaultyEnd e old.last (body_end old)
