-- What the code keeps of an upload: what opened it, and the reader of its text; and of a patch what opened it. No
-- clause of a schedule's run cites this.
use Rattle.std.specs.Prelude.{◌≡◌, ℕ, true, List, [], ◌++◌, is_some, if◌then◌else◌, Option, None, Some}
use Rattle.gs_model.specs.Triples.{RdfTriple}
use Rattle.gs_body.specs.Bodies.{Meaning}
use Rattle.gs_term.specs.declared.names.Target.{Target}
use Rattle.gs_event.specs.declared.events.Action.{Action}
use Rattle.gs_event.specs.declared.events.Action.TheVariants.{Open}
use Rattle.gs_upload.specs.declared.languages.Language.{Language}
use Rattle.gs_upload.specs.declared.readers.TextReader.{TextReader}
use Rattle.gs_upload.specs.declared.readings.Reading.{Reading}
use Rattle.gs_upload.specs.Languages.{TextContext, meaning_in_context}
use Rattle.gs_upload.specs.Readings.{FeedsPieces, MeansAll, FeedsReading}
use Rattle.gs_upload.specs.Readers.{meaning_of_text, LeadsText, is_closed_text, IsFedText, IsTextFedBy}
use Rattle.gs_feeding.specs.declared.texts.SeatText.{SeatText}
use Rattle.gs_feeding.specs.declared.texts.SeatText.TheVariants as seat_text
use Rattle.gs_feeding.specs.declared.openings.Opening.{Opening}
use Rattle.gs_feeding.specs.Bases.{base_under, name_in, target_name}
use Rattle.gs_feeding.specs.Receiving.{Fed, Unfed, InPart, Faulted, Finished, IsFaulty, Receives, Closes}

-- the upload that an action opened, by the number of its request; no other action opened one
abbrev pub opened_by : Action → ℕ → Option Opening
opened_by (Open k since) r = Some (record { request = r; target = target_name k })
opened_by action r = None

-- the patch of a target, by the number of its request
abbrev pub patch_opening : Target → ℕ → Opening
patch_opening t r = record { request = r; target = name_in t }

-- how the first text of an upload is read
abbrev pub first_context : Language → Opening → TextContext
first_context l o = record { language = l; base = base_under o.target; request = o.request }

-- Some triples came of a text that was fed in pieces of so many bytes; where it has a fault, all are dropped.
pub record FedInPieces (old new : Reading TextReader) (text : List ℕ) (cut : ℕ) (given : List RdfTriple) : Type 0 where
  pub triples : List RdfTriple
  pub cuts : FeedsPieces meaning_of_text LeadsText is_closed_text cut old new text [] triples
  pub feeds : FeedsReading meaning_of_text LeadsText is_closed_text old new text [] triples
  pub kept : given ≡ (if is_some new.fault then [] else triples)

-- a text ended with all that it means, or with a fault
abbrev pub Ended : Language → Reading TextReader → SeatText → Option (List RdfTriple) → Type 0
Ended l k t None = (t ≡ seat_text.Faulted l)
    × ((means : List ℕ → Meaning) (x : List ℕ) (ts : List RdfTriple) → IsFedText k means x ts → IsFaulty means x)
Ended l k t (Some given) = (t ≡ seat_text.Finished l) × (k.fault ≡ None)
    × ((means : List ℕ → Meaning) (x : List ℕ) (ts : List RdfTriple) → IsFedText k means x ts → MeansAll (means x) (ts ++ given))

-- a text was fed, or more than one
abbrev pub IsBegun : Fed → Type 0
IsBegun Unfed = ⊥
IsBegun f = Unit {0}

-- the language of what was fed to a seat, if anything was
abbrev pub fed_language : SeatText → Option Language
fed_language seat_text.Unfed = None
fed_language (seat_text.Fed l k) = Some l
fed_language (seat_text.Faulted l) = Some l
fed_language (seat_text.Finished l) = Some l

-- what was fed to a seat
abbrev pub WasFed : SeatText → Fed → Type 0
WasFed seat_text.Unfed Unfed = Unit {0}
WasFed (seat_text.Fed l k) (InPart c x ps ts) = (l ≡ c.language) × (k.fault ≡ None) × IsFedText k (meaning_in_context c) x ts
    × IsTextFedBy k (meaning_in_context c) ps ts
WasFed (seat_text.Fed l k) (Faulted m) = (l ≡ m) × (is_some k.fault ≡ true)
WasFed (seat_text.Faulted k) (Faulted l) = k ≡ l
WasFed (seat_text.Finished k) (Finished l) = k ≡ l
WasFed b f = ⊥

-- y is fed to a text in pieces of n bytes, and gives some triples
abbrev pub FeedsText : ℕ → TextContext → SeatText → List ℕ → List RdfTriple → SeatText → Type 0
FeedsText n c b y given e = (f : Fed) → WasFed b f → (g : Fed) × WasFed e g × Receives n c f y given g

-- the same, where something was fed before
abbrev pub GoesOnText : ℕ → SeatText → List ℕ → List RdfTriple → SeatText → Type 0
GoesOnText n b y given e = (c : TextContext) (f : Fed) → WasFed b f → IsBegun f → (g : Fed) × WasFed e g × Receives n c f y given g

-- a text ends, and gives some triples, or has a fault
abbrev pub EndsText : SeatText → Option (List RdfTriple) → SeatText → Type 0
EndsText b given e = (f : Fed) → WasFed b f → (g : Fed) × WasFed e g × Closes f given g
