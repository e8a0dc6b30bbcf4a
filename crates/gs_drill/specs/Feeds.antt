-- What a feed does to the upload of a seat.
use Rattle.std.specs.Prelude.{◌≡◌, ℕ, Bool, true, false, nat_eq, if◌then◌else◌, List, [], ◌∷◌, MatchOption}
use Rattle.std.specs.List.{slice_get}
use Rattle.gs_model.specs.Triples.{RdfTriple}
use Rattle.gs_model.specs.declared.refusals.Refusal.{Refusal}
use Rattle.gs_model.specs.declared.refusals.Refusal.TheVariants.{BadSeat, WrongPhase}
use Rattle.gs_event.specs.declared.events.Action.{Action}
use Rattle.gs_event.specs.declared.events.Action.TheVariants.{Stage}
use Rattle.gs_event.specs.declared.events.Event.{Event}
use Rattle.gs_event.specs.declared.events.Event.TheVariants.{Seat as At, Reclaim}
use Rattle.gs_event.specs.declared.answers.Answer.{Answer}
use Rattle.gs_event.specs.declared.answers.Answer.TheVariants.{Opened, Staged, Status, Cancelled, Refused}
use Rattle.gs_event.specs.Phases.{Idle, Writing, Patching, Reading}
use Rattle.gs_event.specs.Views.{SeatView}
use Rattle.gs_event.specs.Waste.{Shown}
use Rattle.gs_event.specs.Steps.{Steps}
use Rattle.gs_upload.specs.declared.languages.Language.{Language}
use Rattle.gs_upload.specs.Languages.{TextContext}
use Rattle.gs_feeding.specs.Bases.{first_base}
use Rattle.gs_feeding.specs.Receiving.{Fed, Unfed, Receives}
use Rattle.gs_drill.specs.Printing.{answer_text, fed_text}

-- what the store shows, and what was fed to each seat
pub record Desk : Type 0 where
  pub shown : Shown
  pub fed : ℕ → Fed

-- the same, but this was fed to seat s
abbrev pub with_fed : (ℕ → Fed) → ℕ → Fed → ℕ → Fed
with_fed fed s f n = if nat_eq n s then f else fed n

-- the desk where this was fed to seat s
abbrev pub desk_with : Desk → ℕ → Fed → Desk
desk_with d s f = record { shown = d.shown; fed = with_fed d.fed s f }

-- the answer says that an upload, a patch or a read begins anew or ends
abbrev pub is_boundary : Answer → Bool
is_boundary (Opened r) = true
is_boundary (Status s name number) = true
is_boundary Cancelled = true
is_boundary a = false

-- what was fed to each seat, after an answer
abbrev pub fed_after : (ℕ → Fed) → Event → Answer → ℕ → Fed
fed_after fed (Reclaim n) a = fed
fed_after fed (At s action) a = if is_boundary a then with_fed fed s Unfed else fed

-- an event is answered, in one step of the store
pub record Responds (d : Desk) (event : Event) (a : Answer) (e : Desk) : Type 0 where
  pub steps : Steps d.shown event a e.shown
  pub fed : e.fed ≡ fed_after d.fed event a

-- the action that stages these triples
abbrev pub IsStage : List RdfTriple → Action → Type 0
IsStage given (Stage ts) = ts.items ≡ given
IsStage given action = ⊥

-- triples are staged by one event; where there are none, by no event, and the answer counts as `Staged`
abbrev pub StagesByEvent : Desk → ℕ → List RdfTriple → Answer → Desk → Type 0
StagesByEvent d s [] a e = (a ≡ Staged) × (e ≡ d)
StagesByEvent d s (t ∷ ts) a e = (action : Action) × IsStage (t ∷ ts) action × Responds d (At s action) a e

-- a refusal stands in the place of `fed`
abbrev pub feed_text : Answer → List ℕ
feed_text Staged = fed_text
feed_text a = answer_text a

-- y is fed in pieces of n bytes to an upload, whose first text is read as c says, and what it gives is staged
pub record FeedsUpload (n : ℕ) (c : TextContext) (d : Desk) (s : ℕ) (y text : List ℕ) (e : Desk) : Type 0 where
  pub given : List RdfTriple
  pub fed : Fed
  pub receives : Receives n c (d.fed s) y given fed
  pub answer : Answer
  pub staged : StagesByEvent (desk_with d s fed) s given answer e
  pub printed : text ≡ feed_text answer

-- no event is made
abbrev pub RefusesText : Refusal → Desk → List ℕ → Desk → Type 0
RefusesText refusal d text e = (text ≡ answer_text (Refused refusal)) × (e ≡ d)

-- the same by what the seat is doing: one that has no upload has no text to feed
abbrev pub FeedsSeat : SeatView → ℕ → Desk → ℕ → Language → List ℕ → List ℕ → Desk → Type 0
FeedsSeat Idle n d s l y text e = RefusesText WrongPhase d text e
FeedsSeat (Writing k r g since) n d s l y text e = FeedsUpload n (record { language = l; base = first_base k; request = r }) d s y text e
FeedsSeat (Patching t r since) n d s l y text e = RefusesText WrongPhase d text e
FeedsSeat (Reading left) n d s l y text e = RefusesText WrongPhase d text e

-- y, in language l, is fed in pieces of n bytes to seat s, which prints the text
abbrev pub DoesFeed : ℕ → Desk → ℕ → Language → List ℕ → List ℕ → Desk → Type 0
DoesFeed n d s l y text e = MatchOption (slice_get d.shown.view.seats s) (RefusesText BadSeat d text e) (λ p. FeedsSeat p n d s l y text e)
