-- Where the code stands in a run: the store, and for each seat what opened its upload or patch and the reader of its
-- text.
use Rattle.std.specs.Prelude.{◌≡◌, ◌<◌, ℕ, Bool, List, length, map, Option, None, Some, MatchOption}
use Rattle.std.specs.List.{slice_get}
use Rattle.gs_model.specs.Triples.{RdfTriple}
use Rattle.gs_upload.specs.declared.languages.Language.{Language}
use Rattle.gs_event.specs.Phases.{Idle, Writing, Patching, Reading}
use Rattle.gs_event.specs.Views.{SeatView}
use Rattle.gs_event.specs.Waste.{Shown}
use Rattle.gs_event.specs.Histories.{Start}
use Rattle.gs_feeding.specs.declared.texts.SeatText.{SeatText}
use Rattle.gs_feeding.specs.declared.openings.Opening.{Opening}
use Rattle.gs_feeding.specs.Bases.{target_name}
use Rattle.gs_feeding.specs.Receiving.{Fed, Unfed, Receives, Closes}
use Rattle.gs_feeding.specs.SeatTexts.{WasFed, first_context, patch_opening}
use Rattle.gs_drill.specs.declared.uploads.Uploads.{Uploads}
use Rattle.gs_drill.specs.Feeds.{Desk, with_fed}
use Rattle.gs_drill.specs.Drills.{RunState, new_state}

-- what opened the upload that the seat has
abbrev pub opening_of : SeatView → Option Opening
opening_of Idle = None
opening_of (Writing k r g since) = Some (record { request = r; target = target_name k })
opening_of (Patching t r since) = None
opening_of (Reading left) = None

-- what opened the patch that the seat has
abbrev pub patch_of : SeatView → Option Opening
patch_of Idle = None
patch_of (Writing k r g since) = None
patch_of (Patching t r since) = Some (patch_opening t r)
patch_of (Reading left) = None

-- what was fed to each seat; nothing was fed to a seat that is not there
abbrev pub AreFed : List SeatText → (ℕ → Fed) → Type 0
AreFed bs fed = (s : ℕ) → MatchOption (slice_get bs s) (fed s ≡ Unfed) (λ b. WasFed b (fed s))

-- y is fed to the text of seat s, which has an upload, in pieces of n bytes
abbrev pub FeedsAt : ℕ → Language → ℕ → List ℕ → List (Option Opening) → List SeatText → List SeatText → List RdfTriple → Type 0
FeedsAt n l s y openings old new given = (o : Opening) → slice_get openings s ≡ Some (Some o) → (fed : ℕ → Fed) → AreFed old fed
    → s < length old → (f : Fed) × AreFed new (with_fed fed s f) × Receives n (first_context l o) (fed s) y given f

-- the text of seat s ends
abbrev pub SeatTextEnds : ℕ → List SeatText → List SeatText → Option (List RdfTriple) → Type 0
SeatTextEnds s old new given = (fed : ℕ → Fed) → AreFed old fed → (f : Fed) × AreFed new (with_fed fed s f) × Closes (fed s) given f

-- what was fed to the seats of a store that shows this
pub record Standing (shown : Shown) (u : Uploads) : Type 0 where
  pub fed : ℕ → Fed
  pub openings : u.openings.items ≡ map opening_of shown.view.seats
  pub patches : u.patches.items ≡ map patch_of shown.view.seats
  pub texts : AreFed u.texts.items fed
  pub even : length u.texts.items ≡ length u.openings.items

-- the desk at which the code so stands
abbrev pub desk_of : {shown : Shown} {u : Uploads} → Standing shown u → Desk
desk_of {shown} st = record { shown = shown; fed = st.fed }

-- wherever the code stands at first, it stands in the end where this leads
abbrev pub MovesDesk : Shown → Uploads → Shown → Uploads → (Desk → Desk → Type 0) → Type 0
MovesDesk old u new w Leads = (st : Standing old u) → (en : Standing new w) × Leads (desk_of st) (desk_of en)

-- the state of the run with that desk and the code's cut, for this `begun`
abbrev pub run_state : Bool → {shown : Shown} {u : Uploads} → Standing shown u → RunState
run_state begun {shown} {u} st = record { begun = begun; cut = u.cut; desk = record { shown = shown; fed = st.fed } }

-- a store begins, and nothing was fed
pub record BeginsStore (shown : Shown) (u : Uploads) (start : Start) : Type 0 where
  pub standing : Standing shown u
  pub is : (begun : Bool) → run_state begun standing ≡ new_state begun start
