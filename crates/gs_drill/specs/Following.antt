-- What an answer leaves of the openings, of the patches and of the texts of all seats.
use Rattle.std.specs.Prelude.{ℕ, List, Option, Some, None, if◌then◌else◌}
use Rattle.std.specs.List.{slice_set}
use Rattle.gs_event.specs.declared.events.Action.{Action}
use Rattle.gs_event.specs.declared.events.Action.TheVariants.{OpenPatch}
use Rattle.gs_event.specs.declared.events.Event.{Event}
use Rattle.gs_event.specs.declared.events.Event.TheVariants.{Seat as At, Reclaim}
use Rattle.gs_event.specs.declared.answers.Answer.{Answer}
use Rattle.gs_event.specs.declared.answers.Answer.TheVariants.{Opened, Status, Cancelled}
use Rattle.gs_feeding.specs.declared.texts.SeatText.{SeatText}
use Rattle.gs_feeding.specs.declared.texts.SeatText.TheVariants.{Unfed}
use Rattle.gs_feeding.specs.declared.openings.Opening.{Opening}
use Rattle.gs_feeding.specs.SeatTexts.{opened_by, patch_opening}
use Rattle.gs_drill.specs.Feeds.{is_boundary}

-- the patch that an action opened, by the number of its request; no other action opened one
abbrev pub patch_opened_by : Action → ℕ → Option Opening
patch_opened_by (OpenPatch t since) r = Some (patch_opening t r)
patch_opened_by action r = None

-- what the seats hold after an answer to seat s, where `by` says what an action opened
abbrev pub held_reset : (Action → ℕ → Option Opening) → List (Option Opening) → ℕ → Action → Answer → List (Option Opening)
held_reset by os s action (Opened r) = slice_set os s (by action r)
held_reset by os s action (Status status name number) = slice_set os s None
held_reset by os s action Cancelled = slice_set os s None
held_reset by os s action a = os

-- the same after an answer to an event
abbrev pub held_after : (Action → ℕ → Option Opening) → List (Option Opening) → Event → Answer → List (Option Opening)
held_after by os (Reclaim n) a = os
held_after by os (At s action) a = held_reset by os s action a

-- what opened the upload that each seat has
abbrev pub openings_after : List (Option Opening) → Event → Answer → List (Option Opening)
openings_after os event a = held_after opened_by os event a

-- what opened the patch that each seat has
abbrev pub patches_after : List (Option Opening) → Event → Answer → List (Option Opening)
patches_after os event a = held_after patch_opened_by os event a

-- what was fed to each seat
abbrev pub texts_after : List SeatText → Event → Answer → List SeatText
texts_after bs (Reclaim n) a = bs
texts_after bs (At s action) a = if is_boundary a then slice_set bs s Unfed else bs
