-- What an upload or a patch that was given up, or never committed, leaves of the abstract store: nothing.
use Rattle.std.specs.Prelude.{◌≡◌, ℕ, nat_eq, Bool, true, false, cond, [], ◌∷◌, ◌++◌}
use Rattle.gs_event.specs.declared.events.Action.{Action}
use Rattle.gs_event.specs.declared.events.Action.TheVariants.{Commit, CommitPatch, Cancel}
use Rattle.gs_event.specs.declared.events.Event.{Event}
use Rattle.gs_event.specs.declared.events.Event.TheVariants.{Seat as At, Reclaim}
use Rattle.gs_event.specs.declared.answers.Answer.{Answer}
use Rattle.gs_event.specs.declared.answers.Answer.TheVariants.{Opened, Status, Cancelled}
use Rattle.gs_event.specs.Histories.{History, Start, IsLegal, points_of}

-- an answer ends the upload or the patch of its seat: it was committed, with whatever status, or given up
abbrev pub ends_upload : Action → Answer → Bool
ends_upload Commit (Status s name number) = true
ends_upload (CommitPatch ops) (Status s name number) = true
ends_upload Cancel Cancelled = true
ends_upload action a = false

-- the event does not end that of this seat
abbrev pub LeavesUpload : ℕ → Event → Answer → Type 0
LeavesUpload seat (Reclaim n) a = Unit {0}
LeavesUpload seat (At s action) a = s ≡ seat → ends_upload action a ≡ false

-- none of these events does
abbrev pub LeaveUpload : ℕ → History → Type 0
LeaveUpload seat [] = Unit {0}
LeaveUpload seat (x ∷ before) = LeaveUpload seat before × LeavesUpload seat x.0 x.1

-- whether the event is one of this seat
abbrev pub is_of_seat : ℕ → Event → Bool
is_of_seat seat (Reclaim n) = false
is_of_seat seat (At s action) = nat_eq s seat

-- these events but those of this seat
abbrev pub apart : ℕ → History → History
apart seat [] = []
apart seat (x ∷ before) = cond (is_of_seat seat x.0) (apart seat before) (x ∷ apart seat before)

-- A seat opened an upload or a patch, and did not commit it: the points are those of the history without all that the seat did since.
abbrev pub OpenUploadsLeaveNothing : Type 0
OpenUploadsLeaveNothing = (start : Start) (before since : History) (seat request : ℕ) (open_action : Action)
    → IsLegal start (since ++ (At seat open_action, Opened request) ∷ before) → LeaveUpload seat since
    → points_of (since ++ (At seat open_action, Opened request) ∷ before) ≡ points_of (apart seat since ++ before)

-- It gave it up, and any events followed: the points are those of the history in which the seat never opened it.
abbrev pub GivenUpUploadsLeaveNothing : Type 0
GivenUpUploadsLeaveNothing = (start : Start) (before since later : History) (seat request : ℕ) (open_action : Action)
    → IsLegal start (later ++ (At seat Cancel, Cancelled) ∷ (since ++ (At seat open_action, Opened request) ∷ before)) → LeaveUpload seat since
    → points_of (later ++ (At seat Cancel, Cancelled) ∷ (since ++ (At seat open_action, Opened request) ∷ before))
    ≡ points_of (later ++ (apart seat since ++ before))
