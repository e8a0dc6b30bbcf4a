-- What a GET is given by its pieces, in a history of events with their answers (SPARQL 1.1 Graph Store HTTP Protocol, section 5.2).
use Rattle.std.specs.Prelude.{◌≡◌, ℕ, ◌+◌, nat_eq, Bool, true, false, cond, List, [], ◌∷◌, ◌++◌, take}
use Rattle.std.specs.List.{concat}
use Rattle.gs_texts.specs.Lines.{Written}
use Rattle.gs_event.specs.declared.events.Scope.{Scope}
use Rattle.gs_event.specs.declared.events.Action.{Action}
use Rattle.gs_event.specs.declared.events.Action.TheVariants.{Pin, Piece, Cancel}
use Rattle.gs_event.specs.declared.events.Event.{Event}
use Rattle.gs_event.specs.declared.events.Event.TheVariants.{Seat as At, Reclaim}
use Rattle.gs_event.specs.declared.answers.Answer.{Answer}
use Rattle.gs_event.specs.declared.answers.Answer.TheVariants.{Pinned, Lines, Cancelled}
use Rattle.gs_event.specs.Datasets.{lines_in}
use Rattle.gs_event.specs.Histories.{History, Start, IsLegal, dataset_after}

-- an answer ends the read of its seat: it has the last piece, or the read was given up
abbrev pub ends_read : Action → Answer → Bool
ends_read (Piece n) (Lines b end) = end
ends_read Cancel Cancelled = true
ends_read action a = false

-- the event does not end the read of this seat
abbrev pub LeavesRead : ℕ → Event → Answer → Type 0
LeavesRead seat (Reclaim n) a = Unit {0}
LeavesRead seat (At s action) a = s ≡ seat → ends_read action a ≡ false

-- none of these events does
abbrev pub LeaveRead : ℕ → History → Type 0
LeaveRead seat [] = Unit {0}
LeaveRead seat (x ∷ before) = LeaveRead seat before × LeavesRead seat x.0 x.1

-- the bytes that are given for an action
abbrev pub bytes_given : Action → Answer → List ℕ
bytes_given (Piece n) (Lines b end) = b.items
bytes_given action a = []

-- those that an event gives to a seat
abbrev pub event_bytes : ℕ → Event → Answer → List ℕ
event_bytes seat (Reclaim n) a = []
event_bytes seat (At s action) a = cond (nat_eq s seat) (bytes_given action a) []

-- those that these events gave to it, in their order
abbrev pub bytes_to : ℕ → History → List ℕ
bytes_to seat [] = []
bytes_to seat (x ∷ before) = bytes_to seat before ++ event_bytes seat x.0 x.1

-- A whole GET: after the events before, the seat pinned a graph, or all of them, and was answered 200; it was given pieces since, among events
-- of other seats, and just now the last of them. These are their bytes.
pub record IsWholeGet (seat : ℕ) (c : Scope) (before whole : History) (bytes : List ℕ) : Type 0 where
  pub since : History
  pub count : ℕ
  pub piece : Written
  pub number : ℕ
  pub events : whole ≡ (At seat (Piece count), Lines piece true) ∷ (since ++ (At seat (Pin c), Pinned 200 number) ∷ before)
  pub goes_on : LeaveRead seat since
  pub given : bytes ≡ bytes_to seat ((At seat (Piece count), Lines piece true) ∷ since)

-- A whole GET is given the lines that its graph, or all graphs, had when it was pinned, whatever other seats did since.
abbrev pub GetsGiveTheirLines : Type 0
GetsGiveTheirLines = (start : Start) (before whole : History) (seat : ℕ) (c : Scope) (bytes : List ℕ) → IsLegal start whole
    → IsWholeGet seat c before whole bytes → bytes ≡ concat (lines_in (dataset_after start before) c)

-- how many lines an action asked for, where it was answered with lines
abbrev pub lines_asked : Action → Answer → ℕ
lines_asked (Piece n) (Lines b end) = n
lines_asked action a = 0

-- as many as an event of this seat asked for
abbrev pub event_lines : ℕ → Event → Answer → ℕ
event_lines seat (Reclaim n) a = 0
event_lines seat (At s action) a = cond (nat_eq s seat) (lines_asked action a) 0

-- as many as its pieces asked for in these events
abbrev pub lines_to : ℕ → History → ℕ
lines_to seat [] = 0
lines_to seat (x ∷ before) = lines_to seat before + event_lines seat x.0 x.1

-- A GET that has had only some of its pieces, as one that is cut off, was given the first of the lines that it would
-- have been given whole, in their order, and nothing else: as many as its pieces asked for.
abbrev pub CutGetsGiveTheFirst : Type 0
CutGetsGiveTheFirst = (start : Start) (before since : History) (seat number : ℕ) (c : Scope) → IsLegal start (since ++ (At seat (Pin c), Pinned 200 number) ∷ before)
    → LeaveRead seat since
    → bytes_to seat since ≡ concat (take (lines_to seat since) (lines_in (dataset_after start before) c))
