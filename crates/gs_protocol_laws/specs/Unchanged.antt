-- What stays as it was where nothing was written (SPARQL 1.1 Graph Store HTTP Protocol, sections 5.2 and 5.6).
use Rattle.std.specs.Prelude.{◌≡◌, ℕ, false, List, [], ◌∷◌, ◌++◌, Option}
use Rattle.gs_term.specs.declared.names.Target.{Target}
use Rattle.gs_event.specs.declared.events.Scope.TheVariants.{One}
use Rattle.gs_event.specs.declared.events.Action.TheVariants.{Head}
use Rattle.gs_event.specs.declared.events.Event.{Event}
use Rattle.gs_event.specs.declared.events.Event.TheVariants.{Seat as At}
use Rattle.gs_event.specs.declared.answers.Answer.{Answer}
use Rattle.gs_event.specs.declared.answers.Answer.TheVariants.{Status}
use Rattle.gs_event.specs.Views.{is_written}
use Rattle.gs_event.specs.Histories.{History, Start, IsLegal, dataset_after, state_after}
use Rattle.gs_protocol_laws.specs.Writes.{status_without}
use Rattle.gs_protocol_laws.specs.ReadBack.{SpareSince, Shows}

-- An event that was not answered 201 or 204 leaves all graphs as they were: an opening, a stage, a piece, a giving up, a refusal, and
-- each write that was answered otherwise.
abbrev pub OnlyWritesChange : Type 0
OnlyWritesChange = (start : Start) (before : History) (x : Event × Answer) → IsLegal start (x ∷ before) → is_written x.1 ≡ false
    → dataset_after start (x ∷ before) ≡ dataset_after start before

-- So are the number of the last commit, and those of the last writes.
abbrev pub OnlyWritesChangeNumbers : Type 0
OnlyWritesChangeNumbers = (start : Start) (before : History) (x : Event × Answer) → IsLegal start (x ∷ before) → is_written x.1 ≡ false
    → state_after start (x ∷ before) ≡ state_after start before

-- A target that nothing wrote since the start is missing: 404, and for the default graph 200 and no line.
abbrev pub UnwrittenIsMissing : Type 0
UnwrittenIsMissing = (start : Start) (h : History) (t : Target) → IsLegal start h → SpareSince start t [] h
    → Shows start h t (status_without t) []

-- Two HEADs of a target between which nothing wrote it have one status.
abbrev pub HeadsAgree : Type 0
HeadsAgree = (start : Start) (before between : History) (seat seat_later s s_later number number_later : ℕ) (t : Target) (name name_later : Option (List ℕ))
    → IsLegal start ((At seat_later (Head (One t)), Status s_later name_later number_later) ∷ (between ++ (At seat (Head (One t)), Status s name number) ∷ before))
    → SpareSince start t ((At seat (Head (One t)), Status s name number) ∷ before) between → s_later ≡ s
