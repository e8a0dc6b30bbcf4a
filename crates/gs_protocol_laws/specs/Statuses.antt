-- What a status tells of the graphs before it (SPARQL 1.1 Graph Store HTTP Protocol, section 5).
use Rattle.std.specs.Prelude.{◌≡◌, ◌↔◌, ◌<◌, ℕ, ◌+◌, List, ◌∷◌, Option, Some, None}
use Rattle.gs_model.specs.Graphs.{Graph}
use Rattle.gs_term.specs.declared.names.Target.{Target}
use Rattle.gs_event.specs.declared.events.Scope.{Scope}
use Rattle.gs_event.specs.declared.events.Scope.TheVariants.{One}
use Rattle.gs_event.specs.declared.events.Action.TheVariants.{Head, Pin}
use Rattle.gs_event.specs.declared.events.Event.{Event}
use Rattle.gs_event.specs.declared.events.Event.TheVariants.{Seat as At}
use Rattle.gs_event.specs.declared.answers.Answer.{Answer}
use Rattle.gs_event.specs.declared.answers.Answer.TheVariants.{Status, Pinned}
use Rattle.gs_event.specs.Operations.{Creates, Looks, status_of}
use Rattle.gs_event.specs.Conditions.{Asked, asked_since}
use Rattle.gs_event.specs.Verdicts.{operation_target}
use Rattle.gs_event.specs.Phases.{Idle}
use Rattle.gs_event.specs.Histories.{History, Start, IsLegal, phase_of, dataset_after, commit_after, operation_by}
use Rattle.gs_protocol_laws.specs.ReadBack.{IsWrite, name_answered}

-- the status of a HEAD of a graph, or of all of them, after these events: 200 or 404
abbrev pub head_status : Start → History → Scope → ℕ
head_status start h c = status_of start.setting (dataset_after start h) (Looks c)

-- At an idle seat the one legal answer to a HEAD is that status, no name, and the number of the last commit.
abbrev pub IdleHeadsAreTold : Type 0
IdleHeadsAreTold = (start : Start) (h : History) (seat : ℕ) (c : Scope) (a : Answer) → IsLegal start h → seat < start.seats → phase_of h seat ≡ Idle
    → (IsLegal start ((At seat (Head c), a) ∷ h) ↔ (a ≡ Status (head_status start h c) None (commit_after start h)))

-- And to the pin of a GET it is the same status and number.
abbrev pub IdlePinsAreTold : Type 0
IdlePinsAreTold = (start : Start) (h : History) (seat : ℕ) (c : Scope) (a : Answer) → IsLegal start h → seat < start.seats → phase_of h seat ≡ Idle
    → (IsLegal start ((At seat (Pin c), a) ∷ h) ↔ (a ≡ Pinned (head_status start h c) (commit_after start h)))

-- Where an event that asked anything of a target was answered this status, a HEAD of the target before it had that one.
abbrev pub TellsBefore : ℕ → ℕ → Type 0
TellsBefore status head = (start : Start) (before : History) (e : Event) (q : Asked) (name : Option (List ℕ)) (number : ℕ) (t : Target) → IsLegal start ((e, Status status name number) ∷ before)
    → operation_by before e (Status status name number) ≡ Some q → operation_target start.setting (dataset_after start before) q.operation ≡ Some t
    → head_status start before (One t) ≡ head

-- 201 tells that the graph was made: there was none.
abbrev pub MadeGraphsWereMissing : Type 0
MadeGraphsWereMissing = TellsBefore 201 404

-- 204 tells that it was there.
abbrev pub ChangedGraphsWereThere : Type 0
ChangedGraphsWereThere = TellsBefore 204 200

-- 404 tells that there was none.
abbrev pub MissingGraphsWereMissing : Type 0
MissingGraphsWereMissing = TellsBefore 404 404

-- A new graph that took effect is answered 201, a name, and the number of its commit.
abbrev pub NewGraphsAreNamed : Type 0
NewGraphsAreNamed = (start : Start) (before : History) (x : Event × Answer) (r : ℕ) (g : Graph) → IsLegal start (x ∷ before) → IsWrite before x (Creates r g)
    → (name : List ℕ) × (x.1 ≡ Status 201 (Some name) (commit_after start before + 1))

-- after the events before, this one asked for a new graph, and was answered 201 and this name
pub record IsNewGraph (before : History) (x : Event × Answer) (name : List ℕ) : Type 0 where
  pub request : ℕ
  pub graph : Graph
  pub condition : Option ℕ
  pub number : ℕ
  pub asks : operation_by before x.0 x.1 ≡ Some (asked_since condition (Creates request graph))
  pub answer : x.1 ≡ Status 201 (Some name) number

-- No other answer has a name.
abbrev pub OnlyNewGraphsAreNamed : Type 0
OnlyNewGraphsAreNamed = (start : Start) (before : History) (x : Event × Answer) (name : List ℕ) → IsLegal start (x ∷ before) → name_answered x.1 ≡ Some name
    → IsNewGraph before x name
