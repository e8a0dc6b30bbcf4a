-- What the commit numbers tell, and what a write on condition keeps (`Store-Commit` and `If-Store-Commit`, this project's own fields).
use Rattle.std.specs.Prelude.{◌≡◌, ◌⊎◌, ◌<◌, ◌≤◌, ℕ, ◌+◌, Bool, true, false, List, [], ◌∷◌, ◌++◌, Option, Some, MatchOption}
use Rattle.std.specs.List.{count_by}
use Rattle.gs_term.specs.declared.names.Target.{Target}
use Rattle.gs_term.specs.declared.names.Target.TheVariants.{Named}
use Rattle.gs_event.specs.declared.events.Scope.{Scope}
use Rattle.gs_event.specs.declared.events.Action.TheVariants.{Head, Pin}
use Rattle.gs_event.specs.declared.events.Event.{Event}
use Rattle.gs_event.specs.declared.events.Event.TheVariants.{Seat as At}
use Rattle.gs_event.specs.declared.answers.Answer.{Answer}
use Rattle.gs_event.specs.declared.answers.Answer.TheVariants.{Status, Pinned}
use Rattle.gs_event.specs.Datasets.{graph_at, is_there}
use Rattle.gs_event.specs.Operations.{Operation, Puts, Posts, Patches, Deletes}
use Rattle.gs_event.specs.Conditions.{Asked, asked_since}
use Rattle.gs_event.specs.Verdicts.{operation_target}
use Rattle.gs_event.specs.Views.{is_written}
use Rattle.gs_event.specs.Histories.{History, Start, IsLegal, dataset_after, commit_after, operation_by}
use Rattle.gs_protocol_laws.specs.ReadBack.{SpareSince}

-- The number of the last commit is the start's, and one more for each write that was answered 201 or 204.
abbrev pub CommitsCountWrites : Type 0
CommitsCountWrites = (start : Start) (h : History) → IsLegal start h → commit_after start h ≡ start.commit + count_by (λ x. is_written x.1) h

-- A GET reports the number of the last commit before it,
abbrev pub PinsReportTheCommit : Type 0
PinsReportTheCommit = (start : Start) (h : History) (seat s number : ℕ) (c : Scope) → IsLegal start ((At seat (Pin c), Pinned s number) ∷ h) → number ≡ commit_after start h

-- so does a HEAD,
abbrev pub HeadsReportTheCommit : Type 0
HeadsReportTheCommit = (start : Start) (h : History) (seat s number : ℕ) (name : Option (List ℕ)) (c : Scope) → IsLegal start ((At seat (Head c), Status s name number) ∷ h)
    → number ≡ commit_after start h

-- and a write that was answered 201 or 204 the number of its own.
abbrev pub WritesReportTheirCommit : Type 0
WritesReportTheirCommit = (start : Start) (h : History) (e : Event) (s number : ℕ) (name : Option (List ℕ)) → IsLegal start ((e, Status s name number) ∷ h)
    → is_written (Status s name number) ≡ true → number ≡ commit_after start ((e, Status s name number) ∷ h)

-- whether an operation heeds its condition: a new graph does not, and no question has one
abbrev pub heeds_condition : Operation → Bool
heeds_condition (Puts t g) = true
heeds_condition (Posts t g) = true
heeds_condition (Patches t ops) = true
heeds_condition (Deletes t) = true
heeds_condition q = false

-- Nothing is lost: where a write took effect on the condition of a number, and that was no greater than the number of the last commit after
-- the events before, then nobody wrote its target since these, and the target had the graph still that it had after them.
abbrev pub ConditionsLoseNothing : Type 0
ConditionsLoseNothing = (start : Start) (before later : History) (x : Event × Answer) (n : ℕ) (q : Operation) (t : Target) → IsLegal start (x ∷ (later ++ before))
    → n ≤ commit_after start before → heeds_condition q ≡ true → operation_by (later ++ before) x.0 x.1 ≡ Some (asked_since (Some n) q) → is_written x.1 ≡ true
    → operation_target start.setting (dataset_after start (later ++ before)) q ≡ Some t
    → SpareSince start t before later × (graph_at (dataset_after start (later ++ before)) t ≡ graph_at (dataset_after start before) t)

-- the event was answered 201 or 204, and what it asked has this target
abbrev pub WritesTarget : Start → History → Event × Answer → Target → Type 0
WritesTarget start before x t = (is_written x.1 ≡ true)
    × MatchOption (operation_by before x.0 x.1) ⊥ (λ q. operation_target start.setting (dataset_after start before) q.operation ≡ Some t)

-- the last event that wrote the target has this number; where none did, it is the start's
abbrev pub IsLastWrite : Start → History → Target → ℕ → Type 0
IsLastWrite start [] t n = n ≡ start.commit
IsLastWrite start (x ∷ before) t n = (WritesTarget start before x t × (n ≡ commit_after start (x ∷ before)))
    ⊎ ((WritesTarget start before x t → ⊥) × IsLastWrite start before t n)

-- the event was a Delete of a name, and was answered 204
abbrev pub DeletesName : History → Event × Answer → Type 0
DeletesName before x = (is_written x.1 ≡ true)
    × MatchOption (operation_by before x.0 x.1) ⊥ (λ q. (name : List ℕ) × (q.operation ≡ Deletes (Named name)))

-- the last Delete of a name that was answered 204 has this number; where there was none, it is the start's
abbrev pub IsLastDelete : Start → History → ℕ → Type 0
IsLastDelete start [] n = n ≡ start.commit
IsLastDelete start (x ∷ before) n = (DeletesName before x × (n ≡ commit_after start (x ∷ before)))
    ⊎ ((DeletesName before x → ⊥) × IsLastDelete start before n)

-- The condition's number is less than this one, which is that of the last write of the target, or, where there is no such graph, of the
-- last Delete of a name; and it was taken.
pub record IsLate (start : Start) (h : History) (q : Asked) (t : Target) (number : ℕ) : Type 0 where
  pub condition : ℕ
  pub since : q.since ≡ Some condition
  pub above : condition < number
  pub taken : number ≤ commit_after start h
  pub there : is_there (dataset_after start h) t ≡ true → IsLastWrite start h t number
  pub missing : is_there (dataset_after start h) t ≡ false → IsLastDelete start h number

-- A write that was answered 412 came too late: it had a condition, whose number is less than the one that it was answered; and that is
-- the number of the last write of its target, or, where there is no such graph, of the last Delete of a name.
abbrev pub LateWritesWereLate : Type 0
LateWritesWereLate = (start : Start) (h : History) (e : Event) (name : Option (List ℕ)) (number : ℕ) (q : Asked) (t : Target)
    → IsLegal start ((e, Status 412 name number) ∷ h) → operation_by h e (Status 412 name number) ≡ Some q
    → operation_target start.setting (dataset_after start h) q.operation ≡ Some t → IsLate start h q t number
