-- What a status tells of the graphs before it.
use Rattle.std.proofs.Common.{◌≡◌, ◌⊎◌, inl, inr, ◌<◌, ℕ, ◌+◌, nat_eq, Bool, true, false, ◌||◌, cond, List, ◌∷◌, Option, Some, None, IfSome, refl, sym, ap, ◌∙◌, subst}
use Rattle.gs_model.specs.Graphs.{Graph}
use Rattle.gs_model.specs.declared.refusals.Refusal.TheVariants.{WrongPhase, BadSeat}
use Rattle.gs_term.specs.declared.names.Target.{Target}
use Rattle.gs_term.specs.declared.names.Target.TheVariants.{Named}
use Rattle.gs_event.specs.declared.events.Scope.{Scope}
use Rattle.gs_event.specs.declared.events.Scope.TheVariants.{One, All}
use Rattle.gs_event.specs.declared.events.Action.{Action}
use Rattle.gs_event.specs.declared.events.Action.TheVariants.{Open, OpenPatch, Stage, Commit, CommitPatch, Delete, Head, Pin, Piece, Cancel}
use Rattle.gs_event.specs.declared.events.Event.{Event}
use Rattle.gs_event.specs.declared.events.Event.TheVariants.{Seat as At, Reclaim}
use Rattle.gs_event.specs.declared.answers.Answer.{Answer}
use Rattle.gs_event.specs.declared.answers.Answer.TheVariants.{Status, Pinned, Refused}
use Rattle.gs_event.specs.Datasets.{Dataset, graph_at, is_there, with_graph}
use Rattle.gs_event.specs.Updates.{patched}
use Rattle.gs_event.specs.Names.{new_name}
use Rattle.gs_event.specs.Operations.{Setting, Operation, Puts, Posts, Creates, Patches, Deletes, Looks, Reads, is_within, united, status_of, location_of, is_success}
use Rattle.gs_event.specs.Verdicts.{operation_target}
use Rattle.gs_event.specs.Conditions.{State, Asked, asked_since, is_late, status_if}
use Rattle.gs_event.specs.Phases.{Phase, Idle, Writing, Patching, Reading, write_of, operation_of}
use Rattle.gs_event.specs.Views.{Totals, FitsSeat, is_written}
use Rattle.gs_event.specs.Histories.{History, OpenRead, Start, IsLegal, phase_of, seat_view, view_of, dataset_after, state_after, commit_after, operation_by}
use Rattle.gs_event.proofs.NameLemmas.{new_name-is_least}
use Rattle.gs_protocol_laws.specs.ReadBack.{name_answered}
use Rattle.gs_protocol_laws.specs.Statuses.{head_status, IdleHeadsAreTold, IdlePinsAreTold, TellsBefore, MadeGraphsWereMissing, ChangedGraphsWereThere, MissingGraphsWereMissing, NewGraphsAreNamed, OnlyNewGraphsAreNamed}
use Rattle.gs_protocol_laws.proofs.FitLemmas.{fits_phase, fits_there, there_fits, event_tells, took_effect, name_made}

-- the answers at an idle seat
head_only : (v : Totals) (c : Scope) (a : Answer) → FitsSeat v Idle (Head c) a → a ≡ Status (status_of v.setting v.dataset (Looks c)) None v.commit
head_only v c (Status s name number) f = λ i. Status (f.0 i) (f.1 i) (f.2 i)
head_only v c (Refused WrongPhase) f = absurd (cc)
head_only v c a f = absurd f

pin_only : (v : Totals) (c : Scope) (a : Answer) → FitsSeat v Idle (Pin c) a → a ≡ Pinned (status_of v.setting v.dataset (Looks c)) v.commit
pin_only v c (Pinned s number) f = λ i. Pinned (f.0 i) (f.1 i)
pin_only v c (Refused WrongPhase) f = absurd (cc)
pin_only v c a f = absurd f

idle_fits : (start : Start) (h : History) (seat : ℕ) (action : Action) (a : Answer) → seat < start.seats → phase_of h seat ≡ Idle → IsLegal start ((At seat action, a) ∷ h)
    → FitsSeat (view_of start h).totals Idle action a
idle_fits start h seat action a there idle legal =
    subst (λ p. FitsSeat (view_of start h).totals (seat_view start p) action a) idle (fits_there start h seat action a there legal.1)

idle_legal : (start : Start) (h : History) (seat : ℕ) (action : Action) (a : Answer) → IsLegal start h → seat < start.seats → phase_of h seat ≡ Idle
    → FitsSeat (view_of start h).totals Idle action a → IsLegal start ((At seat action, a) ∷ h)
idle_legal start h seat action a sound there idle f =
    (sound, there_fits start h seat action a there (subst (λ p. FitsSeat (view_of start h).totals (seat_view start p) action a) (sym idle) f))

pub idle_heads : IdleHeadsAreTold
idle_heads start h seat c a sound there idle = (
  λ legal. head_only (view_of start h).totals c a (idle_fits start h seat (Head c) a there idle legal),
  λ is. subst (λ b. IsLegal start ((At seat (Head c), b) ∷ h)) (sym is)
      (idle_legal start h seat (Head c) (Status (head_status start h c) None (commit_after start h)) sound there idle (refl, refl, refl)),
)

pub idle_pins : IdlePinsAreTold
idle_pins start h seat c a sound there idle = (
  λ legal. pin_only (view_of start h).totals c a (idle_fits start h seat (Pin c) a there idle legal),
  λ is. subst (λ b. IsLegal start ((At seat (Pin c), b) ∷ h)) (sym is)
      (idle_legal start h seat (Pin c) (Pinned (head_status start h c) (commit_after start h)) sound there idle (refl, refl)),
)

-- what a status tells of the one that a HEAD of its target had before
abbrev told_of : ℕ → Option ℕ
told_of n = cond (nat_eq n 201 || nat_eq n 404) (Some 404) (cond (nat_eq n 204) (Some 200) None)

-- by whether the limits allow what is stored, and whether the target is there
stored_tells : (within there : Bool) → IfSome (told_of (cond within (cond there 204 201) 507)) (λ n. n ≡ cond there 200 404)
stored_tells true true = refl
stored_tells true false = refl
stored_tells false there = tt

changed_tells : (within there : Bool) → IfSome (told_of (cond there (cond within (cond there 204 201) 507) 404)) (λ n. n ≡ cond there 200 404)
changed_tells true true = refl
changed_tells false true = tt
changed_tells within false = refl

removed_tells : (there : Bool) → IfSome (told_of (cond there 204 404)) (λ n. n ≡ cond there 200 404)
removed_tells true = refl
removed_tells false = refl

-- of 412 nothing is told
nothing_told : (m : Dataset) (o : Option Target) → IfSome o (λ t. IfSome (told_of 412) (λ n. n ≡ cond (is_there m t) 200 404))
nothing_told m None = tt
nothing_told m (Some t) = tt

looked_tells : (there : Bool) → IfSome (told_of (cond there 200 404)) (λ n. n ≡ cond there 200 404)
looked_tells true = tt
looked_tells false = refl

-- of the target of an operation, if it has one
abbrev ToldOf : Setting → Dataset → Operation → ℕ → Type 0
ToldOf w m q status = IfSome (operation_target w m q) (λ t. IfSome (told_of status) (λ n. n ≡ cond (is_there m t) 200 404))

tells_one : (w : Setting) (m : Dataset) (q : Operation) → ToldOf w m q (status_of w m q)
tells_one w m (Puts t g) = stored_tells (is_within w.limits (with_graph m t g)) (is_there m t)
tells_one w m (Posts t g) = stored_tells (is_within w.limits (with_graph m t (united (graph_at m t) g))) (is_there m t)
tells_one w m (Creates r g) = stored_tells (is_within w.limits (with_graph m (Named (new_name w.base m r)) g)) (is_there m (Named (new_name w.base m r)))
tells_one w m (Patches t ops) = changed_tells (is_within w.limits (with_graph m t (patched (graph_at m t) ops))) (is_there m t)
tells_one w m (Deletes t) = removed_tells (is_there m t)
tells_one w m (Looks (One t)) = looked_tells (is_there m t)
tells_one w m (Looks All) = tt
tells_one w m (Reads (One t)) = looked_tells (is_there m t)
tells_one w m (Reads All) = tt

-- and of one that may come too late, of which 412 says nothing
late_tells : (w : Setting) (m : Dataset) (q : Operation) (late : Bool) → ToldOf w m q (cond late 412 (status_of w m q))
late_tells w m q true = nothing_told m (operation_target w m q)
late_tells w m q false = tells_one w m q

tells_if : (w : Setting) (m : State) (q : Asked) → ToldOf w m.dataset q.operation (status_if w m q)
tells_if w m q = late_tells w m.dataset q.operation (is_late m q.since q.operation)

-- so it is in a history
tells_before : (status head : ℕ) → told_of status ≡ Some head → TellsBefore status head
tells_before status head told start before e q name number t legal asks target =
    let m = dataset_after start before in
    let same : status ≡ status_if start.setting (state_after start before) q = (event_tells start before e (Status status name number) q legal asks).status status name number refl in
    let tells : IfSome (told_of status) (λ n. n ≡ cond (is_there m t) 200 404) =
    subst (λ o. IfSome o (λ u. IfSome (told_of status) (λ n. n ≡ cond (is_there m u) 200 404))) target
    (subst (ToldOf start.setting m q.operation) (sym same) (tells_if start.setting (state_after start before) q)) in
    sym (subst (λ o. IfSome o (λ n. n ≡ cond (is_there m t) 200 404)) told tells)

pub made_missing : MadeGraphsWereMissing
made_missing = tells_before 201 404 refl

pub changed_there : ChangedGraphsWereThere
changed_there = tells_before 204 200 refl

pub missing_missing : MissingGraphsWereMissing
missing_missing = tells_before 404 404 refl

-- a new graph within the limits is answered 201 and its name
record IsMade (w : Setting) (m : Dataset) (r : ℕ) (g : Graph) : Type 0 where
  pub status : status_of w m (Creates r g) ≡ 201
  pub name : location_of w m (Creates r g) ≡ Some (new_name w.base m r)

made_so : (w : Setting) (m : Dataset) (r : ℕ) (g : Graph) → is_within w.limits (with_graph m (Named (new_name w.base m r)) g) ≡ true → IsMade w m r g
made_so w m r g within = record {
  status = ap (λ b. cond b (cond (is_there m (Named (new_name w.base m r))) 204 201) 507) within ∙ ap (λ b. cond b 204 201) (new_name-is_least w.base m r).free;
  name = ap (λ b. cond b (Some (new_name w.base m r)) None) within;
}

-- it is within them where it took effect, and where it has a name
within_success : (w : Setting) (m : Dataset) (r : ℕ) (g : Graph) → is_success (status_of w m (Creates r g)) ≡ true → is_within w.limits (with_graph m (Named (new_name w.base m r)) g) ≡ true
within_success w m r g =
    elim (is_within w.limits (with_graph m (Named (new_name w.base m r)) g)) as (λ b. is_success (cond b (cond (is_there m (Named (new_name w.base m r))) 204 201) 507) ≡ true → b ≡ true) [
      | true ↦ λ e. refl
      | false ↦ λ e. absurd (cc)
    ]

within_name : (w : Setting) (m : Dataset) (r : ℕ) (g : Graph) (n : List ℕ) → location_of w m (Creates r g) ≡ Some n → is_within w.limits (with_graph m (Named (new_name w.base m r)) g) ≡ true
within_name w m r g n =
    elim (is_within w.limits (with_graph m (Named (new_name w.base m r)) g)) as (λ b. cond b (Some (new_name w.base m r)) None ≡ Some n → b ≡ true) [
      | true ↦ λ e. refl
      | false ↦ λ e. absurd (cc)
    ]

-- what was written was answered by a status, which may have a name
pub record HasStatus (a : Answer) : Type 0 where
  pub status : ℕ
  pub name : Option (List ℕ)
  pub number : ℕ
  pub is : a ≡ Status status name number

pub written_status : (a : Answer) → is_written a ≡ true → HasStatus a
written_status (Status s name number) e = record { status = s; name = name; number = number; is = refl }
written_status a e = absurd (cc)

named_status : (a : Answer) (n : List ℕ) → name_answered a ≡ Some n → HasStatus a
named_status (Status s name number) n e = record { status = s; name = name; number = number; is = refl }
named_status a n e = absurd (cc)

-- the answer to a new graph that is made
answered_so : (start : Start) (before : History) (x : Event × Answer) (r : ℕ) (g : Graph) (c : Option ℕ) → IsLegal start (x ∷ before) → operation_by before x.0 x.1 ≡ Some (asked_since c (Creates r g))
    → HasStatus x.1 → is_within start.setting.limits (with_graph (dataset_after start before) (Named (new_name start.setting.base (dataset_after start before) r)) g) ≡ true
    → x.1 ≡ Status 201 (Some (new_name start.setting.base (dataset_after start before) r)) (commit_after start before + 1)
answered_so start before x r g c legal asks has within =
    let made = made_so start.setting (dataset_after start before) r g within in
    let tells = event_tells start before x.0 x.1 (asked_since c (Creates r g)) legal asks in
    let status : has.status ≡ 201 = tells.status has.status has.name has.number has.is ∙ made.status in
    let name : has.name ≡ Some (new_name start.setting.base (dataset_after start before) r) = tells.name has.status has.name has.number has.is ∙ made.name in
    let number : has.number ≡ commit_after start before + 1 = tells.number has.status has.name has.number has.is
    ∙ ap (λ s. cond (is_success s) (commit_after start before + 1) (commit_after start before)) made.status in
    has.is ∙ (λ i. Status (status i) (name i) (number i))

pub new_named : NewGraphsAreNamed
new_named start before x r g legal write =
    let m = dataset_after start before in
    let within = within_success start.setting m r g (took_effect start before x (asked_since write.condition (Creates r g)) legal write.asks write.success) in
    (new_name start.setting.base m r, answered_so start before x r g write.condition legal write.asks (written_status x.1 write.success) within)

-- only a new graph has a name
record IsOne (w : Setting) (m : Dataset) (q : Operation) : Type 0 where
  pub request : ℕ
  pub graph : Graph
  pub is : q ≡ Creates request graph

one_named : (w : Setting) (m : Dataset) (q : Operation) (n : List ℕ) → location_of w m q ≡ Some n → IsOne w m q
one_named w m (Creates r g) n e = record { request = r; graph = g; is = refl }
one_named w m q n e = absurd (cc)

-- what was answered by a status asked something
asks_phase : (v : Totals) (w : Start) (p : Phase OpenRead) (action : Action) (s : ℕ) (name : Option (List ℕ)) (number : ℕ) → FitsSeat v (seat_view w p) action (Status s name number)
    → (q : Asked) × (operation_of p action (Status s name number) ≡ Some q)
asks_phase v w Idle (Delete t condition) s name number f = (asked_since condition (Deletes t), refl)
asks_phase v w Idle (Head c) s name number f = (asked_since None (Looks c), refl)
asks_phase v w (Writing k r g since) Commit s name number f = (asked_since since (write_of k r g), refl)
asks_phase v w (Patching t r since) (CommitPatch ops) s name number f = (asked_since since (Patches t ops.items), refl)
asks_phase v w Idle (Open k condition) s name number f = absurd f
asks_phase v w Idle (OpenPatch t condition) s name number f = absurd f
asks_phase v w Idle (Pin c) s name number f = absurd f
asks_phase v w (Writing k r g since) (Stage ts) s name number f = absurd f
asks_phase v w (Writing k r g since) Cancel s name number f = absurd f
asks_phase v w (Patching t r since) Cancel s name number f = absurd f
asks_phase v w (Reading left) (Piece k) s name number f = absurd f
asks_phase v w (Reading left) Cancel s name number f = absurd f
asks_phase v w p action s name number f = absurd f

pub status_asks : (start : Start) (h : History) (e : Event) (s : ℕ) (name : Option (List ℕ)) (number : ℕ) → IsLegal start ((e, Status s name number) ∷ h)
    → (q : Asked) × (operation_by h e (Status s name number) ≡ Some q)
status_asks start h (Reclaim k) s name number legal = absurd (legal.1)
status_asks start h (At n action) s name number legal = go (fits_phase start h n action (Status s name number) legal.1) where
  go : (Status s name number ≡ Refused BadSeat) ⊎ FitsSeat (view_of start h).totals (seat_view start (phase_of h n)) action (Status s name number)
      → (q : Asked) × (operation_of (phase_of h n) action (Status s name number) ≡ Some q)
  go (inl e) = absurd (cc)
  go (inr f) = asks_phase (view_of start h).totals start (phase_of h n) action s name number f

-- so what has a name did, and what was written
pub answer_asks : (start : Start) (h : History) (e : Event) (a : Answer) → IsLegal start ((e, a) ∷ h) → HasStatus a → (q : Asked) × (operation_by h e a ≡ Some q)
answer_asks start h e a legal has =
    let asks = status_asks start h e has.status has.name has.number (subst (λ b. IsLegal start ((e, b) ∷ h)) has.is legal) in
    (asks.0, ap (operation_by h e) has.is ∙ asks.1)

pub only_new_named : OnlyNewGraphsAreNamed
only_new_named start before x n legal named =
    let m = dataset_after start before in
    let asked = answer_asks start before x.0 x.1 legal (named_status x.1 n named) in
    let one = one_named start.setting m asked.0.operation n (name_made start before x asked.0 n legal asked.1 named) in
    let condition = asked.0.since in
    let asks : operation_by before x.0 x.1 ≡ Some (asked_since condition (Creates one.request one.graph)) = asked.1 ∙ ap (λ q. Some (asked_since condition q)) one.is in
    let made = name_made start before x (asked_since condition (Creates one.request one.graph)) n legal asks named in
    let within = within_name start.setting m one.request one.graph n made in
    let name : Some (new_name start.setting.base m one.request) ≡ Some n = sym (made_so start.setting m one.request one.graph within).name ∙ made in
    record {
      request = one.request;
      graph = one.graph;
      condition = condition;
      number = commit_after start before + 1;
      asks = asks;
      answer = answered_so start before x one.request one.graph condition legal asks (named_status x.1 n named) within ∙ ap (λ k. Status 201 k (commit_after start before + 1)) name;
    }
