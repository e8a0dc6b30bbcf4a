-- What stays as it was where nothing was written.
use Rattle.std.proofs.Common.{◌≡◌, false, cond, [], ◌∷◌, ◌++◌, Option, Some, None, is_some, refl, sym, ap, ◌∙◌, subst, append-nil}
use Rattle.std.specs.FinMap as fin
use Rattle.std.specs.List.{cons_option}
use Rattle.gs_term.specs.Names.{name_cmp}
use Rattle.gs_term.specs.declared.names.Target.{Target}
use Rattle.gs_term.specs.declared.names.Target.TheVariants.{Default, Named}
use Rattle.gs_event.specs.declared.events.Scope.TheVariants.{One}
use Rattle.gs_event.specs.declared.events.Action.TheVariants.{Head}
use Rattle.gs_event.specs.declared.events.Event.TheVariants.{Seat as At}
use Rattle.gs_event.specs.declared.answers.Answer.TheVariants.{Status}
use Rattle.gs_event.specs.Datasets.{empty_dataset, graph_at}
use Rattle.gs_event.specs.Operations.{Looks, is_success, status_of}
use Rattle.gs_event.specs.Conditions.{State, Asked, status_if, after_all_if}
use Rattle.gs_event.specs.Histories.{History, Start, IsLegal, dataset_after, state_after, operation_by, points_of}
use Rattle.gs_protocol_laws.specs.Unchanged.{OnlyWritesChange, OnlyWritesChangeNumbers, UnwrittenIsMissing, HeadsAgree}
use Rattle.gs_protocol_laws.proofs.WriteLemmas.{others_leave, left_of}
use Rattle.gs_protocol_laws.proofs.FitLemmas.{legal_before, event_tells, head_status, asked_only}
use Rattle.gs_protocol_laws.proofs.ReadBackLemmas.{spares, bare}

-- what takes no effect changes nothing
unchanged : (start : Start) (h : History) (o : Option Asked)
    → ((q : Asked) → o ≡ Some q → is_success (status_if start.setting (state_after start h) q) ≡ false)
    → after_all_if start.setting start.commit (cons_option o (points_of h)) ≡ state_after start h
unchanged start h None none = refl
unchanged start h (Some q) none = others_leave start.setting (state_after start h) q (none q refl)

-- neither the graphs nor the numbers
pub only_writes_state : OnlyWritesChangeNumbers
only_writes_state start before x legal e =
    unchanged start before (operation_by before x.0 x.1) (λ q is. (event_tells start before x.0 x.1 q legal is).success ∙ e)

pub only_writes : OnlyWritesChange
only_writes start before x legal e = ap (λ (m : State). m.dataset) (only_writes_state start before x legal e)

-- at the start nothing is there but the default graph, without a line
nothing_there : (t : Target) → graph_at empty_dataset t ≡ left_of t
nothing_there Default = refl
nothing_there (Named n) = fin.get-empty name_cmp n

pub unwritten : UnwrittenIsMissing
unwritten start h t legal s =
    let whole : h ++ [] ≡ h = append-nil h in
    bare start h t (ap (λ k. graph_at (dataset_after start k) t) (sym whole) ∙ spares start t [] h (subst (IsLegal start) (sym whole) legal) s ∙ nothing_there t)

pub heads_agree : HeadsAgree
heads_agree start before between seat seat_later s s_later number number_later t name name_later legal spared =
    let first = (At seat (Head (One t)), Status s name number) ∷ before in
    let sound : IsLegal start first = legal_before start first between legal.0 in
    let status : s ≡ status_of start.setting (dataset_after start before) (Looks (One t)) = head_status start before seat (One t) s name number sound in
    head_status start (between ++ first) seat_later (One t) s_later name_later number_later legal
    ∙ ap (λ o. cond (is_some o) 200 404) (spares start t first between legal.0 spared)
    ∙ ap (λ m. cond (is_some (graph_at m t)) 200 404) (only_writes start before (At seat (Head (One t)), Status s name number) sound (ap is_success status ∙ asked_only (is_some (graph_at (dataset_after start before) t))))
    ∙ sym status
