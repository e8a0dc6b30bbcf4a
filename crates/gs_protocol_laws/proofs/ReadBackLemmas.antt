-- Each write is read back from a legal history.
use Rattle.std.proofs.Common.{◌≡◌, ℕ, true, cond, List, [], ◌∷◌, ◌++◌, Option, Some, None, is_some, IfSome, refl, sym, ap, ◌∙◌, subst}
use Rattle.std.specs.List.{concat, cons_option}
use Rattle.gs_model.specs.Graphs.{Graph, lines_of}
use Rattle.gs_term.specs.declared.names.Target.{Target}
use Rattle.gs_term.specs.declared.names.Target.TheVariants.{Named}
use Rattle.gs_event.specs.declared.events.Scope.{Scope}
use Rattle.gs_event.specs.declared.events.Scope.TheVariants.{One}
use Rattle.gs_event.specs.declared.events.Action.TheVariants.{Pin}
use Rattle.gs_event.specs.declared.events.Event.{Event}
use Rattle.gs_event.specs.declared.events.Event.TheVariants.{Seat as At}
use Rattle.gs_event.specs.declared.answers.Answer.{Answer}
use Rattle.gs_event.specs.declared.answers.Answer.TheVariants.{Pinned}
use Rattle.gs_event.specs.Datasets.{graph_at, lines_if}
use Rattle.gs_event.specs.Operations.{Operation, Puts, Posts, Creates, Patches, Deletes, after, status_of, is_success}
use Rattle.gs_event.specs.Conditions.{State, Asked, asked_since, status_if, after_all_if}
use Rattle.gs_event.specs.Verdicts.{operation_target}
use Rattle.gs_event.specs.Views.{is_written}
use Rattle.gs_event.specs.Histories.{History, Start, IsLegal, dataset_after, state_after, operation_by, points_of}
use Rattle.gs_protocol_laws.specs.Writes.{status_without}
use Rattle.gs_protocol_laws.specs.Reads.{IsWholeGet}
use Rattle.gs_protocol_laws.specs.ReadBack.{IsWrite, SpareSince, Shows, IsReadBack, PutsAreReadBack, PostsAreReadBack, CreatesAreReadBack, PatchesAreReadBack, DeletesAreReadBack, GetsAgree}
use Rattle.gs_protocol_laws.proofs.WriteLemmas.{after_if_other, took_by, put_own, post_own, create_own, patch_own, delete_own, left_of, status-left, lines-left}
use Rattle.gs_protocol_laws.proofs.FitLemmas.{legal_before, event_tells, took_effect, name_made, head_status, pin_status}
use Rattle.gs_protocol_laws.proofs.ReadLemmas.{gets_give}

-- what an event asks, if anything, leaves a target that it does not write
spares_one : (start : Start) (t : Target) (qs : List Asked) (a : Answer) (o : Option Asked)
    → ((q : Asked) → o ≡ Some q → is_success (status_if start.setting (after_all_if start.setting start.commit qs) q) ≡ is_written a)
    → IfSome o (λ q. is_written a ≡ true → operation_target start.setting (after_all_if start.setting start.commit qs).dataset q.operation ≡ Some t → ⊥)
    → graph_at (after_all_if start.setting start.commit (cons_option o qs)).dataset t ≡ graph_at (after_all_if start.setting start.commit qs).dataset t
spares_one start t qs a None told s = refl
spares_one start t qs a (Some q) told s = after_if_other start.setting (after_all_if start.setting start.commit qs) q t (λ effect. s (sym (told q refl) ∙ effect.0) effect.1)

-- later events leave it
pub spares : (start : Start) (t : Target) (before later : History) → IsLegal start (later ++ before) → SpareSince start t before later
    → graph_at (dataset_after start (later ++ before)) t ≡ graph_at (dataset_after start before) t
spares start t before [] legal s = refl
spares start t before (x ∷ later) legal s =
    spares_one start t (points_of (later ++ before)) x.1 (operation_by (later ++ before) x.0 x.1)
    (λ q is. (event_tells start (later ++ before) x.0 x.1 q legal is).success) s.1
    ∙ spares start t before later legal.0 s.0

-- the target's graph, after a write that took effect and events that spare it
pub left_after : (start : Start) (before : History) (x : Event × Answer) (q : Operation) (t : Target) (o : Option Graph) (later : History) → IsLegal start (later ++ x ∷ before)
    → (d : IsWrite before x q) → SpareSince start t (x ∷ before) later → graph_at (after start.setting (dataset_after start before) q) t ≡ o
    → graph_at (dataset_after start (later ++ x ∷ before)) t ≡ o
left_after start before x q t o later legal d s e =
    let sound : IsLegal start (x ∷ before) = legal_before start (x ∷ before) later legal in
    let took = took_by start.setting (state_after start before) (asked_since d.condition q) (took_effect start before x (asked_since d.condition q) sound d.asks d.success) in
    spares start t (x ∷ before) later legal s
    ∙ ap (λ p. graph_at (after_all_if start.setting start.commit (cons_option p (points_of before))).dataset t) d.asks
    ∙ ap (λ (m : State). graph_at m.dataset t) took.state
    ∙ e

-- what is shown of a target by its graph
shown : (start : Start) (h : History) (t : Target) (o : Option Graph) → graph_at (dataset_after start h) t ≡ o → Shows start h t (cond (is_some o) 200 404) (lines_if o)
shown start h t o e = record {
  head = λ seat s number name legal. head_status start h seat (One t) s name number legal ∙ ap (λ p. cond (is_some p) 200 404) e;
  get = λ seat s number legal. pin_status start h seat (One t) s number legal ∙ ap (λ p. cond (is_some p) 200 404) e;
  given = λ seat whole bytes legal g. gets_give start h whole seat (One t) bytes legal g ∙ ap (λ p. concat (lines_if p)) e;
}

-- where a write that takes effect makes g the target's graph
back : (start : Start) (before : History) (x : Event × Answer) (q : Operation) (t : Target) (g : Graph)
    → (IsLegal start (x ∷ before) → is_success (status_of start.setting (dataset_after start before) q) ≡ true
    → (c : Option ℕ) → operation_by before x.0 x.1 ≡ Some (asked_since c q) → graph_at (after start.setting (dataset_after start before) q) t ≡ Some g)
    → IsReadBack start before x q t 200 (lines_of g)
back start before x q t g own later legal d s =
    let sound : IsLegal start (x ∷ before) = legal_before start (x ∷ before) later legal in
    let took = took_by start.setting (state_after start before) (asked_since d.condition q) (took_effect start before x (asked_since d.condition q) sound d.asks d.success) in
    shown start (later ++ x ∷ before) t (Some g) (left_after start before x q t (Some g) later legal d s (own sound took.status d.condition d.asks))

pub puts_back : PutsAreReadBack
puts_back start before x t g = back start before x (Puts t g) t g (λ legal e c is. put_own start.setting (dataset_after start before) t g e)

pub posts_back : PostsAreReadBack
posts_back start before x t g = back start before x (Posts t g) t _ (λ legal e c is. post_own start.setting (dataset_after start before) t g e)

pub creates_back : CreatesAreReadBack
creates_back start before x r g name named =
    back start before x (Creates r g) (Named name) g
    (λ legal e c is. create_own start.setting (dataset_after start before) r g name (name_made start before x (asked_since c (Creates r g)) name legal is named) e)

pub patches_back : PatchesAreReadBack
patches_back start before x t ops = back start before x (Patches t ops) t _ (λ legal e c is. patch_own start.setting (dataset_after start before) t ops e)

-- with the status and the lines of a target without a graph
pub bare : (start : Start) (h : History) (t : Target) → graph_at (dataset_after start h) t ≡ left_of t → Shows start h t (status_without t) []
bare start h t e =
    let s = shown start h t (left_of t) e in
    record {
      head = λ seat n number name legal. s.head seat n number name legal ∙ status-left t;
      get = λ seat n number legal. s.get seat n number legal ∙ status-left t;
      given = λ seat whole bytes legal g. s.given seat whole bytes legal g ∙ ap concat (lines-left t);
    }

pub deletes_back : DeletesAreReadBack
deletes_back start before x t later legal d s =
    let sound : IsLegal start (x ∷ before) = legal_before start (x ∷ before) later legal in
    let took = took_by start.setting (state_after start before) (asked_since d.condition (Deletes t)) (took_effect start before x (asked_since d.condition (Deletes t)) sound d.asks d.success) in
    bare start (later ++ x ∷ before) t (left_after start before x (Deletes t) t (left_of t) later legal d s (delete_own start.setting (dataset_after start before) t took.status))

-- what went before the pin of a whole GET is legal
pub pinned_legal : (start : Start) (before whole : History) (seat : ℕ) (c : Scope) (bytes : List ℕ) → IsLegal start whole → IsWholeGet seat c before whole bytes → IsLegal start before
pinned_legal start before whole seat c bytes legal g =
    (legal_before start ((At seat (Pin c), Pinned 200 g.number) ∷ before) g.since (subst (IsLegal start) g.events legal).0).0

pub gets_agree : GetsAgree
gets_agree start before later whole whole_later seat seat_later t bytes bytes_later legal legal_later s g g_later =
    gets_give start (later ++ before) whole_later seat_later (One t) bytes_later legal_later g_later
    ∙ ap (λ p. concat (lines_if p)) (spares start t before later (pinned_legal start (later ++ before) whole_later seat_later (One t) bytes_later legal_later g_later) s)
    ∙ sym (gets_give start before whole seat (One t) bytes legal g)
