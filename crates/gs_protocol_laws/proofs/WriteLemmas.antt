-- What each operation leaves at its own target, and at another.
use Rattle.std.proofs.Common.{◌≡◌, ◌≢◌, ℕ, ◌+◌, Bool, true, false, cond, List, [], ◌∷◌, ◌++◌, Option, Some, None, is_some, refl, sym, ap, ◌∙◌, subst, add-zero}
use Rattle.std.specs.Ordering.{is_eq, eq_by_cmp}
use Rattle.std.specs.Cmp.{Equal-is, tied_itself}
use Rattle.std.specs.FinMap as fin
use Rattle.std.proofs.lemmas.List.{length-map, nil_from_length}
use Rattle.gs_model.specs.Graphs.{Graph, empty_graph, triples_of}
use Rattle.gs_model.specs.Triples.{line_of}
use Rattle.gs_model.proofs.GraphLemmas.{empty_has_none}
use Rattle.gs_term.specs.Names.{name_cmp}
use Rattle.gs_term.proofs.NameLemmas.{name_total, name_exact}
use Rattle.gs_term.specs.declared.names.Target.{Target}
use Rattle.gs_term.specs.declared.names.Target.TheVariants.{Default, Named}
use Rattle.gs_event.specs.declared.updates.Op.{Op}
use Rattle.gs_event.specs.Updates.{patched}
use Rattle.gs_event.specs.Datasets.{Dataset, graph_at, is_there, with_graph, without_graph, lines_if}
use Rattle.gs_event.specs.Names.{new_name}
use Rattle.gs_event.specs.Operations.{Setting, Operation, Puts, Posts, Creates, Patches, Deletes, Looks, Reads, is_within, united, stored, stored_status, after, status_of, location_of, is_success}
use Rattle.gs_event.specs.Conditions.{State, Asked, asked_since, is_late, status_if, last_writes_after, done_by, after_if, after_all_if}
use Rattle.gs_event.specs.Verdicts.{operation_target}
use Rattle.gs_event.proofs.VerdictLemmas.{made_well}
use Rattle.gs_protocol_laws.specs.Writes.{TakesEffect, SpareTarget, dataset_by, HasGraph, status_without, PutsLeave, PostsLeave, CreatesLeave, PatchesLeave, DeletesLeave, OthersLeaveAll}

-- the graph that is stored is there
with_own : (m : Dataset) (t : Target) (g : Graph) → graph_at (with_graph m t g) t ≡ Some g
with_own m Default g = refl
with_own m (Named n) g = fin.get-insert name_total m.named n g n ∙ ap (λ b. cond b (Some g) (fin.get m.named n)) (ap is_eq (tied_itself name_total n))

-- other targets stay as they are
with_other : (m : Dataset) (t u : Target) (g : Graph) → t ≢ u → graph_at (with_graph m t g) u ≡ graph_at m u
with_other m Default Default g ne = absurd (ne refl)
with_other m Default (Named k) g ne = refl
with_other m (Named n) Default g ne = refl
with_other m (Named n) (Named k) g ne =
    fin.get-insert name_total m.named n g k
    ∙ elim (eq_by_cmp name_cmp k n) as (λ e. eq_by_cmp name_cmp k n ≡ e → cond e (Some g) (fin.get m.named k) ≡ fin.get m.named k) [
      | true ↦ λ e. absurd (ne (sym (ap Named (name_exact _ _ ((Equal-is _).0 e)))))
      | false ↦ λ e. refl
    ] refl

-- a graph that is taken away is not there; the default graph is then empty
abbrev pub left_of : Target → Option Graph
left_of Default = Some empty_graph
left_of (Named n) = None

without_own : (m : Dataset) (t : Target) → graph_at (without_graph m t) t ≡ left_of t
without_own m Default = refl
without_own m (Named n) = fin.get-remove name_total m.named n n ∙ ap (λ b. cond b None (fin.get m.named n)) (ap is_eq (tied_itself name_total n))

without_other : (m : Dataset) (t u : Target) → t ≢ u → graph_at (without_graph m t) u ≡ graph_at m u
without_other m Default Default ne = absurd (ne refl)
without_other m Default (Named k) ne = refl
without_other m (Named n) Default ne = refl
without_other m (Named n) (Named k) ne =
    fin.get-remove name_total m.named n k
    ∙ elim (eq_by_cmp name_cmp k n) as (λ e. eq_by_cmp name_cmp k n ≡ e → cond e None (fin.get m.named k) ≡ fin.get m.named k) [
      | true ↦ λ e. absurd (ne (sym (ap Named (name_exact _ _ ((Equal-is _).0 e)))))
      | false ↦ λ e. refl
    ] refl

-- what is stored at a target, unless it takes effect at this one
stored_other : (w : Setting) (m : Dataset) (t u : Target) (g : Graph) → (is_success (stored_status w m t g) ≡ true → t ≢ u) → graph_at (stored w m t g) u ≡ graph_at m u
stored_other w m t u g ne =
    elim (is_within w.limits (with_graph m t g)) as (λ b. (is_success (cond b (cond (is_there m t) 204 201) 507) ≡ true → t ≢ u) → graph_at (cond b (with_graph m t g) m) u ≡ graph_at m u) [
      | true ↦ λ k. with_other m t u g (k (made_well (is_there m t)))
      | false ↦ λ k. refl
    ] ne

-- what is stored is there, where that took effect
stored_own : (w : Setting) (m : Dataset) (t : Target) (g : Graph) → is_success (stored_status w m t g) ≡ true → graph_at (stored w m t g) t ≡ Some g
stored_own w m t g e =
    elim (is_within w.limits (with_graph m t g)) as (λ b. is_success (cond b (cond (is_there m t) 204 201) 507) ≡ true → graph_at (cond b (with_graph m t g) m) t ≡ Some g) [
      | true ↦ λ k. with_own m t g
      | false ↦ λ k. absurd (cc)
    ] e

-- without a condition, the operation took effect at the target
abbrev pub TakesPlainly : Setting → Dataset → Operation → Target → Type 0
TakesPlainly w m q t = (is_success (status_of w m q) ≡ true) × (operation_target w m q ≡ Some t)

-- An operation that does not take effect at a target leaves its graph.
after_other : (w : Setting) (m : Dataset) (q : Operation) (t : Target) → (TakesPlainly w m q t → ⊥) → graph_at (after w m q) t ≡ graph_at m t
after_other w m (Puts u g) t spared = stored_other w m u t g (λ s e. spared (s, ap Some e))
after_other w m (Posts u g) t spared = stored_other w m u t (united (graph_at m u) g) (λ s e. spared (s, ap Some e))
after_other w m (Creates r g) t spared = stored_other w m (Named (new_name w.base m r)) t g (λ s e. spared (s, ap Some e))
after_other w m (Patches u ops) t spared =
    elim (is_there m u) as (λ b. (is_success (cond b (stored_status w m u (patched (graph_at m u) ops)) 404) ≡ true → u ≢ t) → graph_at (cond b (stored w m u (patched (graph_at m u) ops)) m) t ≡ graph_at m t) [
      | true ↦ λ k. stored_other w m u t (patched (graph_at m u) ops) k
      | false ↦ λ k. refl
    ] (λ s e. spared (s, ap Some e))
after_other w m (Deletes u) t spared =
    elim (is_there m u) as (λ b. (is_success (cond b 204 404) ≡ true → u ≢ t) → graph_at (cond b (without_graph m u) m) t ≡ graph_at m t) [
      | true ↦ λ k. without_other m u t (k refl)
      | false ↦ λ k. refl
    ] (λ s e. spared (s, ap Some e))
after_other w m (Looks c) t spared = refl
after_other w m (Reads c) t spared = refl

-- neither does one on a condition
pub after_if_other : (w : Setting) (m : State) (q : Asked) (t : Target) → (TakesEffect w m q t → ⊥) → graph_at (after_if w m q).dataset t ≡ graph_at m.dataset t
after_if_other w m q t =
    elim (is_late m q.since q.operation) as (λ b. ((is_success (cond b 412 (status_of w m.dataset q.operation)) ≡ true) × (operation_target w m.dataset q.operation ≡ Some t) → ⊥)
    → graph_at (cond b m (done_by w m q.operation)).dataset t ≡ graph_at m.dataset t) [
      | true ↦ λ k. refl
      | false ↦ λ k. after_other w m.dataset q.operation t k
    ]

-- What took effect was not too late: it did so as it would without its condition.
pub record TookEffect (w : Setting) (m : State) (q : Asked) : Type 0 where
  pub status : is_success (status_of w m.dataset q.operation) ≡ true
  pub state : after_if w m q ≡ done_by w m q.operation
  pub in_time : is_late m q.since q.operation ≡ false

pub took_by : (w : Setting) (m : State) (q : Asked) → is_success (status_if w m q) ≡ true → TookEffect w m q
took_by w m q e = go (is_late m q.since q.operation) refl
  where
    go : (b : Bool) → is_late m q.since q.operation ≡ b → TookEffect w m q
    go true late = absurd (let no : is_success 412 ≡ true = ap (λ b. is_success (cond b 412 (status_of w m.dataset q.operation))) (sym late) ∙ e in cc)
    go false in_time = record {
      status = ap (λ b. is_success (cond b 412 (status_of w m.dataset q.operation))) (sym in_time) ∙ e;
      state = ap (λ b. cond b m (done_by w m q.operation)) in_time;
      in_time = in_time;
    }

-- what each write leaves at its own target, where it took effect

-- a PUT
pub put_own : (w : Setting) (m : Dataset) (t : Target) (g : Graph) → is_success (status_of w m (Puts t g)) ≡ true → graph_at (after w m (Puts t g)) t ≡ Some g
put_own = stored_own

-- a POST
pub post_own : (w : Setting) (m : Dataset) (t : Target) (g : Graph) → is_success (status_of w m (Posts t g)) ≡ true
    → graph_at (after w m (Posts t g)) t ≡ Some (united (graph_at m t) g)
post_own w m t g = stored_own w m t (united (graph_at m t) g)

-- the name of a new graph is the one that was made up
made_name : (w : Setting) (m : Dataset) (r : ℕ) (g : Graph) (name : List ℕ) → location_of w m (Creates r g) ≡ Some name → new_name w.base m r ≡ name
made_name w m r g name =
    elim (is_within w.limits (with_graph m (Named (new_name w.base m r)) g)) as (λ b. cond b (Some (new_name w.base m r)) None ≡ Some name → new_name w.base m r ≡ name) [
      | true ↦ λ e. cc
      | false ↦ λ e. absurd (cc)
    ]

-- a new graph
pub create_own : (w : Setting) (m : Dataset) (r : ℕ) (g : Graph) (name : List ℕ) → location_of w m (Creates r g) ≡ Some name
    → is_success (status_of w m (Creates r g)) ≡ true → graph_at (after w m (Creates r g)) (Named name) ≡ Some g
create_own w m r g name is e =
    subst (λ n. graph_at (after w m (Creates r g)) (Named n) ≡ Some g) (made_name w m r g name is) (stored_own w m (Named (new_name w.base m r)) g e)

-- a PATCH
pub patch_own : (w : Setting) (m : Dataset) (t : Target) (ops : List Op) → is_success (status_of w m (Patches t ops)) ≡ true
    → graph_at (after w m (Patches t ops)) t ≡ Some (patched (graph_at m t) ops)
patch_own w m t ops =
    elim (is_there m t) as (λ b. is_success (cond b (stored_status w m t (patched (graph_at m t) ops)) 404) ≡ true → graph_at (cond b (stored w m t (patched (graph_at m t) ops)) m) t ≡ Some (patched (graph_at m t) ops)) [
      | true ↦ λ e. stored_own w m t (patched (graph_at m t) ops) e
      | false ↦ λ e. absurd (cc)
    ]

-- a DELETE
pub delete_own : (w : Setting) (m : Dataset) (t : Target) → is_success (status_of w m (Deletes t)) ≡ true → graph_at (after w m (Deletes t)) t ≡ left_of t
delete_own w m t =
    elim (is_there m t) as (λ b. is_success (cond b 204 404) ≡ true → graph_at (cond b (without_graph m t) m) t ≡ left_of t) [
      | true ↦ λ e. without_own m t
      | false ↦ λ e. absurd (cc)
    ]

-- what does not take effect changes nothing
stored_same : (w : Setting) (m : Dataset) (t : Target) (g : Graph) → is_success (stored_status w m t g) ≡ false → stored w m t g ≡ m
stored_same w m t g =
    elim (is_within w.limits (with_graph m t g)) as (λ b. is_success (cond b (cond (is_there m t) 204 201) 507) ≡ false → cond b (with_graph m t g) m ≡ m) [
      | true ↦ λ e. let well : is_success (cond (is_there m t) 204 201) ≡ true = made_well (is_there m t) in absurd (cc)
      | false ↦ λ e. refl
    ]

after_same : (w : Setting) (m : Dataset) (q : Operation) → is_success (status_of w m q) ≡ false → after w m q ≡ m
after_same w m (Puts t g) e = stored_same w m t g e
after_same w m (Posts t g) e = stored_same w m t (united (graph_at m t) g) e
after_same w m (Creates r g) e = stored_same w m (Named (new_name w.base m r)) g e
after_same w m (Patches t ops) e =
    elim (is_there m t) as (λ b. is_success (cond b (stored_status w m t (patched (graph_at m t) ops)) 404) ≡ false → cond b (stored w m t (patched (graph_at m t) ops)) m ≡ m) [
      | true ↦ λ k. stored_same w m t (patched (graph_at m t) ops) k
      | false ↦ λ k. refl
    ] e
after_same w m (Deletes t) e =
    elim (is_there m t) as (λ b. is_success (cond b 204 404) ≡ false → cond b (without_graph m t) m ≡ m) [
      | true ↦ λ k. absurd (cc)
      | false ↦ λ k. refl
    ] e
after_same w m (Looks c) e = refl
after_same w m (Reads c) e = refl

-- what takes no effect leaves the state
done_same : (w : Setting) (m : State) (q : Operation) → is_success (status_of w m.dataset q) ≡ false → done_by w m q ≡ m
done_same w m q e = λ i. record {
  dataset = after_same w m.dataset q e i;
  commit = (ap (λ b. m.commit + cond b 1 0) e ∙ add-zero m.commit) i;
  last_writes = ap (λ b. cond b (last_writes_after w m.dataset m.last_writes (m.commit + 1) q) m.last_writes) e i;
}

pub others_leave : OthersLeaveAll
others_leave w m q =
    elim (is_late m q.since q.operation) as (λ b. is_success (cond b 412 (status_of w m.dataset q.operation)) ≡ false → cond b m (done_by w m q.operation) ≡ m) [
      | true ↦ λ e. refl
      | false ↦ λ e. done_same w m q.operation e
    ]

-- the later operations leave the target's graph
spared : (w : Setting) (c : ℕ) (t : Target) (earlier later : List Asked) → SpareTarget w c t earlier later → graph_at (dataset_by w c (later ++ earlier)) t ≡ graph_at (dataset_by w c earlier) t
spared w c t earlier [] s = refl
spared w c t earlier (q ∷ later) s = after_if_other w (after_all_if w c (later ++ earlier)) q t s.1 ∙ spared w c t earlier later s.0

-- what is shown of a graph that is there
has_graph : (w : Setting) (m : Dataset) (t : Target) (g : Graph) → graph_at m t ≡ Some g → HasGraph w m t g
has_graph w m t g e = record { status = ap (λ o. cond (is_some o) 200 404) e; lines = ap lines_if e }

-- and of one that was taken away
pub status-left : (t : Target) → cond (is_some (left_of t)) 200 404 ≡ status_without t
status-left Default = refl
status-left (Named n) = refl

pub lines-left : (t : Target) → lines_if (left_of t) ≡ []
lines-left Default = nil_from_length _ (length-map (triples_of empty_graph) line_of ∙ empty_has_none)
lines-left (Named n) = refl

-- what took effect, and was spared since, is there
stays : (w : Setting) (c : ℕ) (earlier later : List Asked) (q : Asked) (t : Target) (o : Option Graph) → is_success (status_if w (after_all_if w c earlier) q) ≡ true
    → SpareTarget w c t (q ∷ earlier) later → (is_success (status_of w (dataset_by w c earlier) q.operation) ≡ true → graph_at (after w (dataset_by w c earlier) q.operation) t ≡ o)
    → graph_at (dataset_by w c (later ++ q ∷ earlier)) t ≡ o
stays w c earlier later q t o e s own =
    let took = took_by w (after_all_if w c earlier) q e in
    spared w c t (q ∷ earlier) later s ∙ ap (λ (m : State). graph_at m.dataset t) took.state ∙ own took.status

pub puts_leave : PutsLeave
puts_leave w c earlier since t g later e s = has_graph w _ t g (stays w c earlier later (asked_since since (Puts t g)) t (Some g) e s (put_own w (dataset_by w c earlier) t g))

pub posts_leave : PostsLeave
posts_leave w c earlier since t g later e s = has_graph w _ t _ (stays w c earlier later (asked_since since (Posts t g)) t _ e s (post_own w (dataset_by w c earlier) t g))

pub creates_leave : CreatesLeave
creates_leave w c earlier since r g name is later e s =
    has_graph w _ (Named name) g (stays w c earlier later (asked_since since (Creates r g)) (Named name) (Some g) e s (create_own w (dataset_by w c earlier) r g name is))

pub patches_leave : PatchesLeave
patches_leave w c earlier since t ops later e s = has_graph w _ t _ (stays w c earlier later (asked_since since (Patches t ops)) t _ e s (patch_own w (dataset_by w c earlier) t ops))

pub deletes_leave : DeletesLeave
deletes_leave w c earlier since t later e s =
    let gone = stays w c earlier later (asked_since since (Deletes t)) t (left_of t) e s (delete_own w (dataset_by w c earlier) t) in
    record { status = ap (λ o. cond (is_some o) 200 404) gone ∙ status-left t; lines = ap lines_if gone ∙ lines-left t }
