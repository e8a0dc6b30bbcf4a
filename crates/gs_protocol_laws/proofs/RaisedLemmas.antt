-- Which event raised each number of the last writes: the last write on its target, or the last Delete of a name.
use Rattle.std.proofs.Common.{◌≡◌, inl, inr, ℕ, ◌+◌, Bool, true, false, cond, List, [], ◌∷◌, Option, Some, None, MatchOption, is_some, unwrap_or, refl, sym, ap, ◌∙◌, subst}
use Rattle.std.specs.Ordering.{is_eq, eq_by_cmp}
use Rattle.std.specs.List.{cons_option}
use Rattle.std.specs.Cmp.{Equal-is, tied_itself}
use Rattle.std.specs.FinMap as fin
use Rattle.gs_model.specs.Graphs.{Graph}
use Rattle.gs_term.specs.Names.{name_cmp}
use Rattle.gs_term.proofs.NameLemmas.{name_total, name_exact}
use Rattle.gs_term.specs.declared.names.Target.{Target}
use Rattle.gs_term.specs.declared.names.Target.TheVariants.{Default, Named}
use Rattle.gs_event.specs.declared.events.Event.{Event}
use Rattle.gs_event.specs.declared.answers.Answer.{Answer}
use Rattle.gs_event.specs.Datasets.{Dataset, empty_dataset, graph_at, has, is_there, with_graph, without_graph}
use Rattle.gs_event.specs.Updates.{patched}
use Rattle.gs_event.specs.Names.{new_name}
use Rattle.gs_event.specs.Operations.{Setting, Operation, Puts, Posts, Creates, Patches, Deletes, Looks, Reads, is_within, united, stored, stored_status, after, status_of, is_success}
use Rattle.gs_event.specs.Conditions.{LastWrites, State, state_from, last_write_on, Asked, with_write, with_delete, last_writes_after, done_by, after_all_if}
use Rattle.gs_event.specs.Verdicts.{operation_target}
use Rattle.gs_event.specs.Views.{is_written}
use Rattle.gs_event.specs.Histories.{History, Start, IsLegal, dataset_after, state_after, commit_after, operation_by, points_of}
use Rattle.gs_protocol_laws.specs.Numbers.{IsLastWrite, IsLastDelete}
use Rattle.gs_protocol_laws.proofs.WriteLemmas.{took_by}
use Rattle.gs_protocol_laws.proofs.FitLemmas.{took_effect}
use Rattle.gs_protocol_laws.proofs.StatusLemmas.{written_status, answer_asks}
use Rattle.gs_protocol_laws.proofs.UnchangedLemmas.{only_writes_state}
use Rattle.gs_protocol_laws.proofs.NumberLemmas.{commit_next, no_effect}

-- Each number of the last writes is one that W allows for its target, the one of Deletes one that D allows; and those with a name are
-- of the graphs that are there.
record Raised (W : Target → ℕ → Type 0) (D : ℕ → Type 0) (m : Dataset) (k : LastWrites) : Type 0 where
  pub unnamed : W Default k.unnamed
  pub removed : D k.removed
  pub named : (a : List ℕ) (v : ℕ) → fin.get k.named a ≡ Some v → W (Named a) v
  pub names : (a : List ℕ) → is_some (fin.get k.named a) ≡ is_there m (Named a)

-- what is allowed later too
record Grows (W V : Target → ℕ → Type 0) (D E : ℕ → Type 0) : Type 0 where
  pub written : (t : Target) (v : ℕ) → W t v → V t v
  pub deleted : (v : ℕ) → D v → E v

grown : (W V : Target → ℕ → Type 0) (D E : ℕ → Type 0) (m : Dataset) (k : LastWrites) → Grows W V D E → Raised W D m k → Raised V E m k
grown W V D E m k up old = record {
  unnamed = up.written Default k.unnamed old.unnamed;
  removed = up.deleted k.removed old.removed;
  named = λ a v is. up.written (Named a) v (old.named a v is);
  names = old.names;
}

-- where a store begins, no name is there
start_raised : (W : Target → ℕ → Type 0) (D : ℕ → Type 0) (c : ℕ) → W Default c → D c → Raised W D empty_dataset (state_from c).last_writes
start_raised W D c unnamed removed = record {
  unnamed = unnamed;
  removed = removed;
  named = λ a v is. absurd (let no : None ≡ Some v = sym (fin.get-empty name_cmp a) ∙ is in cc);
  names = λ a. ap is_some (fin.get-empty {X = ℕ} name_cmp a) ∙ sym (ap is_some (fin.get-empty {X = Graph} name_cmp a));
}

-- both have the name, or both do as before
both_put : (e : Bool) (n : ℕ) (g : Graph) (o : Option ℕ) (p : Option Graph) → is_some o ≡ is_some p → is_some (cond e (Some n) o) ≡ is_some (cond e (Some g) p)
both_put true n g o p same = refl
both_put false n g o p same = same

both_taken : (e : Bool) (o : Option ℕ) (p : Option Graph) → is_some o ≡ is_some p → is_some (cond e None o) ≡ is_some (cond e None p)
both_taken true o p same = refl
both_taken false o p same = same

-- names that differ are of targets that differ
differ : (a b : List ℕ) → eq_by_cmp name_cmp b a ≡ false → Some (Named a) ≡ Some (Named b) → ⊥
differ a b e same =
    let here : b ≡ a = cc in
    let clash : true ≡ false = sym (ap is_eq (tied_itself name_total b)) ∙ ap (λ c. eq_by_cmp name_cmp b c) here ∙ e in
    absurd (cc)

-- the number of a name after a write of one
named_after : (V : Target → ℕ → Type 0) (k : LastWrites) (n : ℕ) (a b : List ℕ) (v : ℕ) → V (Named a) n
    → ((Some (Named a) ≡ Some (Named b) → ⊥) → fin.get k.named b ≡ Some v → V (Named b) v)
    → fin.get (fin.insert k.named a n) b ≡ Some v → V (Named b) v
named_after V k n a b v own old is =
    elim (eq_by_cmp name_cmp b a) as (λ e. eq_by_cmp name_cmp b a ≡ e → cond e (Some n) (fin.get k.named b) ≡ Some v → V (Named b) v) [
      | true ↦ λ e new. subst (λ c. V (Named c) v) (sym (name_exact _ _ ((Equal-is _).0 e))) (subst (V (Named a)) (same_number n v new) own)
      | false ↦ λ e same. old (differ a b e) same
    ] refl (sym (fin.get-insert name_total k.named a n b) ∙ is)
  where
    same_number : (i j : ℕ) → Some i ≡ Some j → i ≡ j
    same_number i j e = cc

-- and after a Delete of one
named_left : (V : Target → ℕ → Type 0) (k : LastWrites) (a b : List ℕ) (v : ℕ)
    → ((Some (Named a) ≡ Some (Named b) → ⊥) → fin.get k.named b ≡ Some v → V (Named b) v)
    → fin.get (fin.remove k.named a) b ≡ Some v → V (Named b) v
named_left V k a b v old is =
    elim (eq_by_cmp name_cmp b a) as (λ e. eq_by_cmp name_cmp b a ≡ e → cond e None (fin.get k.named b) ≡ Some v → V (Named b) v) [
      | true ↦ λ e none. absurd (cc)
      | false ↦ λ e same. old (differ a b e) same
    ] refl (sym (fin.get-remove name_total k.named a b) ∙ is)

-- What one operation makes of what is allowed, W and D before it and V and E after it: its number for its target, and where it deleted a
-- name; all else is as it was.
record Moves (W V : Target → ℕ → Type 0) (D E : ℕ → Type 0) (w : Setting) (m : Dataset) (n : ℕ) (q : Operation) : Type 0 where
  pub own : (t : Target) → operation_target w m q ≡ Some t → V t n
  pub other : (t : Target) → (operation_target w m q ≡ Some t → ⊥) → (v : ℕ) → W t v → V t v
  pub gone : (a : List ℕ) → q ≡ Deletes (Named a) → E n
  pub kept : ((a : List ℕ) → q ≡ Deletes (Named a) → ⊥) → (v : ℕ) → D v → E v

-- a write of a target
write_raised : (W V : Target → ℕ → Type 0) (D E : ℕ → Type 0) (m : Dataset) (k : LastWrites) (n : ℕ) (t : Target) (g : Graph) → V t n
    → ((u : Target) → (Some t ≡ Some u → ⊥) → (v : ℕ) → W u v → V u v) → ((v : ℕ) → D v → E v) → Raised W D m k → Raised V E (with_graph m t g) (with_write k n t)
write_raised W V D E m k n Default g own other kept old = record {
  unnamed = own;
  removed = kept k.removed old.removed;
  named = λ b v is. other (Named b) (λ same. absurd (cc)) v (old.named b v is);
  names = old.names;
}
write_raised W V D E m k n (Named a) g own other kept old = record {
  unnamed = other Default (λ same. absurd (cc)) k.unnamed old.unnamed;
  removed = kept k.removed old.removed;
  named = λ b v. named_after V k n a b v own (λ spared is. other (Named b) spared v (old.named b v is));
  names = λ b. ap is_some (fin.get-insert name_total k.named a n b)
      ∙ both_put (eq_by_cmp name_cmp b a) n g (fin.get k.named b) (fin.get m.named b) (old.names b)
      ∙ sym (ap is_some (fin.get-insert name_total m.named a g b));
}

-- and a Delete
delete_raised : (W V : Target → ℕ → Type 0) (D E : ℕ → Type 0) (w : Setting) (m : Dataset) (k : LastWrites) (n : ℕ) (t : Target) → Moves W V D E w m n (Deletes t) → Raised W D m k
    → Raised V E (without_graph m t) (with_delete k n t)
delete_raised W V D E w m k n Default moves old = record {
  unnamed = moves.own Default refl;
  removed = moves.kept (λ a is. absurd (cc)) k.removed old.removed;
  named = λ b v is. moves.other (Named b) (λ same. absurd (cc)) v (old.named b v is);
  names = old.names;
}
delete_raised W V D E w m k n (Named a) moves old = record {
  unnamed = moves.other Default (λ same. absurd (cc)) k.unnamed old.unnamed;
  removed = moves.gone a refl;
  named = λ b v. named_left V k a b v (λ spared is. moves.other (Named b) spared v (old.named b v is));
  names = λ b. ap is_some (fin.get-remove name_total k.named a b)
      ∙ both_taken (eq_by_cmp name_cmp b a) (fin.get k.named b) (fin.get m.named b) (old.names b)
      ∙ sym (ap is_some (fin.get-remove name_total m.named a b));
}

-- what took effect left its graph
stored_is : (w : Setting) (m : Dataset) (t : Target) (g : Graph) → is_success (stored_status w m t g) ≡ true → stored w m t g ≡ with_graph m t g
stored_is w m t g =
    elim (is_within w.limits (with_graph m t g)) as (λ b. is_success (cond b (cond (is_there m t) 204 201) 507) ≡ true → cond b (with_graph m t g) m ≡ with_graph m t g) [
      | true ↦ λ e. refl
      | false ↦ λ e. absurd (cc)
    ]

patched_is : (w : Setting) (m : Dataset) (t : Target) (g : Graph) → is_success (cond (is_there m t) (stored_status w m t g) 404) ≡ true
    → cond (is_there m t) (stored w m t g) m ≡ with_graph m t g
patched_is w m t g =
    elim (is_there m t) as (λ b. is_success (cond b (stored_status w m t g) 404) ≡ true → cond b (stored w m t g) m ≡ with_graph m t g) [
      | true ↦ λ e. stored_is w m t g e
      | false ↦ λ e. absurd (cc)
    ]

deleted_is : (m : Dataset) (t : Target) → is_success (cond (is_there m t) 204 404) ≡ true → cond (is_there m t) (without_graph m t) m ≡ without_graph m t
deleted_is m t =
    elim (is_there m t) as (λ b. is_success (cond b 204 404) ≡ true → cond b (without_graph m t) m ≡ without_graph m t) [
      | true ↦ λ e. refl
      | false ↦ λ e. absurd (cc)
    ]

-- so with each operation that took effect
one_raised : (W V : Target → ℕ → Type 0) (D E : ℕ → Type 0) (w : Setting) (m : Dataset) (k : LastWrites) (n : ℕ) (q : Operation) → is_success (status_of w m q) ≡ true
    → Moves W V D E w m n q → Raised W D m k → Raised V E (after w m q) (last_writes_after w m k n q)
one_raised W V D E w m k n (Puts t g) e moves old =
    subst (λ d. Raised V E d (with_write k n t)) (sym (stored_is w m t g e))
    (write_raised W V D E m k n t g (moves.own t refl) moves.other (moves.kept (λ a is. absurd (cc))) old)
one_raised W V D E w m k n (Posts t g) e moves old =
    subst (λ d. Raised V E d (with_write k n t)) (sym (stored_is w m t (united (graph_at m t) g) e))
    (write_raised W V D E m k n t (united (graph_at m t) g) (moves.own t refl) moves.other (moves.kept (λ a is. absurd (cc))) old)
one_raised W V D E w m k n (Creates r g) e moves old =
    let t : Target = Named (new_name w.base m r) in
    subst (λ d. Raised V E d (with_write k n t)) (sym (stored_is w m t g e))
    (write_raised W V D E m k n t g (moves.own t refl) moves.other (moves.kept (λ a is. absurd (cc))) old)
one_raised W V D E w m k n (Patches t ops) e moves old =
    subst (λ d. Raised V E d (with_write k n t)) (sym (patched_is w m t (patched (graph_at m t) ops) e))
    (write_raised W V D E m k n t (patched (graph_at m t) ops) (moves.own t refl) moves.other (moves.kept (λ a is. absurd (cc))) old)
one_raised W V D E w m k n (Deletes t) e moves old =
    subst (λ d. Raised V E d (with_delete k n t)) (sym (deleted_is m t e)) (delete_raised W V D E w m k n t moves old)
one_raised W V D E w m k n (Looks c) e moves old = absurd (no_effect (has m c) e)
one_raised W V D E w m k n (Reads c) e moves old = absurd (no_effect (has m c) e)

-- what a history allows: the numbers of its last writes
abbrev RaisedIn : Start → History → State → Type 0
RaisedIn start h m = Raised (λ t v. IsLastWrite start h t v) (λ v. IsLastDelete start h v) m.dataset m.last_writes

-- by an event that was answered 201 or 204
event_moves : (start : Start) (h : History) (x : Event × Answer) (q : Asked) (n : ℕ) → operation_by h x.0 x.1 ≡ Some q → is_written x.1 ≡ true → n ≡ commit_after start (x ∷ h)
    → Moves (λ t v. IsLastWrite start h t v) (λ t v. IsLastWrite start (x ∷ h) t v) (λ v. IsLastDelete start h v) (λ v. IsLastDelete start (x ∷ h) v) start.setting (dataset_after start h) n q.operation
event_moves start h x q n asks e number = record {
  own = λ t is. inl ((e, subst (HasTarget t) (sym asks) is), number);
  other = λ t spared v old. inr (λ writes. spared (subst (HasTarget t) asks writes.1), old);
  gone = λ a is. inl ((e, subst Deletion (sym asks) (a, is)), number);
  kept = λ spared v old. inr (λ deletes. let name : Deletion (Some q) = subst Deletion asks deletes.1 in spared name.0 name.1, old);
}
  where
    HasTarget : Target → Option Asked → Type 0
    HasTarget t o = MatchOption o ⊥ (λ p. operation_target start.setting (dataset_after start h) p.operation ≡ Some t)

    Deletion : Option Asked → Type 0
    Deletion o = MatchOption o ⊥ (λ p. (name : List ℕ) × (p.operation ≡ Deletes (Named name)))

-- one more event of a legal history
next_raised : (start : Start) (h : History) (x : Event × Answer) → IsLegal start (x ∷ h) → RaisedIn start h (state_after start h) → RaisedIn start (x ∷ h) (state_after start (x ∷ h))
next_raised start h x legal old = go (is_written x.1) refl
  where
    m : State
    m = state_after start h

    go : (b : Bool) → is_written x.1 ≡ b → RaisedIn start (x ∷ h) (state_after start (x ∷ h))
    go false e =
        let none : is_written x.1 ≡ true → ⊥ = λ written. absurd (let clash : false ≡ true = sym e ∙ written in cc) in
        subst (RaisedIn start (x ∷ h)) (sym (only_writes_state start h x legal e))
        (grown (λ t v. IsLastWrite start h t v) (λ t v. IsLastWrite start (x ∷ h) t v) (λ v. IsLastDelete start h v) (λ v. IsLastDelete start (x ∷ h) v) m.dataset m.last_writes
        (record { written = λ t v k. inr (λ writes. none writes.0, k); deleted = λ v k. inr (λ deletes. none deletes.0, k) }) old)
    go true e =
        let asks = answer_asks start h x.0 x.1 legal (written_status x.1 e) in
        let took = took_by start.setting m asks.0 (took_effect start h x asks.0 legal asks.1 e) in
        let number : m.commit + 1 ≡ commit_after start (x ∷ h) = sym (commit_next start h x legal ∙ ap {B = ℕ} (λ b. m.commit + cond b 1 0) e) in
        let next : state_after start (x ∷ h) ≡ done_by start.setting m asks.0.operation =
        ap (λ o. after_all_if start.setting start.commit (cons_option o (points_of h))) asks.1 ∙ took.state in
        subst (RaisedIn start (x ∷ h)) (sym next)
        (subst (λ b. Raised (λ t v. IsLastWrite start (x ∷ h) t v) (λ v. IsLastDelete start (x ∷ h) v) (after start.setting m.dataset asks.0.operation)
        (cond b (last_writes_after start.setting m.dataset m.last_writes (m.commit + 1) asks.0.operation) m.last_writes)) (sym took.status)
        (one_raised (λ t v. IsLastWrite start h t v) (λ t v. IsLastWrite start (x ∷ h) t v) (λ v. IsLastDelete start h v) (λ v. IsLastDelete start (x ∷ h) v)
        start.setting m.dataset m.last_writes (m.commit + 1) asks.0.operation took.status (event_moves start h x asks.0 (m.commit + 1) asks.1 e number) old))

raised_in : (start : Start) (h : History) → IsLegal start h → RaisedIn start h (state_after start h)
raised_in start [] legal = start_raised (λ t v. IsLastWrite start [] t v) (λ v. IsLastDelete start [] v) start.commit refl refl
raised_in start (x ∷ h) legal = next_raised start h x legal (raised_in start h legal.0)

-- so the number of a target is that of the last write of it, or, where it is missing, of the last Delete of a name
pub there_raised : (start : Start) (h : History) (t : Target) → IsLegal start h → is_there (dataset_after start h) t ≡ true → IsLastWrite start h t (last_write_on (state_after start h).last_writes t)
there_raised start h Default legal there = (raised_in start h legal).unnamed
there_raised start h (Named a) legal there = go (fin.get k.named a) refl
  where
    k : LastWrites
    k = (state_after start h).last_writes

    go : (o : Option ℕ) → fin.get k.named a ≡ o → IsLastWrite start h (Named a) (unwrap_or (fin.get k.named a) k.removed)
    go None is = absurd (let clash : false ≡ true = sym (ap is_some is) ∙ (raised_in start h legal).names a ∙ there in cc)
    go (Some v) is = subst (λ o. IsLastWrite start h (Named a) (unwrap_or o k.removed)) (sym is) ((raised_in start h legal).named a v is)

pub missing_raised : (start : Start) (h : History) (t : Target) → IsLegal start h → is_there (dataset_after start h) t ≡ false → IsLastDelete start h (last_write_on (state_after start h).last_writes t)
missing_raised start h Default legal missing = absurd (cc)
missing_raised start h (Named a) legal missing = go (fin.get k.named a) refl
  where
    k : LastWrites
    k = (state_after start h).last_writes

    go : (o : Option ℕ) → fin.get k.named a ≡ o → IsLastDelete start h (unwrap_or (fin.get k.named a) k.removed)
    go None is = subst (λ o. IsLastDelete start h (unwrap_or o k.removed)) (sym is) (raised_in start h legal).removed
    go (Some v) is = absurd (let clash : true ≡ false = sym (ap is_some is) ∙ (raised_in start h legal).names a ∙ missing in cc)
