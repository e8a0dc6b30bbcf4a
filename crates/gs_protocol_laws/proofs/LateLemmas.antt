-- What 412 tells: its condition, and that its number is that of the last write of the target or, where that is missing, of the last Delete of
-- a name.
use Rattle.std.proofs.Common.{◌≡◌, ◌<◌, ℕ, ◌+◌, nat_eq, Bool, true, false, ◌&&◌, cond, Option, Some, None, refl, sym, ap, ◌∙◌, subst, arith}
use Rattle.std.proofs.lemmas.Bool.Decides.{nat_tests}
use Rattle.gs_term.specs.declared.names.Target.{Target}
use Rattle.gs_term.specs.declared.names.Target.TheVariants.{Named}
use Rattle.gs_event.specs.declared.answers.Answer.TheVariants.{Status}
use Rattle.gs_event.specs.Datasets.{Dataset, graph_at, has, is_there, with_graph}
use Rattle.gs_event.specs.Updates.{patched}
use Rattle.gs_event.specs.Names.{new_name}
use Rattle.gs_event.specs.Operations.{Setting, Operation, Puts, Posts, Creates, Patches, Deletes, Looks, Reads, is_within, united, status_of, is_success}
use Rattle.gs_event.specs.Conditions.{State, last_write_on, Asked, is_above, is_late, last_write_of, status_if}
use Rattle.gs_event.specs.Verdicts.{operation_target}
use Rattle.gs_event.specs.Histories.{state_after, points_of}
use Rattle.gs_protocol_laws.specs.Numbers.{IsLastWrite, IsLastDelete, LateWritesWereLate}
use Rattle.gs_protocol_laws.proofs.FitLemmas.{event_tells}
use Rattle.gs_protocol_laws.proofs.NumberLemmas.{same_target, last_low}
use Rattle.gs_protocol_laws.proofs.RaisedLemmas.{there_raised, missing_raised}

-- no operation has 412 of itself
stored_not : (within there : Bool) → nat_eq (cond within (cond there 204 201) 507) 412 ≡ false
stored_not true true = refl
stored_not true false = refl
stored_not false there = refl

patched_not : (within there : Bool) → nat_eq (cond there (cond within (cond there 204 201) 507) 404) 412 ≡ false
patched_not true true = refl
patched_not false true = refl
patched_not within false = refl

or_missing_not : (there : Bool) (s : ℕ) → nat_eq s 412 ≡ false → nat_eq (cond there s 404) 412 ≡ false
or_missing_not true s e = e
or_missing_not false s e = refl

status_not : (w : Setting) (m : Dataset) (q : Operation) → nat_eq (status_of w m q) 412 ≡ false
status_not w m (Puts t g) = stored_not (is_within w.limits (with_graph m t g)) (is_there m t)
status_not w m (Posts t g) = stored_not (is_within w.limits (with_graph m t (united (graph_at m t) g))) (is_there m t)
status_not w m (Creates r g) = stored_not (is_within w.limits (with_graph m (Named (new_name w.base m r)) g)) (is_there m (Named (new_name w.base m r)))
status_not w m (Patches t ops) = patched_not (is_within w.limits (with_graph m t (patched (graph_at m t) ops))) (is_there m t)
status_not w m (Deletes t) = or_missing_not (is_there m t) 204 refl
status_not w m (Looks c) = or_missing_not (has m c) 200 refl
status_not w m (Reads c) = or_missing_not (has m c) 200 refl

-- what comes too late has a condition, and the last write on its target came after it
record Passes (m : State) (since : Option ℕ) (q : Operation) (t : Target) : Type 0 where
  pub above : is_above (last_write_on m.last_writes t) since ≡ true
  pub number : last_write_of m q ≡ last_write_on m.last_writes t

passes_at : (m : State) (since : Option ℕ) (q : Operation) (u t : Target) → is_above (last_write_on m.last_writes u) since ≡ true → last_write_of m q ≡ last_write_on m.last_writes u → Some u ≡ Some t
    → Passes m since q t
passes_at m since q u t above number is = subst (Passes m since q) (same_target u t is) (record { above = above; number = number })

second_true : (a b : Bool) → (a && b) ≡ true → b ≡ true
second_true true b e = e
second_true false b e = absurd (cc)

passes : (w : Setting) (m : State) (since : Option ℕ) (q : Operation) (t : Target) → is_late m since q ≡ true → operation_target w m.dataset q ≡ Some t → Passes m since q t
passes w m since (Puts u g) t late is = passes_at m since (Puts u g) u t late refl is
passes w m since (Posts u g) t late is = passes_at m since (Posts u g) u t late refl is
passes w m since (Patches u ops) t late is = passes_at m since (Patches u ops) u t (second_true (is_there m.dataset u) _ late) refl is
passes w m since (Deletes u) t late is = passes_at m since (Deletes u) u t (second_true (is_there m.dataset u) _ late) refl is
passes w m since (Creates r g) t late is = absurd (cc)
passes w m since (Looks c) t late is = absurd (cc)
passes w m since (Reads c) t late is = absurd (cc)

above_some : (write : ℕ) (since : Option ℕ) → is_above write since ≡ true → (n : ℕ) × (since ≡ Some n) × (n < write)
above_some write None e = absurd (cc)
above_some write (Some n) e = (n, refl, grind (arith, nat_tests))

-- a status 412 says so
late_status : (w : Setting) (m : State) (q : Asked) → 412 ≡ status_if w m q → is_late m q.since q.operation ≡ true
late_status w m q e = go (is_late m q.since q.operation) refl
  where
    go : (b : Bool) → is_late m q.since q.operation ≡ b → is_late m q.since q.operation ≡ true
    go true late = late
    go false in_time = absurd (
        let clash : true ≡ false = ap (λ s. nat_eq s 412) (e ∙ ap (λ b. cond b 412 (status_of w m.dataset q.operation)) in_time) ∙ status_not w m.dataset q.operation in
        cc)

pub late_writes : LateWritesWereLate
late_writes start h e name number q t legal asks target =
    let m : State = state_after start h in
    let tells = event_tells start h e (Status 412 name number) q legal asks in
    let late = late_status start.setting m q (tells.status 412 name number refl) in
    let passed = passes start.setting m q.since q.operation t late target in
    let is : number ≡ last_write_on m.last_writes t =
    tells.number 412 name number refl
    ∙ ap (λ b. cond b (last_write_of m q.operation) (cond (is_success (status_of start.setting m.dataset q.operation)) (m.commit + 1) m.commit)) late
    ∙ passed.number in
    let above = above_some (last_write_on m.last_writes t) q.since passed.above in
    record {
      condition = above.0;
      since = above.1;
      above = omega (arith, above.2, is);
      taken = omega (arith, is, last_low start.setting start.commit (points_of h) t);
      there = λ there. subst (λ v. IsLastWrite start h t v) (sym is) (there_raised start h t legal.0 there);
      missing = λ missing. subst (λ v. IsLastDelete start h v) (sym is) (missing_raised start h t legal.0 missing);
    }
