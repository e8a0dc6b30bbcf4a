-- What commit numbers tell, and what a write on condition keeps.
use Rattle.std.proofs.Common.{◌≡◌, ◌⊎◌, inl, inr, ◌≤◌, ℕ, ◌+◌, Bool, true, false, ◌&&◌, cond, List, [], ◌∷◌, ◌++◌, Option, Some, None, IfSome, refl, sym, ap, ◌∙◌, subst, arith, unwrap_or}
use Rattle.std.proofs.lemmas.Bool.Decides.{nat_tests}
use Rattle.std.proofs.lemmas.List.Sums.{sum_by-cons}
use Rattle.std.specs.List.{cons_option}
use Rattle.std.specs.Ordering.{is_eq, eq_by_cmp}
use Rattle.std.specs.Cmp.{tied_itself}
use Rattle.std.specs.FinMap as fin
use Rattle.gs_term.specs.Names.{name_cmp}
use Rattle.gs_term.proofs.NameLemmas.{name_total}
use Rattle.gs_term.specs.declared.names.Target.{Target}
use Rattle.gs_term.specs.declared.names.Target.TheVariants.{Default, Named}
use Rattle.gs_event.specs.declared.events.Event.{Event}
use Rattle.gs_event.specs.declared.answers.Answer.{Answer}
use Rattle.gs_event.specs.declared.answers.Answer.TheVariants.{Status}
use Rattle.gs_event.specs.Datasets.{Dataset, has, is_there}
use Rattle.gs_event.specs.Names.{new_name}
use Rattle.gs_event.specs.Operations.{Setting, Operation, Puts, Posts, Creates, Patches, Deletes, Looks, Reads, status_of, is_success}
use Rattle.gs_event.specs.Conditions.{LastWrites, State, state_from, last_write_on, Asked, asked_since, is_above, is_late, with_write, with_delete, last_writes_after, last_write_of, status_if, after_if, after_all_if}
use Rattle.gs_event.specs.Verdicts.{operation_target}
use Rattle.gs_event.specs.Views.{is_written}
use Rattle.gs_event.specs.Histories.{History, Start, IsLegal, dataset_after, state_after, commit_after, operation_by, points_of}
use Rattle.gs_protocol_laws.specs.ReadBack.{SpareSince}
use Rattle.gs_protocol_laws.specs.Numbers.{heeds_condition, CommitsCountWrites, PinsReportTheCommit, HeadsReportTheCommit, WritesReportTheirCommit, ConditionsLoseNothing}
use Rattle.gs_protocol_laws.proofs.WriteLemmas.{took_by, others_leave}
use Rattle.gs_protocol_laws.proofs.FitLemmas.{event_tells, took_effect, head_told, pin_begins}
use Rattle.gs_protocol_laws.proofs.StatusLemmas.{written_status, answer_asks}
use Rattle.gs_protocol_laws.proofs.UnchangedLemmas.{only_writes_state}
use Rattle.gs_protocol_laws.proofs.ReadBackLemmas.{spares}

-- one more event of a legal history takes a commit number where it was answered 201 or 204, and else none
pub commit_next : (start : Start) (h : History) (x : Event × Answer) → IsLegal start (x ∷ h) → commit_after start (x ∷ h) ≡ commit_after start h + cond (is_written x.1) 1 0
commit_next start h x legal = go (is_written x.1) refl
  where
    m : State
    m = state_after start h

    go : (b : Bool) → is_written x.1 ≡ b → commit_after start (x ∷ h) ≡ m.commit + cond (is_written x.1) 1 0
    go false e = omega (arith, ap (λ (k : State). k.commit) (only_writes_state start h x legal e), ap {B = ℕ} (λ b. cond b 1 0) e)
    go true e =
        let asks = answer_asks start h x.0 x.1 legal (written_status x.1 e) in
        let took = took_by start.setting m asks.0 (took_effect start h x asks.0 legal asks.1 e) in
        ap (λ o. (after_all_if start.setting start.commit (cons_option o (points_of h))).commit) asks.1
        ∙ ap (λ (k : State). k.commit) took.state
        ∙ ap {B = ℕ} (λ b. m.commit + cond b 1 0) (took.status ∙ sym e)

pub commits_count : CommitsCountWrites
commits_count start [] legal = omega arith
commits_count start (x ∷ h) legal =
    omega (arith, commit_next start h x legal, commits_count start h legal.0, sum_by-cons (λ (y : Event × Answer). cond (is_written y.1) 1 0) x h)

pub pins_report : PinsReportTheCommit
pins_report start h seat s number c legal = (pin_begins start h seat c s number legal).number_is

pub heads_report : HeadsReportTheCommit
heads_report start h seat s number name c legal = (head_told start h seat c s name number legal).1

pub writes_report : WritesReportTheirCommit
writes_report start h e s number name legal written =
    let m : State = state_after start h in
    let asks = answer_asks start h e (Status s name number) legal (written_status (Status s name number) written) in
    let took = took_by start.setting m asks.0 (took_effect start h (e, Status s name number) asks.0 legal asks.1 written) in
    let own : number ≡ m.commit + 1 =
    (event_tells start h e (Status s name number) asks.0 legal asks.1).number s name number refl
    ∙ ap (λ b. cond b (last_write_of m asks.0.operation) (cond (is_success (status_of start.setting m.dataset asks.0.operation)) (m.commit + 1) m.commit)) took.in_time
    ∙ ap (λ b. cond b (m.commit + 1) m.commit) took.status in
    own ∙ sym (commit_next start h (e, Status s name number) legal ∙ ap {B = ℕ} (λ b. m.commit + cond b 1 0) written)

-- what a write makes of the numbers of the last writes: each is as it was, or that of the write
abbrev Writes : LastWrites → LastWrites → ℕ → Target → Type 0
Writes k l n t = (last_write_on l t ≡ last_write_on k t) ⊎ (last_write_on l t ≡ n)

write_one : (k : LastWrites) (n : ℕ) (u t : Target) → Writes k (with_write k n u) n t
write_one k n Default Default = inr refl
write_one k n Default (Named b) = inl refl
write_one k n (Named a) Default = inl refl
write_one k n (Named a) (Named b) =
    elim (eq_by_cmp name_cmp b a) as (λ e. eq_by_cmp name_cmp b a ≡ e → Writes k (with_write k n (Named a)) n (Named b)) [
      | true ↦ λ e. inr (ap (λ o. unwrap_or o k.removed) (fin.get-insert name_total k.named a n b ∙ ap (λ c. cond c (Some n) (fin.get k.named b)) e))
      | false ↦ λ e. inl (ap (λ o. unwrap_or o k.removed) (fin.get-insert name_total k.named a n b ∙ ap (λ c. cond c (Some n) (fin.get k.named b)) e))
    ] refl

write_own : (k : LastWrites) (n : ℕ) (t : Target) → last_write_on (with_write k n t) t ≡ n
write_own k n Default = refl
write_own k n (Named a) = ap (λ o. unwrap_or o k.removed) (fin.get-insert name_total k.named a n a ∙ ap (λ b. cond b (Some n) (fin.get k.named a)) (ap is_eq (tied_itself name_total a)))

-- a name that stays has its number, and one that is missing has that of the Delete
or_removed : (k : LastWrites) (n : ℕ) (b : List ℕ) (o : Option ℕ) → fin.get k.named b ≡ o → (unwrap_or o n ≡ last_write_on k (Named b)) ⊎ (unwrap_or o n ≡ n)
or_removed k n b None e = inr refl
or_removed k n b (Some v) e = inl (sym (ap (λ p. unwrap_or p k.removed) e))

delete_one : (k : LastWrites) (n : ℕ) (u t : Target) → Writes k (with_delete k n u) n t
delete_one k n Default Default = inr refl
delete_one k n Default (Named b) = inl refl
delete_one k n (Named a) Default = inl refl
delete_one k n (Named a) (Named b) =
    elim (eq_by_cmp name_cmp b a) as (λ e. eq_by_cmp name_cmp b a ≡ e → Writes k (with_delete k n (Named a)) n (Named b)) [
      | true ↦ λ e. inr (ap (λ o. unwrap_or o n) (fin.get-remove name_total k.named a b ∙ ap (λ c. cond c None (fin.get k.named b)) e))
      | false ↦ λ e. subst (λ x. (x ≡ last_write_on k (Named b)) ⊎ (x ≡ n))
          (sym (ap (λ o. unwrap_or o n) (fin.get-remove name_total k.named a b ∙ ap (λ c. cond c None (fin.get k.named b)) e))) (or_removed k n b (fin.get k.named b) refl)
    ] refl

delete_own : (k : LastWrites) (n : ℕ) (t : Target) → last_write_on (with_delete k n t) t ≡ n
delete_own k n Default = refl
delete_own k n (Named a) = ap (λ o. unwrap_or o n) (fin.get-remove name_total k.named a a ∙ ap (λ b. cond b None (fin.get k.named a)) (ap is_eq (tied_itself name_total a)))

-- so with each operation that takes effect
writes_after : (w : Setting) (m : Dataset) (k : LastWrites) (n : ℕ) (q : Operation) (t : Target) → Writes k (last_writes_after w m k n q) n t
writes_after w m k n (Puts u g) t = write_one k n u t
writes_after w m k n (Posts u g) t = write_one k n u t
writes_after w m k n (Creates r g) t = write_one k n (Named (new_name w.base m r)) t
writes_after w m k n (Patches u ops) t = write_one k n u t
writes_after w m k n (Deletes u) t = delete_one k n u t
writes_after w m k n (Looks c) t = inl refl
writes_after w m k n (Reads c) t = inl refl

pub same_target : (u t : Target) → Some u ≡ Some t → u ≡ t
same_target u t e = cc

-- no question takes effect
pub no_effect : (b : Bool) → is_success (cond b 200 404) ≡ true → ⊥
no_effect true e = absurd (cc)
no_effect false e = absurd (cc)

-- and the number of its own target is the write's
own_after : (w : Setting) (m : Dataset) (k : LastWrites) (n : ℕ) (q : Operation) (t : Target) → is_success (status_of w m q) ≡ true → operation_target w m q ≡ Some t
    → last_write_on (last_writes_after w m k n q) t ≡ n
own_after w m k n (Puts u g) t e is = ap (λ v. last_write_on (with_write k n u) v) (sym (same_target u t is)) ∙ write_own k n u
own_after w m k n (Posts u g) t e is = ap (λ v. last_write_on (with_write k n u) v) (sym (same_target u t is)) ∙ write_own k n u
own_after w m k n (Creates r g) t e is = ap (λ v. last_write_on (with_write k n (Named (new_name w.base m r))) v) (sym (same_target (Named (new_name w.base m r)) t is)) ∙ write_own k n (Named (new_name w.base m r))
own_after w m k n (Patches u ops) t e is = ap (λ v. last_write_on (with_write k n u) v) (sym (same_target u t is)) ∙ write_own k n u
own_after w m k n (Deletes u) t e is = ap (λ v. last_write_on (with_delete k n u) v) (sym (same_target u t is)) ∙ delete_own k n u
own_after w m k n (Looks c) t e is = absurd (no_effect (has m c) e)
own_after w m k n (Reads c) t e is = absurd (no_effect (has m c) e)

-- What one operation makes of the number of a target, which is no greater than that of the last commit: it rises, and to the new
-- number where the operation took effect at the target.
record Rises (w : Setting) (m : State) (q : Asked) (t : Target) : Type 0 where
  pub below : last_write_on (after_if w m q).last_writes t ≤ (after_if w m q).commit
  pub rises : last_write_on m.last_writes t ≤ last_write_on (after_if w m q).last_writes t
  pub grows : m.commit ≤ (after_if w m q).commit
  pub own : is_success (status_if w m q) ≡ true → operation_target w m.dataset q.operation ≡ Some t → last_write_on (after_if w m q).last_writes t ≡ m.commit + 1

rises_one : (w : Setting) (m : State) (q : Asked) (t : Target) → last_write_on m.last_writes t ≤ m.commit → Rises w m q t
rises_one w m q t low = go (is_success (status_if w m q)) refl
  where
    go : (b : Bool) → is_success (status_if w m q) ≡ b → Rises w m q t
    go false e =
        let same : after_if w m q ≡ m = others_leave w m q e in
        record {
          below = subst (λ (k : State). last_write_on k.last_writes t ≤ k.commit) (sym same) low;
          rises = omega (arith, ap (λ (k : State). last_write_on k.last_writes t) same);
          grows = omega (arith, ap (λ (k : State). k.commit) same);
          own = λ well is. absurd (let no : false ≡ true = sym e ∙ well in cc);
        }
    go true e =
        let took = took_by w m q e in
        let commit : (after_if w m q).commit ≡ m.commit + 1 = ap (λ (k : State). k.commit) took.state ∙ ap {B = ℕ} (λ b. m.commit + cond b 1 0) took.status in
        let last : last_write_on (after_if w m q).last_writes t ≡ last_write_on (last_writes_after w m.dataset m.last_writes (m.commit + 1) q.operation) t =
        ap (λ (k : State). last_write_on k.last_writes t) took.state
        ∙ ap (λ b. last_write_on (cond b (last_writes_after w m.dataset m.last_writes (m.commit + 1) q.operation) m.last_writes) t) took.status in
        by_either commit last (writes_after w m.dataset m.last_writes (m.commit + 1) q.operation t) took.status
      where
        by_either : (after_if w m q).commit ≡ m.commit + 1
            → last_write_on (after_if w m q).last_writes t ≡ last_write_on (last_writes_after w m.dataset m.last_writes (m.commit + 1) q.operation) t
            → Writes m.last_writes (last_writes_after w m.dataset m.last_writes (m.commit + 1) q.operation) (m.commit + 1) t
            → is_success (status_of w m.dataset q.operation) ≡ true → Rises w m q t
        by_either commit last (inl same) well = record {
          below = omega (arith, commit, last, same, low);
          rises = omega (arith, last, same);
          grows = omega (arith, commit);
          own = λ e is. last ∙ own_after w m.dataset m.last_writes (m.commit + 1) q.operation t well is;
        }
        by_either commit last (inr new) well = record {
          below = omega (arith, commit, last, new);
          rises = omega (arith, last, new, low);
          grows = omega (arith, commit);
          own = λ e is. last ∙ own_after w m.dataset m.last_writes (m.commit + 1) q.operation t well is;
        }

-- where a store begins, no write came after its start
start_low : (c : ℕ) (t : Target) → last_write_on (state_from c).last_writes t ≤ c
start_low c Default = omega arith
start_low c (Named n) = omega (arith, ap (λ o. unwrap_or o c) (fin.get-empty name_cmp n))

-- so it is after all operations
pub last_low : (w : Setting) (c : ℕ) (qs : List Asked) (t : Target) → last_write_on (after_all_if w c qs).last_writes t ≤ (after_all_if w c qs).commit
last_low w c [] t = start_low c t
last_low w c (q ∷ qs) t = (rises_one w (after_all_if w c qs) q t (last_low w c qs t)).below

-- commit numbers never fall
commit_grows : (start : Start) (before later : History) → IsLegal start (later ++ before) → commit_after start before ≤ commit_after start (later ++ before)
commit_grows start before [] legal = omega arith
commit_grows start before (x ∷ later) legal = omega (arith, commit_next start (later ++ before) x legal, commit_grows start before later legal.0)

-- what an event asked, if anything, by which the number of a target rises to one that is low still: it did not write the target
spare_one : (start : Start) (h : History) (x : Event × Answer) (o : Option Asked) (t : Target) (n : ℕ) → operation_by h x.0 x.1 ≡ o → IsLegal start (x ∷ h) → n ≤ commit_after start h
    → last_write_on (state_after start (x ∷ h)).last_writes t ≤ n
    → (last_write_on (state_after start h).last_writes t ≤ n)
    × IfSome o (λ q. is_written x.1 ≡ true → operation_target start.setting (dataset_after start h) q.operation ≡ Some t → ⊥)
spare_one start h x None t n is legal le low =
    let same : state_after start (x ∷ h) ≡ state_after start h = ap (λ o. after_all_if start.setting start.commit (cons_option o (points_of h))) is in
    (omega (arith, ap (λ (k : State). last_write_on k.last_writes t) same, low), tt)
spare_one start h x (Some q) t n is legal le low =
    let m : State = state_after start h in
    let next : state_after start (x ∷ h) ≡ after_if start.setting m q = ap (λ o. after_all_if start.setting start.commit (cons_option o (points_of h))) is in
    let up = rises_one start.setting m q t (last_low start.setting start.commit (points_of h) t) in
    let last = ap (λ (k : State). last_write_on k.last_writes t) next in
    (omega (arith, up.rises, last, low), λ written target. absurd (let own = up.own (took_effect start h x q legal is written) target in omega (arith, own, last, low, le)))

pub spared_low : (start : Start) (t : Target) (before later : History) → IsLegal start (later ++ before)
    → last_write_on (state_after start (later ++ before)).last_writes t ≤ commit_after start before → SpareSince start t before later
spared_low start t before [] legal low = tt
spared_low start t before (x ∷ later) legal low =
    let one = spare_one start (later ++ before) x (operation_by (later ++ before) x.0 x.1) t (commit_after start before) refl legal (commit_grows start before later legal.0) low in
    (spared_low start t before later legal.0 one.0, one.1)

-- a number that is not above the condition
not_above : (write n : ℕ) → is_above write (Some n) ≡ false → write ≤ n
not_above write n e = grind (arith, nat_tests)

second_false : (a b : Bool) → a ≡ true → (a && b) ≡ false → b ≡ false
second_false true b there e = e
second_false false b there e = absurd (cc)

-- what is patched or deleted was there
patched_there : (b : Bool) (s : ℕ) → is_success (cond b s 404) ≡ true → b ≡ true
patched_there true s e = refl
patched_there false s e = absurd (cc)

-- what took effect on a condition was not written since
in_time_low : (w : Setting) (m : State) (n : ℕ) (q : Operation) (t : Target) → heeds_condition q ≡ true → is_late m (Some n) q ≡ false → is_success (status_of w m.dataset q) ≡ true
    → operation_target w m.dataset q ≡ Some t → last_write_on m.last_writes t ≤ n
in_time_low w m n (Puts u g) t heeds late well is = subst (λ v. last_write_on m.last_writes v ≤ n) (same_target u t is) (not_above _ n late)
in_time_low w m n (Posts u g) t heeds late well is = subst (λ v. last_write_on m.last_writes v ≤ n) (same_target u t is) (not_above _ n late)
in_time_low w m n (Patches u ops) t heeds late well is =
    subst (λ v. last_write_on m.last_writes v ≤ n) (same_target u t is) (not_above _ n (second_false (is_there m.dataset u) _ (patched_there (is_there m.dataset u) _ well) late))
in_time_low w m n (Deletes u) t heeds late well is =
    subst (λ v. last_write_on m.last_writes v ≤ n) (same_target u t is) (not_above _ n (second_false (is_there m.dataset u) _ (patched_there (is_there m.dataset u) _ well) late))
in_time_low w m n (Creates r g) t heeds late well is = absurd (cc)
in_time_low w m n (Looks c) t heeds late well is = absurd (cc)
in_time_low w m n (Reads c) t heeds late well is = absurd (cc)

pub lose_nothing : ConditionsLoseNothing
lose_nothing start before later x n q t legal le heeds asks written target =
    let m : State = state_after start (later ++ before) in
    let took = took_by start.setting m (asked_since (Some n) q) (took_effect start (later ++ before) x (asked_since (Some n) q) legal asks written) in
    let low = in_time_low start.setting m n q t heeds took.in_time took.status target in
    let spared = spared_low start t before later legal.0 (omega (arith, low, le)) in
    (spared, spares start t before later legal.0 spared)
