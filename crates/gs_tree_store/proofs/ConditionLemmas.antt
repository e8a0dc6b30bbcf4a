-- Writes on condition: what one that comes too late comes to, and what one in time does.
use Rattle.std.proofs.Common.{◌≡◌, ◌+◌, ◌<◌, ◌≤◌, ◌&&◌, ℕ, Bool, true, false, not, nat_eq, cond, List, Option, Some, None, inl, inr, refl, sym, ap, subst, ◌∙◌, add-zero}
use Rattle.std.proofs.lemmas.Bool.Decides.{eqb_tells}
use Rattle.std.proofs.lemmas.Option.{none-some, same_Some}
use Rattle.gs_model.specs.Graphs.{Graph}
use Rattle.gs_model.specs.Limits.{last_number}
use Rattle.gs_model.specs.declared.refusals.Refusal.TheVariants.{LastNumber}
use Rattle.gs_term.specs.declared.names.Target.{Target}
use Rattle.gs_event.specs.declared.events.UploadKind.{UploadKind}
use Rattle.gs_event.specs.declared.events.UploadKind.TheVariants.{Put, Post, New}
use Rattle.gs_event.specs.declared.events.Scope.{Scope}
use Rattle.gs_event.specs.declared.answers.Answer.TheVariants.{Status, Refused}
use Rattle.gs_event.specs.Datasets.{has, is_there}
use Rattle.gs_event.specs.Operations.{Looks, Reads, after, status_of, location_of, is_success, wants_memory}
use Rattle.gs_event.specs.Conditions.{LastWrites, State, Asked, asked_since, is_above, is_late, last_write_on, last_write_of, last_writes_after, status_if, location_if, number_if, wants_memory_if, after_if, done_by}
use Rattle.gs_event.specs.Phases.{write_of}
use Rattle.gs_event.specs.Views.{Totals, state_of, FitsWrite}
use Rattle.gs_tree_store.specs.declared.books.Books.{Books}
use Rattle.gs_tree_store.specs.Uses.{PostUses}
use Rattle.gs_tree_store.specs.LastWrites.{last_writes_of, late_number, late_write_of, late_upload_of}
use Rattle.gs_tree_store.specs.Books.{books_setting, dataset_of, totals_of}

-- what the abstract store makes of an operation on its condition: status, location, number, and the state after it
pub record ComesTo (v : Totals) (q : Asked) (status : ℕ) (name : Option (List ℕ)) (number : ℕ) (then : State) : Type 0 where
  pub status_is : status ≡ status_if v.setting (state_of v) q
  pub name_is : name ≡ location_if v.setting (state_of v) q
  pub number_is : number ≡ number_if v.setting (state_of v) q
  pub state_is : after_if v.setting (state_of v) q ≡ then

-- an answer with these fits
pub fits_so : (v : Totals) (q : Asked) (status : ℕ) (name : Option (List ℕ)) (number : ℕ) (then : State) → ComesTo v q status name number then → (is_success status ≡ true → v.commit < last_number) → FitsWrite v q (Status status name number)
fits_so v q status name number then c left = (c.status_is, c.name_is, left, c.number_is)

-- the totals are those after it
pub totals_so : (old new : Books) (q : Asked) (then : State) → after_if (books_setting old) (state_of (totals_of old)) q ≡ then → books_setting new ≡ books_setting old → new.request ≡ old.request → state_of (totals_of new) ≡ then
    → totals_of new ≡ record {
      setting = books_setting old;
      dataset = (after_if (books_setting old) (state_of (totals_of old)) q).dataset;
      request = old.request + 0;
      commit = (after_if (books_setting old) (state_of (totals_of old)) q).commit;
      last_writes = (after_if (books_setting old) (state_of (totals_of old)) q).last_writes;
    }
totals_so old new q then after_is setting request state =
    let now = state ∙ sym after_is in
    let asked = request ∙ sym (add-zero old.request) in
    λ i. record { setting = setting i; dataset = (now i).dataset; request = asked i; commit = (now i).commit; last_writes = (now i).last_writes }

-- it comes too late
pub comes_late : (v : Totals) (q : Asked) (number : ℕ) → is_late (state_of v) q.since q.operation ≡ true → None ≡ location_of v.setting v.dataset q.operation → number ≡ last_write_of (state_of v) q.operation → ComesTo v q 412 None number (state_of v)
comes_late v q number late name is =
    let m = state_of v in
    let w = v.setting in
    let own = last_write_of m q.operation in
    let other = cond {A = ℕ} (is_success (status_of w v.dataset q.operation)) (v.commit + 1) v.commit in
    record {
      status_is = sym (ap (λ b. cond {A = ℕ} b 412 (status_of w v.dataset q.operation)) late);
      name_is = name;
      number_is = is ∙ sym (ap (λ b. cond {A = ℕ} b own other) late);
      state_is = ap (λ b. cond {A = State} b m (done_by w m q.operation)) late;
    }

-- It comes in time.
module _ (v : Totals) (q : Asked) (in_time : is_late (state_of v) q.since q.operation ≡ false) where
  pub status_in_time : status_if v.setting (state_of v) q ≡ status_of v.setting v.dataset q.operation
  status_in_time = ap (λ b. cond {A = ℕ} b 412 (status_of v.setting v.dataset q.operation)) in_time

  number_in_time : number_if v.setting (state_of v) q ≡ cond {A = ℕ} (is_success (status_of v.setting v.dataset q.operation)) (v.commit + 1) v.commit
  number_in_time = ap (λ b. cond {A = ℕ} b (last_write_of (state_of v) q.operation) (cond {A = ℕ} (is_success (status_of v.setting v.dataset q.operation)) (v.commit + 1) v.commit)) in_time

  pub state_in_time : after_if v.setting (state_of v) q ≡ done_by v.setting (state_of v) q.operation
  state_in_time = ap (λ b. cond {A = State} b (state_of v) (done_by v.setting (state_of v) q.operation)) in_time

  -- so it may want memory where the operation may
  pub wants_in_time : wants_memory v.dataset q.operation ≡ true → wants_memory_if (state_of v) q ≡ true
  wants_in_time wants = λ i. not (in_time i) && wants i

  -- with effect
  pub comes_done : (status : ℕ) (name : Option (List ℕ)) → status ≡ status_of v.setting v.dataset q.operation → is_success status ≡ true → name ≡ location_of v.setting v.dataset q.operation
      → ComesTo v q status name (v.commit + 1) (record { dataset = after v.setting v.dataset q.operation; commit = v.commit + 1; last_writes = last_writes_after v.setting v.dataset v.last_writes (v.commit + 1) q.operation })
  comes_done status name is well name_is =
      let done : is_success (status_of v.setting v.dataset q.operation) ≡ true = sym (ap is_success is) ∙ well in
      let next = last_writes_after v.setting v.dataset v.last_writes (v.commit + 1) q.operation in
      record {
        status_is = is ∙ sym status_in_time;
        name_is = name_is;
        number_is = sym (number_in_time ∙ ap (λ b. cond {A = ℕ} b (v.commit + 1) v.commit) done);
        state_is = state_in_time ∙ (λ i. record { dataset = after v.setting v.dataset q.operation; commit = v.commit + cond {A = ℕ} (done i) 1 0; last_writes = cond {A = LastWrites} (done i) next v.last_writes });
      }

  -- and without
  pub comes_undone : (status : ℕ) (name : Option (List ℕ)) → status ≡ status_of v.setting v.dataset q.operation → is_success status ≡ false → name ≡ location_of v.setting v.dataset q.operation → after v.setting v.dataset q.operation ≡ v.dataset
      → ComesTo v q status name v.commit (state_of v)
  comes_undone status name is fails name_is dataset =
      let undone : is_success (status_of v.setting v.dataset q.operation) ≡ false = sym (ap is_success is) ∙ fails in
      let next = last_writes_after v.setting v.dataset v.last_writes (v.commit + 1) q.operation in
      let commit : v.commit + cond {A = ℕ} (is_success (status_of v.setting v.dataset q.operation)) 1 0 ≡ v.commit = ap (λ b. v.commit + cond {A = ℕ} b 1 0) undone ∙ add-zero v.commit in
      record {
        status_is = is ∙ sym status_in_time;
        name_is = name_is;
        number_is = sym (number_in_time ∙ ap (λ b. cond {A = ℕ} b (v.commit + 1) v.commit) undone);
        state_is = state_in_time ∙ (λ i. record { dataset = dataset i; commit = commit i; last_writes = cond {A = LastWrites} (undone i) next v.last_writes });
      }

-- what took effect did not come too late
pub well_in_time : (v : Totals) (q : Asked) (status : ℕ) → is_success status ≡ true → status ≡ status_if v.setting (state_of v) q → is_late (state_of v) q.since q.operation ≡ false
well_in_time v q status well = elim (is_late (state_of v) q.since q.operation) as (λ b. status ≡ cond {A = ℕ} b 412 (status_of v.setting v.dataset q.operation) → b ≡ false) [
  | true ↦ λ e. sym well ∙ ap is_success e
  | false ↦ λ e. refl
]

-- what took effect has another status than what came too late, and than what the store would not hold
pub post_done : (status staged m n : ℕ) → is_success status ≡ true → PostUses (nat_eq status 412) (nat_eq status 507) staged m n
post_done status staged m n well = elim (eqb_tells status 412) [
  | inl late ↦ absurd (let no : false ≡ true = sym (ap is_success late.1) ∙ well in cc)
  | inr early ↦ elim (eqb_tells status 507) [
    | inl full ↦ absurd (let no : false ≡ true = sym (ap is_success full.1) ∙ well in cc)
    | inr held ↦ subst (λ x. PostUses x (nat_eq status 507) staged m n) (sym early.0) (subst (λ y. PostUses false y staged m n) (sym held.0) tt)
  ]
]

-- where no commit number is left for it
pub no_number : (v : Totals) (q : Asked) → is_late (state_of v) q.since q.operation ≡ false → is_success (status_of v.setting v.dataset q.operation) ≡ true → last_number ≤ v.commit → FitsWrite v q (Refused LastNumber)
no_number v q in_time would last = (ap is_success (status_in_time v q in_time) ∙ would, last)

-- a question takes no effect, whether it finds what is asked for or not
no_effect : (found : Bool) → is_success (cond {A = ℕ} found 200 404) ≡ false
no_effect true = refl
no_effect false = refl

pub looks_stay : (v : Totals) (c : Scope) → after_if v.setting (state_of v) (asked_since None (Looks c)) ≡ state_of v
looks_stay v c = (comes_undone v (asked_since None (Looks c)) refl (cond {A = ℕ} (has v.dataset c) 200 404) None refl (no_effect (has v.dataset c)) refl refl).state_is

pub reads_stay : (v : Totals) (c : Scope) → after_if v.setting (state_of v) (asked_since None (Reads c)) ≡ state_of v
reads_stay v c = (comes_undone v (asked_since None (Reads c)) refl (cond {A = ℕ} (has v.dataset c) 200 404) None refl (no_effect (has v.dataset c)) refl refl).state_is

-- a number that is reported as late is the last write's, and above the condition
late_is : (n number : ℕ) (since : Option ℕ) → Some number ≡ late_number n since → (is_above n since ≡ true) × (number ≡ n)
late_is n number since = elim (is_above n since) as (λ b. Some number ≡ cond {A = Option ℕ} b (Some n) None → (b ≡ true) × (number ≡ n)) [
  | true ↦ λ e. (refl, same_Some number n e)
  | false ↦ λ e. absurd (none-some number (sym e))
]

-- what is not some number is none
pub none_if : (o : Option ℕ) → ((n : ℕ) → o ≡ Some n → ⊥) → o ≡ None
none_if None not = refl
none_if (Some n) not = absurd (not n refl)

-- and where none is, the last write is not
not_late : (n : ℕ) (since : Option ℕ) → late_number n since ≡ None → is_above n since ≡ false
not_late n since = elim (is_above n since) as (λ b. cond {A = Option ℕ} b (Some n) None ≡ None → b ≡ false) [
  | true ↦ λ e. absurd (none-some n (sym e))
  | false ↦ λ e. refl
]

-- an upload that comes too late
pub upload_late : (b : Books) (k : UploadKind) (r : ℕ) (g : Graph) (since : Option ℕ) (number : ℕ) → Some number ≡ late_upload_of b k since → ComesTo (totals_of b) (asked_since since (write_of k r g)) 412 None number (state_of (totals_of b))
upload_late b (Put t) r g since number is =
    let late = late_is (last_write_on (last_writes_of b) t) number since is in
    comes_late (totals_of b) (asked_since since (write_of (Put t) r g)) number late.0 refl late.1
upload_late b (Post t) r g since number is =
    let late = late_is (last_write_on (last_writes_of b) t) number since is in
    comes_late (totals_of b) (asked_since since (write_of (Post t) r g)) number late.0 refl late.1
upload_late b New r g since number is = absurd (none-some number (sym is))

-- a PUT or a POST whose target was not written since its condition
pub upload_in_time : (b : Books) (t : Target) (since : Option ℕ) → late_write_of b t since ≡ None → is_above (last_write_on (last_writes_of b) t) since ≡ false
upload_in_time b t since none = not_late (last_write_on (last_writes_of b) t) since none

-- A patch or a Delete of a graph.
module _ (b : Books) (t : Target) (since : Option ℕ) (there : is_there (dataset_of b) t ≡ true) where
  pub change_late : (number : ℕ) → Some number ≡ late_write_of b t since → (is_there (dataset_of b) t && is_above (last_write_on (last_writes_of b) t) since ≡ true) × (number ≡ last_write_on (last_writes_of b) t)
  change_late number is =
      let late = late_is (last_write_on (last_writes_of b) t) number since is in
      (λ i. there i && late.0 i, late.1)

  pub change_in_time : late_write_of b t since ≡ None → is_there (dataset_of b) t && is_above (last_write_on (last_writes_of b) t) since ≡ false
  change_in_time none = λ i. there i && upload_in_time b t since none i
