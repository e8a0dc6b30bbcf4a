-- The records that seats have open: one that is opened, one that is let go, and those of all seats.
use Rattle.std.proofs.Common.{◌≡◌, ◌≢◌, ◌⊎◌, ℕ, ◌<◌, ◌≤◌, Bool, true, false, cond, List, length, get_or, set, sum_by, Option, Some, None, is_some, refl, sym, ap, subst, ◌∙◌, arith, inl, inr, true≢false}
use Rattle.std.proofs.lemmas.Bool.{cases_eq}
use Rattle.std.proofs.lemmas.Option.{none-some, same_Some}
use Rattle.std.proofs.lemmas.List.{get_or_default, get_or-set_same, get_or-set_other}
use Rattle.std.proofs.lemmas.List.Sums.{sum_by-set}
use Rattle.gs_model.specs.declared.refusals.Refusal.{Refusal}
use Rattle.gs_term.specs.declared.names.Target.{Target}
use Rattle.gs_event.specs.declared.events.Action.{Action}
use Rattle.gs_event.specs.declared.answers.Answer.{Answer}
use Rattle.gs_event.specs.declared.answers.Answer.TheVariants.{Refused}
use Rattle.gs_event.specs.Wasting.{Joins, IsUnreached, WastesRecords}
use Rattle.gs_catalogue.specs.declared.versions.GraphVersion.{GraphVersion}
use Rattle.gs_records.specs.Records.{Record, free, opened, unused, kept, Recorded, record_at, ended, Turns, Ends}
use Rattle.gs_records.specs.Calls.{KeepsCounts, UsesOne, is_nothing, made_record, placed, Opens, GivesUp, RemovesVersion, MakesCurrent}
use Rattle.gs_records.specs.Waste.{is_opened, waste_in, open_count, used_count}
use Rattle.gs_quads.specs.Laws.{HasSame}
use Rattle.gs_quads.proofs.Calls.{calls_keep}
use Rattle.gs_tree_store.specs.declared.books.Books.{Books}
use Rattle.gs_tree_store.specs.declared.books.Seat.{Seat}
use Rattle.gs_tree_store.specs.declared.books.Seat.TheVariants.{Idle, Writing, Patching, Reading, ReadingAll}
use Rattle.gs_tree_store.specs.Books.{totals_of, seat_view_by}
use Rattle.gs_tree_store.specs.Opened.{TakesRecords, own_record, own_count, IsOpened, HasRecord, SameOpened, LetsGo, IsOther, KeepsRecords, own_record_at, HaveRecords}
use Rattle.gs_tree_store.proofs.RecordLemmas.{given_up}

-- what an action makes of the number of records in use, and of their waste
abbrev pub Takes : Books → Books → Action → Answer → Type 0
Takes b c action answer = TakesRecords action answer (used_count b.records.records) (used_count c.records.records)

abbrev pub Wastes : Books → Books → Seat → Action → Answer → Type 0
Wastes b c was action answer = WastesRecords (totals_of b) (seat_view_by b was) action answer (waste_in b.records.records) (waste_in c.records.records)

-- each version up to the last has what it had
abbrev pub AllSame : Books → Books → Type 0
AllSame b c = (v : ℕ) → v ≤ b.versions.commit → HasSame v b.records c.records

-- so it is where the records are the same,
itself : (x : Recorded) (v : ℕ) → HasSame v x x
itself x v = record { numbers = λ n. refl; graphs = λ n has. refl; ages = λ n has. refl }

all_itself : (b c : Books) → c.records ≡ b.records → AllSame b c
all_itself b c same v le = subst (λ (x : Recorded). HasSame v b.records x) (sym same) (itself b.records v)

-- where an open one is given up,
all_given_up : (b c : Books) (n : ℕ) → IsOpened b n → GivesUp b.records c.records n → AllSame b c
all_given_up b c n was gives v le = (calls_keep v).gives_up b.records c.records n was gives

-- and where one is that of a graph by a later commit, or a graph is taken away by one
pub all_put : (b c : Books) (n : ℕ) (t : Target) (g : GraphVersion) (commit : ℕ) → b.versions.commit < commit → IsOpened b n → MakesCurrent b.records c.records n t g commit → AllSame b c
all_put b c n t g commit later was puts v le = (calls_keep v).puts b.records c.records n t g commit (omega arith) was puts

pub all_removed : (b c : Books) (t : Target) (commit : ℕ) → b.versions.commit < commit → RemovesVersion b.records c.records t commit → AllSame b c
all_removed b c t commit later gone v le = (calls_keep v).removes b.records c.records t commit (omega arith) gone

-- a seat has one record open where it has a record
counted : (s : Seat) → own_count s ≡ cond {A = ℕ} (is_some (own_record s)) 1 0
counted Idle = refl
counted (Writing k r v n since) = refl
counted (Patching t r n since) = refl
counted (Reading root last) = refl
counted (ReadingAll v last) = refl

count_is : (s : Seat) (o : Option ℕ) → own_record s ≡ o → own_count s ≡ cond {A = ℕ} (is_some o) 1 0
count_is s o is = counted s ∙ ap (λ (x : Option ℕ). cond {A = ℕ} (is_some x) 1 0) is

-- the same records are open, and the seat has what it had
pub open_stays : (b c : Books) (was now : Seat) (action : Action) (answer : Answer) → own_record now ≡ own_record was → SameOpened b c → AllSame b c → KeepsCounts b.records.records c.records.records → Takes b c action answer → Wastes b c was action answer → KeepsRecords b c was now action answer
open_stays b c was now action answer own same all counts takes wastes = record {
  own = λ has n e. same.stays n (has n (sym own ∙ e));
  others = λ n o. record { open_now = same.stays n o.open_now; other = λ e. o.other (sym own ∙ e) };
  no_more = λ n o. record { open_now = same.no_more n o.open_now; other = λ e. o.other (own ∙ e) };
  opens = omega (arith, counts.opens, count_is now (own_record was) own, counted was);
  same = all;
  takes = takes;
  waste = wastes;
}

-- the records are the same, and the seat has what it had
pub records_stay : (b c : Books) (was now : Seat) (action : Action) (answer : Answer) → c.records ≡ b.records → own_record now ≡ own_record was → Takes b b action answer → Wastes b b was action answer → KeepsRecords b c was now action answer
records_stay b c was now action answer same own takes wastes =
    let here = sym same in
    open_stays b c was now action answer own
    (record { stays = λ n h. ap (λ (x : Recorded). record_at x.records n) same ∙ h; no_more = λ n h. ap (λ (x : Recorded). record_at x.records n) here ∙ h })
    (all_itself b c same)
    (record { used = ap (λ (x : Recorded). used_count x.records) same; opens = ap (λ (x : Recorded). open_count x.records) same })
    (subst (λ (x : Recorded). TakesRecords action answer (used_count b.records.records) (used_count x.records)) here takes)
    (subst (λ (x : Recorded). WastesRecords (totals_of b) (seat_view_by b was) action answer (waste_in b.records.records) (waste_in x.records)) here wastes)

-- the same, where the answer is found to be a refusal
pub refused_stays : (b c : Books) (was now : Seat) (action : Action) (answer : Answer) (why : Refusal) → c.records ≡ b.records → own_record now ≡ own_record was → answer ≡ Refused why → Takes b b action (Refused why) → Wastes b b was action (Refused why) → KeepsRecords b c was now action answer
refused_stays b c was now action answer why same own is takes wastes =
    subst (λ a. KeepsRecords b c was now action a) (sym is) (records_stay b c was now action (Refused why) same own takes wastes)

-- a record is opened for the seat, which had none
pub record_opened : (b c : Books) (was now : Seat) (action : Action) (answer : Answer) (n : ℕ) → own_record was ≡ None → own_record now ≡ Some n → Opens b.records c.records n → Takes b c action answer → Wastes b c was action answer → KeepsRecords b c was now action answer
record_opened b c was now action answer n none own opens takes wastes = record {
  own = λ has m e. ap (record_at c.records.records) (sym (same_Some n m (sym own ∙ e))) ∙ opens.turns.changed;
  others = λ m o.
      let apart : m ≢ n = λ same. true≢false (sym (ap is_opened o.open_now) ∙ ap (λ k. is_opened (record_at b.records.records k)) same ∙ ap is_opened opens.was) in
      record { open_now = opens.turns.others m apart ∙ o.open_now; other = λ e. apart (sym (same_Some n m (sym own ∙ e))) };
  no_more = λ m o.
      let apart : m ≢ n = λ same. o.other (own ∙ ap Some (sym same)) in
      record { open_now = sym (opens.turns.others m apart) ∙ o.open_now; other = λ e. none-some m (sym none ∙ e) };
  opens =
      let before : own_count was ≡ 0 = count_is was None none in
      let after : own_count now ≡ 1 = count_is now (Some n) own in
      omega (arith, opens.opens, before, after);
  same = λ v le. (calls_keep v).opens b.records c.records n opens;
  takes = takes;
  waste = wastes;
}

-- one record stands for what is not open
pub turn_lets_go : (b c : Books) (n : ℕ) (r : Record) → is_opened r ≡ false → Turns b.records.records c.records.records n r → LetsGo b c n
turn_lets_go b c n r closed turns = record {
  stays = λ m apart h. turns.others m apart ∙ h;
  no_more = λ m h. elim (cases_eq m n) [
    | inl same ↦ absurd (true≢false (sym (ap is_opened h) ∙ ap (λ k. is_opened (record_at c.records.records k)) same ∙ ap is_opened turns.changed ∙ closed))
    | inr apart ↦ (apart, sym (turns.others m apart) ∙ h)
  ];
}

-- what is open after an end of a graph's record was open
ended_opened : (t : Target) (death : ℕ) (r : Record) → ended t death r ≡ opened → r ≡ opened
ended_opened t death free h = h
ended_opened t death opened h = refl
ended_opened t death unused h = h
ended_opened t death (kept e) h = absurd (true≢false (sym (ap is_opened h)))

-- an end leaves what is open
pub end_same : (b c : Books) (t : Target) (commit : ℕ) → Ends b.records.records c.records.records t commit → SameOpened b c
end_same b c t commit ends = record {
  stays = λ m h. ends m ∙ ap (ended t commit) h;
  no_more = λ m h. ended_opened t commit (record_at b.records.records m) (sym (ends m) ∙ h);
}

placed_closed : (x : Bool) (r : Record) → is_opened r ≡ false → is_opened (cond x unused r) ≡ false
placed_closed true r closed = refl
placed_closed false r closed = closed

-- a commit lets its record go
pub put_lets_go : (b c : Books) (n : ℕ) (t : Target) (v : GraphVersion) (commit : ℕ) → MakesCurrent b.records c.records n t v commit → LetsGo b c n
put_lets_go b c n t v commit puts =
    let closed : is_opened (placed t v commit) ≡ false = placed_closed (is_nothing t v) (made_record t v commit) refl in
    record {
      stays = λ m apart h. puts.others m apart ∙ ap (ended t commit) h;
      no_more = λ m h. elim (cases_eq m n) [
        | inl same ↦ absurd (true≢false (sym (ap is_opened h) ∙ ap (λ k. is_opened (record_at c.records.records k)) same ∙ ap is_opened puts.turned ∙ closed))
        | inr apart ↦ (apart, ended_opened t commit (record_at b.records.records m) (sym (puts.others m apart) ∙ h))
      ];
    }

-- the seat's record is let go
pub record_let_go : (b c : Books) (was now : Seat) (action : Action) (answer : Answer) (n : ℕ) → own_record was ≡ Some n → own_record now ≡ None → LetsGo b c n → AllSame b c → UsesOne b.records.records c.records.records → Takes b c action answer → Wastes b c was action answer → KeepsRecords b c was now action answer
record_let_go b c was now action answer n own none go all counts takes wastes = record {
  own = λ h k e. absurd (none-some k (sym none ∙ e));
  others = λ m o. record {
    open_now = go.stays m (λ same. o.other (own ∙ ap Some (sym same))) o.open_now;
    other = λ e. none-some m (sym none ∙ e);
  };
  no_more = λ m o.
      let was_open = go.no_more m o.open_now in
      record { open_now = was_open.1; other = λ e. was_open.0 (same_Some m n (sym e ∙ own)) };
  opens =
      let before : own_count was ≡ 1 = count_is was (Some n) own in
      let after : own_count now ≡ 0 = count_is now None none in
      omega (arith, counts.opens, before, after);
  same = all;
  takes = takes;
  waste = wastes;
}

-- it is given up
pub record_given_up : (b c : Books) (was now : Seat) (action : Action) (answer : Answer) (n : ℕ) → own_record was ≡ Some n → own_record now ≡ None → IsOpened b n → GivesUp b.records c.records n
    → (used_count c.records.records ≡ used_count b.records.records → Takes b c action answer) → (Joins IsUnreached 1 (waste_in b.records.records) (waste_in c.records.records) → Wastes b c was action answer)
    → KeepsRecords b c was now action answer
record_given_up b c was now action answer n own none open_now gives takes wastes =
    record_let_go b c was now action answer n own none (turn_lets_go b c n unused refl gives.turns) (all_given_up b c n open_now gives) gives.counts (takes gives.counts.used) (wastes (given_up b.records c.records n gives))

has_or_not : (o : Option ℕ) (n : ℕ) → (o ≡ Some n) ⊎ (o ≡ Some n → ⊥)
has_or_not None n = inr (none-some n)
has_or_not (Some m) n = elim (cases_eq m n) [
  | inl same ↦ inl (ap Some same)
  | inr apart ↦ inr (λ e. apart (same_Some m n e))
]

-- A seat's action keeps what is true of the records of all seats.
module _ (b c : Books) (xs : List Seat) (s : ℕ) (was now : Seat) (within : s < length xs) (is : was ≡ get_or xs s was) (have : HaveRecords b xs) where
  own_at : own_record_at xs s ≡ own_record was
  own_at = ap own_record (get_or_default xs s Idle was within ∙ sym is)

  -- the seat's is open
  pub own_open : HasRecord b was
  own_open n e = have.open_now s n (own_at ∙ e)

  other_open : (k n : ℕ) → k ≢ s → own_record_at xs k ≡ Some n → IsOther b was n
  other_open k n apart e = record { open_now = have.open_now k n e; other = λ f. apart (have.apart k s n e (own_at ∙ f)) }

  own_after : own_record_at (set xs s now) s ≡ own_record now
  own_after = ap own_record (get_or-set_same xs s now Idle within)

  other_after : (k : ℕ) → k ≢ s → own_record_at (set xs s now) k ≡ own_record_at xs k
  other_after k apart = ap own_record (get_or-set_other xs s k now Idle apart)

  -- what is not the seat's is that of another
  beside : (n : ℕ) → IsOther b was n → (k : ℕ) × (own_record_at (set xs s now) k ≡ Some n)
  beside n o =
      let found = have.all n o.open_now in
      (found.0, other_after found.0 (λ same. o.other (sym own_at ∙ ap (own_record_at xs) (sym same) ∙ found.1)) ∙ found.1)

  module _ (action : Action) (answer : Answer) (keeps : KeepsRecords b c was now action answer) where
    kept_other : (k n : ℕ) → k ≢ s → own_record_at (set xs s now) k ≡ Some n → IsOther c now n
    kept_other k n apart e = keeps.others n (other_open k n apart (sym (other_after k apart) ∙ e))

    open_after : (k n : ℕ) → own_record_at (set xs s now) k ≡ Some n → IsOpened c n
    open_after k n e = elim (cases_eq k s) [
      | inl same ↦ keeps.own own_open n (sym own_after ∙ sym (ap (own_record_at (set xs s now)) same) ∙ e)
      | inr apart ↦ (kept_other k n apart e).open_now
    ]

    own_apart : (k n : ℕ) → k ≢ s → own_record_at (set xs s now) s ≡ Some n → own_record_at (set xs s now) k ≡ Some n → s ≡ k
    own_apart k n apart e f = absurd ((kept_other k n apart f).other (sym own_after ∙ e))

    apart_after : (j k n : ℕ) → own_record_at (set xs s now) j ≡ Some n → own_record_at (set xs s now) k ≡ Some n → j ≡ k
    apart_after j k n e f = elim (cases_eq j s) [
      | inl one ↦ elim (cases_eq k s) [
        | inl two ↦ one ∙ sym two
        | inr two ↦ one ∙ own_apart k n two (sym (ap (own_record_at (set xs s now)) one) ∙ e) f
      ]
      | inr one ↦ elim (cases_eq k s) [
        | inl two ↦ sym (own_apart j n one (sym (ap (own_record_at (set xs s now)) two) ∙ f) e) ∙ sym two
        | inr two ↦ have.apart j k n (sym (other_after j one) ∙ e) (sym (other_after k two) ∙ f)
      ]
    ]

    all_after : (n : ℕ) → IsOpened c n → (k : ℕ) × (own_record_at (set xs s now) k ≡ Some n)
    all_after n h = elim (has_or_not (own_record now) n) [
      | inl own ↦ (s, own_after ∙ own)
      | inr other ↦ beside n (keeps.no_more n (record { open_now = h; other = other }))
    ]

    many_after : open_count c.records.records ≡ sum_by own_count (set xs s now)
    many_after = omega (arith, have.many, keeps.opens, sum_by-set own_count xs s now Idle within, ap own_count (get_or_default xs s Idle was within ∙ sym is))

    pub have_after : HaveRecords c (set xs s now)
    have_after = record { open_now = open_after; apart = apart_after; all = all_after; many = many_after }
