-- What a seat's action keeps of the whole store.
use Rattle.std.proofs.Common.{zero, suc, drop, ◌≡◌, ℕ, ◌+◌, ◌<◌, ◌≤◌, true, false, cond, List, [], ◌∷◌, map, length, get_or, Option, Some, None, MatchOption, refl, sym, ap, ◌∙◌, subst, arith, vec_len, vec_capacity, string_bytes, option_map, replicate, add-zero}
use Rattle.std.specs.List.{slice_get, slice_set, count_by, sum_by, All, range_with_len}
use Rattle.gs_event.specs.Datasets.{empty_dataset, quads_of, triples_in, names_in, records_in}
use Rattle.gs_event.specs.Histories.{view_of}
use Rattle.gs_event.specs.Operations.{Setting}
use Rattle.gs_event.specs.Conditions.{State, Asked, is_late, done_by}
use Rattle.gs_event.specs.Waste.{Shown, held_at, held_in, nodes_in}
use Rattle.gs_event.proofs.DatasetLemmas.{triples_in-empty, names_in-empty}
use Rattle.std.proofs.lemmas.List.Folds.{sum_by-replicate}
use Rattle.std.proofs.Common.{◌*◌}
use Rattle.std.proofs.lemmas.List.Elements.{All-set, recursion_from_All, All-from_recursion}
use Rattle.std.specs.List.{AllByRecursion}
use Rattle.std.proofs.lemmas.List.Sums.{sum_by-set, sum_by-cons, count_by-le-length}
use Rattle.std.proofs.lemmas.List.{map-set}
use Rattle.std.proofs.lemmas.Option.{slice_get-map, slice_get-get_or}
use Rattle.gs_model.specs.Bases.{is_base}
use Rattle.gs_model.specs.declared.refusals.Refusal.TheVariants.{BadSeat}
use Rattle.gs_event.specs.declared.events.Action.{Action}
use Rattle.gs_event.specs.declared.answers.Answer.{Answer}
use Rattle.gs_event.specs.declared.answers.Answer.TheVariants.{Refused}
use Rattle.gs_event.specs.Phases as phase
use Rattle.gs_event.specs.Phases.{operation_of}
use Rattle.gs_event.specs.Views.{View, Totals, SeatView, FitsSeat, state_of, after_asked, next_phase, next_at, next_if}
use Rattle.gs_plain.specs.declared.books.Row.{Row}
use Rattle.gs_plain.specs.declared.books.Books.{Books}
use Rattle.gs_plain.specs.declared.books.Seat.{Seat}
use Rattle.gs_plain.specs.declared.books.Seat.TheVariants.{Idle, Writing, Patching, Reading, ReadingAll}
use Rattle.gs_plain.specs.declared.stores.PlainStore.TheInside.{Inside}
use Rattle.gs_plain.specs.LastWrites.{names_written}
use Rattle.gs_plain.specs.Books.{staged_by, dataset_of, books_setting, totals_of, seat_shown, will_commit, IsKnown, KeepsRows}
use Rattle.gs_plain.specs.Actions.{Acts, HasRowRoom, KeepsRoom}
use Rattle.gs_plain.specs.Kept.{shown_of, IsKept}

-- what a store's fields show, without the waste
abbrev pub view_of_fields : Inside → View
view_of_fields a = (shown_of a).view

-- rows that keep what they had change nothing of what a known read shows
same_shown : (commit : ℕ) (old new : List Row) (s : Seat) → KeepsRows commit old new → IsKnown commit old s → seat_shown new s ≡ seat_shown old s
same_shown commit old new Idle keeps h = refl
same_shown commit old new (Writing k r g since) keeps h = refl
same_shown commit old new (Patching t r since) keeps h = refl
same_shown commit old new (Reading None given pin) keeps h = refl
same_shown commit old new (Reading (Some i) given pin) keeps h = ap (λ lines. phase.Reading (drop given lines)) (keeps.same i h)
same_shown commit old new (ReadingAll given pin) keeps h = ap (λ m. phase.Reading (drop given (quads_of m))) (keeps.past pin h.0)

still_known : (commit later : ℕ) (old new : List Row) (s : Seat) → commit ≤ later → KeepsRows commit old new → IsKnown commit old s → IsKnown later new s
still_known commit later old new Idle le keeps h = h
still_known commit later old new (Writing k r g since) le keeps h = h
still_known commit later old new (Patching t r since) le keeps h = h
still_known commit later old new (Reading None given pin) le keeps h = h
still_known commit later old new (Reading (Some i) given pin) le keeps h = omega (arith, keeps.grows)
still_known commit later old new (ReadingAll given pin) le keeps h = (omega (arith, h.0), rw (keeps.past pin h.0) h.1)

all_same_shown : (commit : ℕ) (old new : List Row) (seats : List Seat) → KeepsRows commit old new → AllByRecursion (IsKnown commit old) seats → map (seat_shown new) seats ≡ map (seat_shown old) seats
all_same_shown commit old new [] keeps h = refl
all_same_shown commit old new (s ∷ seats) keeps h =
    let here = same_shown commit old new s keeps h.0 in
    let rest = all_same_shown commit old new seats keeps h.1 in
    λ i. here i ∷ rest i

no_earlier : (w : Setting) (m : State) (o : Option Asked) → m.commit ≤ (after_asked w m o).commit
no_earlier w m None = omega arith
no_earlier w m (Some q) =
    elim (is_late m q.since q.operation) as (λ b. m.commit ≤ (cond b m (done_by w m q.operation)).commit) [
      | true ↦ omega arith
      | false ↦ omega arith
    ]

others_few : (seats : List Seat) (i : ℕ) → i < length seats → count_by will_commit (slice_set seats i Idle) < length seats
others_few [] i h = absurd (omega arith)
others_few (s ∷ seats) zero h = omega (arith, sum_by-cons (λ x. cond (will_commit x) 1 0) Idle seats, count_by-le-length will_commit seats)
others_few (s ∷ seats) (suc i) h =
    elim (will_commit s) as (λ b. will_commit s ≡ b → count_by will_commit (s ∷ slice_set seats i Idle) < suc (length seats)) [
      | true ↦ λ e. rw (sum_by-cons (λ x. cond (will_commit x) 1 0) s (slice_set seats i Idle), e) (omega (arith, others_few seats i (omega arith)))
      | false ↦ λ e. rw (sum_by-cons (λ x. cond (will_commit x) 1 0) s (slice_set seats i Idle), e) (omega (arith, others_few seats i (omega arith)))
    ] refl

had_room : (len others w wd count cap : ℕ) → others + wd ≡ count + 0 → w ≡ wd → len + count ≤ cap → len + (others + w) ≤ cap
had_room len others w wd count cap e f h = omega arith

has_room : (len others wd w count after cap : ℕ) → others + wd ≡ count + 0 → after + wd ≡ count + w → len + (others + w) ≤ cap → len + after ≤ cap
has_room len others wd w count after cap e f h = omega arith

moved : (old new sum sum' was now there : ℕ) → new + was ≡ old + now → old ≡ sum → sum' + there ≡ sum + now → was ≡ there → new ≡ sum'
moved old new sum sum' was now there e f g h = omega arith

-- what holds of every store still holds
pub kept_after : (a b : Inside) (i : ℕ) (was now : Seat) (action : Action) (answer : Answer) → i < length a.seats.items → was ≡ get_or a.seats.items i was → b.seats.items ≡ slice_set a.seats.items i now → Acts a.books b.books was now action answer → KeepsRoom (length a.seats.items) a.books b.books was now → IsKept a → IsKept b
kept_after a b i was now action answer within is seats acts room kept =
    let xs = a.seats.items in
    let old_rows = a.books.rows.items in
    let since : a.books.commit ≤ b.books.commit = rw (ap (λ (v : Totals). v.commit) acts.totals) (no_earlier (books_setting a.books) (state_of (totals_of a.books)) (operation_of (seat_shown old_rows was) action answer)) in
    let known : All (IsKnown b.books.commit b.books.rows.items) xs = λ k d lt. still_known a.books.commit b.books.commit old_rows b.books.rows.items (get_or xs k d) since acts.rows (kept.known k d lt) in
    let others = count_by will_commit (slice_set xs i Idle) in
    let idle : others + cond (will_commit (get_or xs i was)) 1 0 ≡ count_by will_commit xs + 0 = sum_by-set (λ x. cond (will_commit x) 1 0) xs i Idle was within in
    let after : count_by will_commit (slice_set xs i now) + cond (will_commit (get_or xs i was)) 1 0 ≡ count_by will_commit xs + cond (will_commit now) 1 0 = sum_by-set (λ x. cond (will_commit x) 1 0) xs i now was within in
    let same : cond {A = ℕ} (will_commit was) 1 0 ≡ cond {A = ℕ} (will_commit (get_or xs i was)) 1 0 = ap (λ (s : Seat). cond {A = ℕ} (will_commit s) 1 0) is in
    let before : HasRowRoom a.books others was = had_room (vec_len a.books.rows) others (cond {A = ℕ} (will_commit was) 1 0) (cond {A = ℕ} (will_commit (get_or xs i was)) 1 0) (count_by will_commit xs) (vec_capacity a.books.rows) idle same kept.room in
    let later : HasRowRoom b.books others now = room.kept others (others_few xs i within) before in
    let total : sum_by staged_by (slice_set xs i now) + staged_by (get_or xs i was) ≡ sum_by staged_by xs + staged_by now = sum_by-set staged_by xs i now was within in
    record {
      known = rw seats (All-set (IsKnown b.books.commit b.books.rows.items) xs i now acts.known known);
      room = rw seats (has_room (vec_len b.books.rows) others (cond {A = ℕ} (will_commit (get_or xs i was)) 1 0) (cond {A = ℕ} (will_commit now) 1 0) (count_by will_commit xs) (count_by will_commit (slice_set xs i now)) (vec_capacity b.books.rows) idle after later);
      counted = acts.counted;
      staged = rw seats (moved a.books.staged b.books.staged (sum_by staged_by xs) (sum_by staged_by (slice_set xs i now)) (staged_by was) (staged_by now) (staged_by (get_or xs i was)) acts.staged kept.staged total (ap staged_by is));
    }

seat_there : (a : Inside) (i : ℕ) (was : Seat) → i < length a.seats.items → was ≡ get_or a.seats.items i was → slice_get (view_of_fields a).seats i ≡ Some (seat_shown a.books.rows.items was)
seat_there a i was within is =
    slice_get-map (seat_shown a.books.rows.items) a.seats.items i ∙ ap (option_map (seat_shown a.books.rows.items)) (slice_get-get_or a.seats.items i was within ∙ ap Some (sym is))

-- the answer fits what is shown
pub fits_after : (a : Inside) (v : View) (new : Books) (i : ℕ) (was now : Seat) (action : Action) (answer : Answer) → view_of_fields a ≡ v → i < length a.seats.items → was ≡ get_or a.seats.items i was → Acts a.books new was now action answer → MatchOption (slice_get v.seats i) (answer ≡ Refused BadSeat) (λ p. FitsSeat v.totals p action answer)
fits_after a v new i was now action answer view within is acts =
    subst (λ (u : View). MatchOption (slice_get u.seats i) (answer ≡ Refused BadSeat) (λ p. FitsSeat u.totals p action answer)) view
    (rw (seat_there a i was within is) acts.fits)

-- what is shown then is what comes next
pub next_after : (a b : Inside) (v : View) (i : ℕ) (was now : Seat) (action : Action) (answer : Answer) → view_of_fields a ≡ v → i < length a.seats.items → was ≡ get_or a.seats.items i was → b.seats.items ≡ slice_set a.seats.items i now → Acts a.books b.books was now action answer → All (IsKnown a.books.commit a.books.rows.items) a.seats.items → view_of_fields b ≡ next_if v i (slice_get v.seats i) action answer
next_after a b v i was now action answer view within is seats acts known =
    let old_rows = a.books.rows.items in
    let shown : map (seat_shown b.books.rows.items) b.seats.items ≡ slice_set (map (seat_shown old_rows) a.seats.items) i (next_phase (totals_of a.books) (seat_shown old_rows was) action answer) =
    ap (map (seat_shown b.books.rows.items)) seats
    ∙ map-set (seat_shown b.books.rows.items) a.seats.items i now
    ∙ ap (λ ss. slice_set ss i (seat_shown b.books.rows.items now)) (all_same_shown a.books.commit old_rows b.books.rows.items a.seats.items acts.rows (recursion_from_All (IsKnown a.books.commit old_rows) a.seats.items known))
    ∙ ap (slice_set (map (seat_shown old_rows) a.seats.items) i) acts.seat in
    let made : view_of_fields b ≡ next_at (view_of_fields a) i (seat_shown old_rows was) action answer = λ j. record { totals = acts.totals j; seats = shown j } in
    made ∙ sym (ap (λ o. next_if (view_of_fields a) i o action answer) (seat_there a i was within is)) ∙ ap (λ (u : View). next_if u i (slice_get u.seats i) action answer) view

abbrev idle_view : ℕ → SeatView
idle_view s = phase.Idle

idle_shown : (a n : ℕ) → map (seat_shown []) (replicate n Idle) ≡ map idle_view (range_with_len a n)
idle_shown a zero = refl
idle_shown a (suc n) = ap (λ ss. phase.Idle ∷ ss) (idle_shown (a + 1) n)

-- a store without rows, whose seats are idle
pub fresh_view : (a : Inside) (seats : ℕ) → a.books.rows.items ≡ [] → a.seats.items ≡ replicate seats Idle → a.books.default_write ≡ a.books.commit → a.books.last_removal ≡ a.books.commit → view_of_fields a ≡ view_of (record { seats = seats; setting = record { base = string_bytes a.books.base; limits = a.books.limits }; request = a.books.request; commit = a.books.commit }) []
fresh_view a seats rows idle unnamed removed =
    let dataset : dataset_of a.books.rows.items ≡ empty_dataset = ap dataset_of rows in
    let named : names_written a.books.rows.items ≡ names_written [] = ap names_written rows in
    let shown : map (seat_shown a.books.rows.items) a.seats.items ≡ map idle_view (range_with_len 0 seats) = rw (rows, idle) (idle_shown 0 seats) in
    λ i. record { totals = record { setting = record { base = string_bytes a.books.base; limits = a.books.limits }; dataset = dataset i; request = sym (add-zero a.books.request) i; commit = a.books.commit; last_writes = record { unnamed = unnamed i; named = named i; removed = removed i } }; seats = shown i }

none_writing : (n : ℕ) → count_by will_commit (replicate n Idle) ≡ 0
none_writing n = let e : count_by will_commit (replicate n Idle) ≡ n * 0 = sum_by-replicate (λ (s : Seat). cond (will_commit s) 1 0) n Idle in omega (arith, e)

none_staged : (n : ℕ) → sum_by staged_by (replicate n Idle) ≡ 0
none_staged n = let e : sum_by staged_by (replicate n Idle) ≡ n * 0 = sum_by-replicate staged_by n Idle in omega (arith, e)

idle_known : (commit : ℕ) (rows : List Row) (n : ℕ) → AllByRecursion (IsKnown commit rows) (replicate n Idle)
idle_known commit rows zero = tt
idle_known commit rows (suc n) = (tt, idle_known commit rows n)

-- what holds of a store without rows, whose seats are idle
pub fresh_kept : (a : Inside) (seats : ℕ) → a.books.rows.items ≡ [] → vec_len a.books.rows ≡ 0 → a.seats.items ≡ replicate seats Idle → a.books.triples ≡ 0 → a.books.names ≡ 0 → a.books.staged ≡ 0 → is_base (string_bytes a.books.base) ≡ true → IsKept a
fresh_kept a seats rows len idle triples names staged base = record {
  known = rw idle (All-from_recursion (IsKnown a.books.commit a.books.rows.items) (replicate seats Idle) (idle_known a.books.commit a.books.rows.items seats));
  room = rw idle (omega (arith, len, none_writing seats));
  counted = record {
    triples = triples ∙ sym triples_in-empty ∙ sym (ap (λ rs. triples_in (dataset_of rs)) rows);
    names = names ∙ sym names_in-empty ∙ sym (ap (λ rs. names_in (dataset_of rs)) rows);
    few = omega arith;
    dated = rw rows tt;
    base = base;
  };
  staged = staged ∙ sym (none_staged seats) ∙ sym (ap (sum_by staged_by) idle);
}

-- what the seat has open: the triples of its upload, and a record of an upload or a patch
held_shown : (rows : List Row) (s : Seat) → held_at (seat_shown rows s) ≡ staged_by s + cond (will_commit s) 1 0
held_shown rows Idle = refl
held_shown rows (Writing k r g since) = refl
held_shown rows (Patching t r since) = refl
held_shown rows (Reading row given pin) = refl
held_shown rows (ReadingAll given pin) = refl

all_held_shown : (rows : List Row) (seats : List Seat) → held_in (map (seat_shown rows) seats) ≡ sum_by staged_by seats + count_by will_commit seats
all_held_shown rows [] = refl
all_held_shown rows (s ∷ seats) =
    let counted : count_by will_commit (s ∷ seats) ≡ cond (will_commit s) 1 0 + count_by will_commit seats = sum_by-cons (λ x. cond (will_commit x) 1 0) s seats in
    omega (arith, sum_by-cons (λ (p : SeatView). held_at p) (seat_shown rows s) (map (seat_shown rows) seats), sum_by-cons staged_by s seats, counted, held_shown rows s, all_held_shown rows seats)

-- the counts are the nodes and records in use
pub nodes_kept : (a : Inside) (s : Shown) (records opened : ℕ) → shown_of a ≡ s → IsKept a → records ≡ records_in (dataset_of a.books.rows.items) → opened ≡ count_by will_commit a.seats.items
    → a.books.triples + a.books.staged + records + opened ≡ nodes_in s
nodes_kept a s records opened view kept graphs seats =
    let own : a.books.triples + a.books.staged + records + opened ≡ nodes_in (shown_of a) = omega (arith, kept.counted.triples, kept.staged, graphs, seats, all_held_shown a.books.rows.items a.seats.items) in
    own ∙ ap nodes_in view
