-- What a seat's action makes of a store is one step.
use Rattle.std.proofs.Common.{◌≡◌, ◌≢◌, ℕ, ◌+◌, ◌<◌, ◌≤◌, map, length, get_or, set, Some, None, option_map, refl, sym, ap, ◌∙◌, subst}
use Rattle.std.specs.List.{slice_get, slice_set}
use Rattle.std.proofs.lemmas.List.{set-get_or, get_or_default, get_or-set_same, get_or-set_other}
use Rattle.std.proofs.lemmas.Option.{slice_get-map, slice_get-get_or, slice_get_past}
use Rattle.gs_model.specs.declared.refusals.Refusal.TheVariants.{BadSeat}
use Rattle.gs_event.specs.declared.events.Action.{Action}
use Rattle.gs_event.specs.declared.events.Event.TheVariants.{Seat as At, Reclaim}
use Rattle.gs_event.specs.declared.answers.Answer.{Answer}
use Rattle.gs_event.specs.declared.answers.Answer.TheVariants.{Reclaimed, Refused}
use Rattle.gs_event.specs.Views.{next_at, next_if}
use Rattle.gs_event.specs.Waste.{Shown, nodes_in}
use Rattle.gs_event.specs.Births.{staged_births}
use Rattle.gs_event.specs.Born.{AreSameBirths, Bears}
use Rattle.gs_event.specs.Wasting.{bearing_of, WastesBoth, WastesIf}
use Rattle.gs_event.specs.Steps.{Steps}
use Rattle.gs_event.proofs.PinLemmas.{refused_pin}
use Rattle.gs_event.proofs.NodeLemmas.{gives_back}
use Rattle.gs_pool.specs.Pool.{in_use}
use Rattle.gs_tree.specs.Tree.{leaf}
use Rattle.gs_ledger.specs.Entries.{tree_births}
use Rattle.gs_ledger.specs.Marks.{waste_at}
use Rattle.gs_records.specs.Waste.{waste_in, used_count}
use Rattle.gs_records.specs.Uses.{AreUsed}
use Rattle.gs_records.specs.Order.{AreListed}
use Rattle.gs_tree_store.specs.declared.books.Seat.{Seat}
use Rattle.gs_tree_store.specs.declared.books.Seat.TheVariants.{Idle}
use Rattle.gs_tree_store.specs.declared.stores.TreeStore.TheInside.{Inside}
use Rattle.gs_tree_store.specs.Books.{totals_of, seat_view_by, upload_tree}
use Rattle.gs_tree_store.specs.Births.{upload_births}
use Rattle.gs_tree_store.specs.Opened.{KeepsRecords}
use Rattle.gs_tree_store.specs.Uses.{SeatUses}
use Rattle.gs_tree_store.specs.Actions.{bearing_by, Acts}
use Rattle.gs_tree_store.specs.Uses.{UsesAt, UsesNodes}
use Rattle.gs_tree_store.specs.Kept.{shown_of, IsKept}
use Rattle.gs_tree_store.proofs.JoinLemmas.{both_waste, both_take}
use Rattle.gs_tree_store.proofs.CountLemmas.{nodes_kept}
use Rattle.gs_tree_store.proofs.BornLemmas.{equal_births}
use Rattle.gs_tree_store.proofs.BirthLemmas.{map_or, births_at-is, staged_births-is, few_births}
use Rattle.gs_tree_store.proofs.KeptLemmas.{uploads_of, goes_on, others_shown, uploads_after, kept_after}

module _ (a b : Inside) (s : ℕ) (was now : Seat) (action : Action) (answer : Answer) (kept : IsKept a) (within : s < length a.seats.items) (is : was ≡ get_or a.seats.items s was) (seats : b.seats.items ≡ set a.seats.items s now) (acts : Acts a.books b.books s was now action answer) (keeps : KeepsRecords a.books b.books was now action answer)
    (al : AreListed a.books.records.records a.books.records.listed) (al_new : AreListed b.books.records.records b.books.records.listed) where
  seat_there : slice_get (shown_of a).view.seats s ≡ Some (seat_view_by a.books was)
  seat_there = slice_get-map (seat_view_by a.books) a.seats.items s ∙ ap (option_map (seat_view_by a.books)) (slice_get-get_or a.seats.items s was within ∙ ap Some (sym is))

  next_shown : (shown_of b).view ≡ next_if (shown_of a).view s (slice_get (shown_of a).view.seats s) action answer
  next_shown =
      let seen : map (seat_view_by b.books) b.seats.items ≡ slice_set (map (seat_view_by a.books) a.seats.items) s _ = others_shown a b s was now action answer kept within is seats acts keeps al al_new ∙ ap (slice_set (map (seat_view_by a.books) a.seats.items) s) acts.seat in
      let made : (shown_of b).view ≡ next_at (shown_of a).view s (seat_view_by a.books was) action answer = λ j. record { totals = acts.totals j; seats = seen j } in
      made ∙ sym (ap (λ o. next_if (shown_of a).view s o action answer) seat_there)

  -- the births of graphs and of the seat's upload are those of the trees,
  bearing_is : bearing_by a.books b.books was now ≡ bearing_of s (shown_of a).births (shown_of b).births (waste_at a.books.pool) (waste_at b.books.pool)
  bearing_is =
      let before : upload_births a.books was ≡ staged_births (shown_of a).births s = ap (upload_births a.books) (is ∙ get_or_default a.seats.items s was Idle within) ∙ sym (staged_births-is a s) in
      let after : upload_births b.books now ≡ staged_births (shown_of b).births s =
      ap (upload_births b.books) (sym (ap (λ xs. get_or xs s Idle) seats ∙ get_or-set_same a.seats.items s now Idle within)) ∙ sym (staged_births-is b s) in
      λ i. record {
        graphs = λ t. sym (births_at-is a t) i;
        graphs_then = λ t. sym (births_at-is b t) i;
        own = before i;
        own_then = after i;
        waste = waste_at a.books.pool;
        waste_then = waste_at b.books.pool;
      }

  -- those of the other uploads are the same,
  other_births : (k : ℕ) → k ≢ s → AreSameBirths (staged_births (shown_of a).births k) (staged_births (shown_of b).births k)
  other_births k other =
      let after = uploads_after a b s was now action answer kept within is seats acts keeps al al_new in
      let tree : (c : Inside) → tree_births (get_or (uploads_of c) k leaf) ≡ staged_births (shown_of c).births k = λ c. ap tree_births (map_or (upload_tree c.books.pool) c.seats.items k Idle) ∙ sym (staged_births-is c k) in
      equal_births (staged_births (shown_of a).births k) (staged_births (shown_of b).births k)
      (sym (tree b) ∙ ap tree_births (ap (λ us. get_or us k leaf) (sym after) ∙ get_or-set_other (uploads_of a) s k (upload_tree b.books.pool now) leaf other) ∙ tree a)

  -- and so the waste of nodes, and that of records
  both_wasted : WastesBoth (totals_of a.books) s (seat_view_by a.books was) action answer (shown_of a).births (shown_of b).births (shown_of a).waste (shown_of b).waste
  both_wasted = both_waste (totals_of a.books) s (seat_view_by a.books was) action answer (shown_of a).births (shown_of b).births (waste_at a.books.pool) (waste_at b.books.pool) (waste_in a.books.records.records) (waste_in b.books.records.records)
      (goes_on a b s was now action answer kept within is seats acts keeps al al_new).waste (subst (Bears (totals_of a.books) (seat_view_by a.books was) action answer) bearing_is acts.born) other_births keeps.waste

  own_step : Steps (shown_of a) (At s action) answer (shown_of b)
  own_step = record {
    fits = rw seat_there acts.fits;
    view = next_shown;
    pinned = acts.pins;
    waste = subst (λ o. WastesIf (totals_of a.books) s o action answer (shown_of a) (shown_of b)) (sym seat_there) both_wasted;
    few = λ h. few_births b (kept_after a b s was now action answer kept within is seats acts keeps al al_new);
  }

  -- an action of a seat that there is
  pub steps_after : (old : Shown) → shown_of a ≡ old → Steps old (At s action) answer (shown_of b)
  steps_after old view = subst (λ (x : Shown). Steps x (At s action) answer (shown_of b)) view own_step

  own_uses : IsKept b → AreUsed a.books.records.records → AreUsed b.books.records.records → UsesNodes (shown_of a) (At s action) answer (shown_of b)
  own_uses after used_before used_after =
      let p = seat_view_by a.books was in
      let rs = a.books.records.records in
      let qs = b.books.records.records in
      let taken : SeatUses p action answer (in_use a.books.pool + used_count rs) (in_use b.books.pool + used_count qs) = both_take p action answer (in_use a.books.pool) (in_use b.books.pool) (used_count rs) (used_count qs) acts.takes keeps.takes in
      let before : SeatUses p action answer (nodes_in (shown_of a)) (in_use b.books.pool + used_count qs) = subst (λ n. SeatUses p action answer n (in_use b.books.pool + used_count qs)) (nodes_kept a kept used_before) taken in
      let both : SeatUses p action answer (nodes_in (shown_of a)) (nodes_in (shown_of b)) = subst (λ n. SeatUses p action answer (nodes_in (shown_of a)) n) (nodes_kept b after used_after) before in
      subst (λ o. UsesAt o (At s action) answer (shown_of a) (shown_of b)) (sym seat_there) both

  -- takes so many nodes and records into use
  pub uses_after : (old : Shown) → shown_of a ≡ old → IsKept b → AreUsed a.books.records.records → AreUsed b.books.records.records → UsesNodes old (At s action) answer (shown_of b)
  uses_after old view after used_before used_after = subst (λ (x : Shown). UsesNodes x (At s action) answer (shown_of b)) view (own_uses after used_before used_after)

module _ (a : Inside) (s : ℕ) (action : Action) (past : length a.seats.items ≤ s) where
  none_there : slice_get (shown_of a).view.seats s ≡ None
  none_there = slice_get-map (seat_view_by a.books) a.seats.items s ∙ ap (option_map (seat_view_by a.books)) (slice_get_past a.seats.items s past)

  own_nowhere : Steps (shown_of a) (At s action) (Refused BadSeat) (shown_of a)
  own_nowhere =
      let pins = a.books.versions.seats in
      record {
        fits = rw none_there refl;
        view = sym (ap (λ o. next_if (shown_of a).view s o action (Refused BadSeat)) none_there);
        pinned = sym (set-get_or pins s None) ∙ sym (ap (slice_set pins s) (refused_pin a.books.versions.commit (get_or pins s None) action BadSeat));
        waste = subst (λ o. WastesIf (totals_of a.books) s o action (Refused BadSeat) (shown_of a) (shown_of a)) (sym none_there) (refl, record { graphs = λ u f. refl; staged = λ k f. refl });
        few = λ h. h;
      }

  -- an action of a seat that there is not
  pub steps_nowhere : (old : Shown) → shown_of a ≡ old → Steps old (At s action) (Refused BadSeat) old
  steps_nowhere old view = subst (λ (x : Shown). Steps x (At s action) (Refused BadSeat) x) view own_nowhere

-- a Reclaim gives back what it frees
pub reclaim_uses : (old : Shown) (n : ℕ) (answer : Answer) (new : Shown) → Steps old (Reclaim n) answer new → UsesNodes old (Reclaim n) answer new
reclaim_uses old n (Reclaimed freed left) new step = gives_back old n freed left new step
reclaim_uses old n answer new step = absurd step.waste
