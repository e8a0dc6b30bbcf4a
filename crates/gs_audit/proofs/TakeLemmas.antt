-- What an event that was answered makes of a store, of its slots and of its page.
use Rattle.std.proofs.Common.{◌≡◌, ℕ, ◌+◌, ◌≤◌, List, length, map, Option, Some, None, inl, inr, refl, sym, ap, subst, ◌∙◌, arith}
use Rattle.std.specs.Prelude.{MatchOption}
use Rattle.std.specs.List.{slice_get, slice_set, slice_index}
use Rattle.std.specs.Option.{option_map}
use Rattle.std.proofs.Math.Logic.{∥∥₁_map}
use Rattle.std.proofs.lemmas.List.{map-set, set-get_or, set_past, length-map}
use Rattle.std.proofs.lemmas.Option.{slice_get-map, slice_get_past, get_or_from_slice_get}
use Rattle.gs_model.specs.Graphs.{Graph}
use Rattle.gs_model.specs.declared.refusals.Refusal.{Refusal}
use Rattle.gs_model.specs.declared.refusals.Refusal.TheVariants.{NoMemory, BadSeat}
use Rattle.gs_event.specs.declared.events.UploadKind.{UploadKind}
use Rattle.gs_event.specs.declared.events.Action.{Action}
use Rattle.gs_event.specs.declared.events.Action.TheVariants.{Stage}
use Rattle.gs_event.specs.declared.events.Event.{Event}
use Rattle.gs_event.specs.declared.events.Event.TheVariants.{Seat as At, Reclaim}
use Rattle.gs_event.specs.declared.answers.Answer.{Answer}
use Rattle.gs_event.specs.declared.answers.Answer.TheVariants.{Refused}
use Rattle.gs_event.specs.Conditions.{Asked}
use Rattle.gs_event.specs.Phases.{Writing, operation_of}
use Rattle.gs_event.specs.Views.{View, Totals, SeatView, Fits, FitsSeat, next_phase, next_if, next_at, next_view, state_of, after_asked}
use Rattle.gs_event.specs.Waste.{Shown}
use Rattle.gs_event.specs.Wasting.{WastesIf}
use Rattle.gs_event.specs.Steps.{Steps}
use Rattle.gs_chronicle.specs.Pages.{PageView}
use Rattle.gs_chronicle.specs.Replays.{Replays}
use Rattle.gs_chronicle.proofs.ReplayLemmas.{page_after-replays}
use Rattle.gs_audit.specs.declared.slots.Slot.{Slot}
use Rattle.gs_audit.specs.Staged.{staged_since_open}
use Rattle.gs_audit.specs.Decisions.{status_in, triples_by, call_for, decided_at, decided_if, decided_by, page_by, ReplaysTo}
use Rattle.gs_audit.specs.Slots.{open_of, slot_phase, slot_count, open_after, count_after, MayLack}
use Rattle.gs_audit.specs.Takes.{StepsOrLacks, FollowSeats, TakesEvent, kept_phase, kept_count, kept_call}
use Rattle.gs_audit.proofs.PhaseLemmas.{StagedAt, StatusIs, next_kept, decided_kept, count_kept, status_is}
use Rattle.gs_audit.proofs.SlotLemmas.{staged_at, seat_there, seat_absent, agree_set}

-- an element written over itself
set_same : {X : Type 0} (xs : List X) (s : ℕ) (x : X) → slice_get xs s ≡ Some x → slice_set xs s x ≡ xs
set_same xs s x is = ap (slice_set xs s) (sym (get_or_from_slice_get xs s x x is)) ∙ set-get_or xs s x

-- where an event is refused, as many stay staged

refused_after : (p : SeatView) (n : ℕ) (action : Action) (x : Refusal) → count_after p n action (Refused x) ≡ n
refused_after (Writing k r g since) n (Stage ts) x = refl
refused_after (Writing k r g since) n action x = refl
refused_after p n action x = refl

pub refused_count : (p : SeatView) (n : ℕ) (e : Event) (x : Refusal) → kept_count p n e (Refused x) ≡ n
refused_count p n (Reclaim k) x = refl
refused_count p n (At s action) x = refused_after p n action x

-- at a seat that is there

fits_seat : (v : View) (s : ℕ) (q : SeatView) (action : Action) (a : Answer) → slice_get v.seats s ≡ Some q → Fits v (At s action) a → FitsSeat v.totals q action a
fits_seat v s q action a is = subst (λ (o : Option SeatView). MatchOption o (a ≡ Refused BadSeat) (λ p. FitsSeat v.totals p action a)) is

next_there : (v : View) (s : ℕ) (q : SeatView) (action : Action) (a : Answer) → slice_get v.seats s ≡ Some q → next_view v (At s action) a ≡ next_at v s q action a
next_there v s q action a is = ap (λ (o : Option SeatView). next_if v s o action a) is

-- want of memory for what an upload is given is a step of the store, and changes nothing
refused_view : (v : View) (s : ℕ) (k : UploadKind) (r : ℕ) (g : Graph) (since : Option ℕ) (action : Action) → MayLack (Writing k r g since) (At s action) → slice_get v.seats s ≡ Some (Writing k r g since)
    → v ≡ next_at v s (Writing k r g since) action (Refused NoMemory)
refused_view v s k r g since (Stage ts) may is =
    let request : v.totals.request ≡ v.totals.request + 0 = omega arith in
    let seats = sym (set_same v.seats s (Writing k r g since) is) in
    λ i. record { totals = record { setting = v.totals.setting; dataset = v.totals.dataset; request = request i; commit = v.totals.commit; last_writes = v.totals.last_writes }; seats = seats i }
refused_view v s k r g since action may is = absurd may

refused_steps : (old : Shown) (s : ℕ) (q : SeatView) (action : Action) → slice_get old.view.seats s ≡ Some q → MayLack (open_of q) (At s action) → Steps old (At s action) (Refused NoMemory) old
refused_steps old s (Writing k r g since) (Stage ts) is may = record {
  fits = subst (λ (o : Option SeatView). MatchOption o (Refused NoMemory ≡ Refused BadSeat) (λ p. FitsSeat old.view.totals p (Stage ts) (Refused NoMemory))) (sym is) tt;
  view = refused_view old.view s k r g since (Stage ts) tt is ∙ sym (next_there old.view s (Writing k r g since) (Stage ts) (Refused NoMemory) is);
  pinned = sym (set-get_or old.pinned s None);
  waste = subst (λ (o : Option SeatView). WastesIf old.view.totals s o (Stage ts) (Refused NoMemory) old old) (sym is) (record { between = old.waste; nodes = refl; born = (λ u f. refl, λ f. refl); others = λ k other f. refl; records = refl });
  few = λ h. h;
}
refused_steps old s q action is may = absurd may

steps_of : (old new : Shown) (s : ℕ) (q : SeatView) (action : Action) (a : Answer) → slice_get old.view.seats s ≡ Some q → StepsOrLacks old (open_of q) (At s action) a new → Steps old (At s action) a new
steps_of old new s q action a is (inl steps) = steps
steps_of old new s q action a is (inr lacks) =
    subst (λ (x : Answer × Shown). Steps old (At s action) x.0 x.1) (λ i. (sym lacks.1 i, sym lacks.2 i)) (refused_steps old s q action is lacks.0)

module _ (n k : ℕ) (old new : Shown) (slots : List Slot) (p p_then : PageView) (a : Answer) (agree : FollowSeats old slots) where
  -- the seat of the slot took it
  taken : (s : ℕ) (action : Action) (slot slot_then : Slot) → slice_get slots s ≡ Some slot → StepsOrLacks old (slot_phase slot) (At s action) a new
      → slot_phase slot_then ≡ open_after (slot_phase slot) action a → slot_count slot_then ≡ count_after (slot_phase slot) (slot_count slot) action a
      → p_then ≡ page_by n k p (decided_at s (slot_phase slot) (slot_count slot) action a) → TakesEvent n k old slots p (At s action) a new (slice_set slots s slot_then) p_then
  taken s action slot slot_then there took phase count page =
      let t = old.view.totals in
      let seat = seat_there old slots s agree slot there in
      let q = seat.0 in
      let is = seat.1 in
      let same = seat.2 in
      let steps = steps_of old new s q action a is (subst (λ (x : SeatView). StepsOrLacks old x (At s action) a new) (sym same) took) in
      let fits = fits_seat old.view s q action a is steps.fits in
      let next = steps.view ∙ next_there old.view s q action a is in
      let counted = subst (λ (x : SeatView). StagedAt x (slot_count slot)) (sym same) (staged_at slot) in
      let staged = get_or_from_slice_get (map slot_count slots) s (slot_count slot) 0 (slice_get-map slot_count slots s ∙ ap (option_map slot_count) there) in record {
        steps = steps;
        agree =
            ap (λ (v : View). map open_of v.seats) next
            ∙ agree_set old.view.seats slots s (next_phase t q action a) slot_then agree (next_kept t q action a fits ∙ ap (λ (x : SeatView). open_after x action a) same ∙ sym phase);
        staged =
            map-set slot_count slots s slot_then
            ∙ ap (slice_set (map slot_count slots) s)
            (count ∙ ap (λ (x : SeatView). count_after x (slot_count slot) action a) (sym same) ∙ sym (count_kept t q (slot_count slot) action a fits counted) ∙ ap (λ (m : ℕ). staged_since_open m action a) (sym staged));
        page =
            page
            ∙ ap (page_by n k p)
            (ap (λ (x : SeatView). decided_at s x (slot_count slot) action a) (sym same)
            ∙ sym (decided_kept t q s (slot_count slot) action a fits)
            ∙ (λ i. decided_if s (sym is i) (sym staged i) action a));
      }

  -- the same of an event that is the seat's
  pub taken_by : (e : Event) (s : ℕ) (action : Action) (slot slot_then : Slot) → e ≡ At s action → slice_get slots s ≡ Some slot → StepsOrLacks old (slot_phase slot) e a new
      → slot_phase slot_then ≡ kept_phase (slot_phase slot) e a → slot_count slot_then ≡ kept_count (slot_phase slot) (slot_count slot) e a
      → p_then ≡ page_by n k p (kept_call (slot_phase slot) (slot_count slot) e a) → TakesEvent n k old slots p e a new (slice_set slots s slot_then) p_then
  taken_by e s action slot slot_then is there =
      subst (λ (x : Event). StepsOrLacks old (slot_phase slot) x a new
      → slot_phase slot_then ≡ kept_phase (slot_phase slot) x a → slot_count slot_then ≡ kept_count (slot_phase slot) (slot_count slot) x a
      → p_then ≡ page_by n k p (kept_call (slot_phase slot) (slot_count slot) x a) → TakesEvent n k old slots p x a new (slice_set slots s slot_then) p_then)
      (sym is) (taken s action slot slot_then there)

  -- there is no such seat
  absent : (s : ℕ) (action : Action) → length slots ≤ s → Steps old (At s action) a new → p_then ≡ p → TakesEvent n k old slots p (At s action) a new slots p_then
  absent s action short steps page =
      let none = seat_absent old slots s agree (slice_get_past slots s short) in record {
        steps = steps;
        agree = ap (λ (v : View). map open_of v.seats) (steps.view ∙ ap (λ (o : Option SeatView). next_if old.view s o action a) none) ∙ agree;
        staged = sym (set_past (map slot_count slots) s _ (omega (arith, short, length-map slots slot_count)));
        page = page ∙ ap (page_by n k p) (ap (λ (o : Option SeatView). decided_if s o (slice_index (map slot_count slots) s) action a) (sym none));
      }

  -- the same of an event that is the seat's
  pub absent_by : (e : Event) (s : ℕ) (action : Action) → e ≡ At s action → length slots ≤ s → Steps old e a new → p_then ≡ p → TakesEvent n k old slots p e a new slots p_then
  absent_by e s action is short =
      subst (λ (x : Event). Steps old x a new → p_then ≡ p → TakesEvent n k old slots p x a new slots p_then) (sym is) (absent s action short)

-- the page replays to the store's state

call_replays : (n k : ℕ) (t : Totals) (p : PageView) (s count status : ℕ) (o : Option Asked) → StatusIs t o status → Replays t.setting 0 p (state_of t)
    → Replays t.setting 0 (page_by n k p (call_for s count status o)) (after_asked t.setting (state_of t) o)
call_replays n k t p s count status None is r = r
call_replays n k t p s count status (Some q) is r = page_after-replays t.setting 0 n k p (state_of t) _ r is

next_replays : (n k : ℕ) (v : View) (staged : List ℕ) (p : PageView) (e : Event) (a : Answer) → Fits v e a → ReplaysTo v p
    → ReplaysTo (next_view v e a) (page_by n k p (decided_by v staged e a))
next_replays n k v staged p (Reclaim m) a fits r = r
next_replays n k v staged p (At s action) a fits r = at (slice_get v.seats s) fits
  where
    at : (o : Option SeatView) → MatchOption o (a ≡ Refused BadSeat) (λ q. FitsSeat v.totals q action a)
        → ReplaysTo (next_if v s o action a) (page_by n k p (decided_if s o (slice_index staged s) action a))
    at None fit = r
    at (Some q) fit = call_replays n k v.totals p s (triples_by (slice_index staged s) action) (status_in a) (operation_of q action a) (status_is v.totals q action a fit) r

pub replays_then : (n k : ℕ) (old new : Shown) (slots slots_then : List Slot) (p p_then : PageView) (e : Event) (a : Answer) → TakesEvent n k old slots p e a new slots_then p_then
    → ∥ ReplaysTo old.view p ∥₁ → ∥ ReplaysTo new.view p_then ∥₁
replays_then n k old new slots slots_then p p_then e a keeps replays =
    ∥∥₁_map replays (λ r.
    subst (λ (x : View × PageView). ReplaysTo x.0 x.1) (λ i. (sym keeps.steps.view i, sym keeps.page i))
    (next_replays n k old.view (map slot_count slots) p e a keeps.steps.fits r))
