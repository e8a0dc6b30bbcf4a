-- What leads to a world leads on, by one step, to the next one.
use Rattle.std.proofs.Common.{◌≡◌, ℕ, zero, suc, nat_eq, Bool, true, false, cond, List, [], ◌∷◌, ◌++◌, length, Option, Some, None, MatchOption, refl, sym, ap, subst, ◌∙◌, append-nil}
use Rattle.std.specs.List.{slice_get, slice_set}
use Rattle.std.proofs.lemmas.Bool.{eqb-true, eqb-false, eq-eqb}
use Rattle.gs_event.specs.declared.events.Event.{Event}
use Rattle.gs_event.specs.declared.events.Event.TheVariants as event
use Rattle.gs_event.specs.declared.answers.Answer.{Answer}
use Rattle.gs_event.specs.Views.{View, Fits, next_view}
use Rattle.gs_event.specs.Waste.{Shown}
use Rattle.gs_event.specs.Steps.{Steps}
use Rattle.gs_event.specs.Histories.{History, Start, IsLegal, view_of, pinned_of}
use Rattle.gs_event.proofs.HistoryLemmas.{view_of-cons}
use Rattle.gs_event.proofs.PinLemmas.{pinned_of-cons}
use Rattle.gs_talk.specs.Seats.{Deeds}
use Rattle.gs_talk.specs.Logs.{Server}
use Rattle.gs_world.specs.declared.connections.Connection.{Connection}
use Rattle.gs_world.specs.declared.steps.WorldStep.{WorldStep}
use Rattle.gs_world.specs.declared.steps.WorldStep.TheVariants.{Bytes, Turn, End, Drop, Reclaim}
use Rattle.gs_world.specs.declared.worlds.World.{World}
use Rattle.gs_world.specs.Happenings.{Past, Input, is_step_of, input_with, with_step, input_of, deeds_at, MayRest, IsMadeBy, SparesDropped}
use Rattle.gs_world.specs.Walks.{Apart, Gets, InputEnds, MovesOn, LeavesSeat, ChangesOne, FreesNodes, Walks}
use Rattle.gs_world.specs.Worlds.{HoldsTo, LeadsToWorld, world_start}
use Rattle.gs_world.proofs.SeatLemmas.{other_place}
use Rattle.gs_world.proofs.MoveLemmas.{DoesFew, events_of, Moved, gets_moved, ends_moved}
use Rattle.gs_world.proofs.TurnLemmas.{turns_moved}
use Rattle.gs_world.proofs.LeaveLemmas.{leaves_moved}
use Rattle.gs_world.proofs.MadeLemmas.{made_more}

-- places of a list

pub set_here : {X : Type 0} (xs : List X) (i : ℕ) (x y : X) → slice_get xs i ≡ Some x → slice_get (slice_set xs i y) i ≡ Some y
set_here [] i x y e = cc
set_here (z ∷ zs) zero x y e = refl
set_here (z ∷ zs) (suc i) x y e = set_here zs i x y e

pub set_length : {X : Type 0} (xs : List X) (i : ℕ) (y : X) → length (slice_set xs i y) ≡ length xs
set_length [] i y = refl
set_length (z ∷ zs) zero y = refl
set_length (z ∷ zs) (suc i) y = ap suc (set_length zs i y)

-- what is done at a seat is done there alone

few_here : (c : ℕ) (old new : Shown) (done : Deeds) (history : History) → DoesFew c old done new → deeds_at c (events_of c done ++ history) ≡ deeds_at c history ++ done
few_here c old new [] history k = sym (append-nil (deeds_at c history))
few_here c old new (d ∷ []) history k = ap (λ (b : Bool). deeds_at c history ++ cond b (d ∷ []) []) (eq-eqb c c refl)
few_here c old new (d ∷ f ∷ ds) history k = absurd k

few_there : (c s : ℕ) (old new : Shown) (done : Deeds) (history : History) → nat_eq c s ≡ false → DoesFew c old done new
    → deeds_at s (events_of c done ++ history) ≡ deeds_at s history
few_there c s old new [] history e k = refl
few_there c s old new (d ∷ []) history e k = ap (λ (b : Bool). deeds_at s history ++ cond b (d ∷ []) []) e ∙ append-nil (deeds_at s history)
few_there c s old new (d ∷ f ∷ ds) history e k = absurd k

-- the history goes on

-- a legal history, and the store that it leads to
record LegalAt (start : Start) (h : History) (shown : Shown) : Type 0 where
  pub legal : IsLegal start h
  pub view : shown.view ≡ view_of start h
  pub pinned : shown.pinned ≡ pinned_of start h

step_legal : (start : Start) (h : History) (old new : Shown) (e : Event) (a : Answer) → LegalAt start h old → Steps old e a new → LegalAt start ((e, a) ∷ h) new
step_legal start h old new e a k s = go (subst (λ (v : View). Fits v e a) k.view s.fits) where
  go : Fits (view_of start h) e a → LegalAt start ((e, a) ∷ h) new
  go fits = record {
    legal = (k.legal, fits);
    view = s.view ∙ ap (λ (v : View). next_view v e a) k.view ∙ sym (view_of-cons start h e a fits);
    pinned = s.pinned ∙ sym (pinned_of-cons start h old e a k.view k.pinned s.fits);
  }

few_legal : (start : Start) (h : History) (c : ℕ) (old new : Shown) (done : Deeds) → LegalAt start h old → DoesFew c old done new → LegalAt start (events_of c done ++ h) new
few_legal start h c old new [] k s = subst (λ (v : Shown). LegalAt start h v) (sym s) k
few_legal start h c old new (d ∷ []) k s = step_legal start h old new (event.Seat c d.0) d.1 k s
few_legal start h c old new (d ∷ f ∷ ds) k s = absurd s

-- the world goes on

-- what a step makes leads on to the world after it
abbrev pub GoesOn : Server → ℕ → World → WorldStep → Past → History → Type 0
GoesOn p count w step past history = (more : History) × IsMadeBy step more × SparesDropped past more × LeadsToWorld p count w (step ∷ past) (more ++ history)

-- a step that may make no event
rests : (step : WorldStep) → MayRest step → IsMadeBy step []
rests step m = m

-- the step names this connection
abbrev IsOne : ℕ → WorldStep → Type 0
IsOne c step = (d : ℕ) → is_step_of d step ≡ nat_eq c d

-- to another nothing came
other_input : (c d : ℕ) (step : WorldStep) (i : Input) → IsOne c step → nat_eq c d ≡ false → with_step d i step ≡ i
other_input c d step i one e = ap (λ (b : Bool). cond b (input_with i step) i) (one d ∙ e)

own_input : (c : ℕ) (step : WorldStep) (i : Input) → IsOne c step → with_step c i step ≡ input_with i step
own_input c step i one = ap (λ (b : Bool). cond b (input_with i step) i) (one c ∙ eq-eqb c c refl)

module _ (p : Server) (count : ℕ) (w w2 : World) (past : Past) (history : History) (c : ℕ) (step : WorldStep) (one : IsOne c step) (st : LeadsToWorld p count w past history) where
  moved_each : (k k2 : Connection) → slice_get w.connections.items c ≡ Some k → w2.connections.items ≡ slice_set w.connections.items c k2
      → (done : Deeds) → DoesFew c w.store done w2.store → HoldsTo p c (input_with (input_of c past) step) (deeds_at c history ++ done) k2
      → (d : ℕ) (k3 : Connection) → slice_get w2.connections.items d ≡ Some k3 → HoldsTo p d (input_of d (step ∷ past)) (deeds_at d (events_of c done ++ history)) k3
  moved_each k k2 here set done few holds d k3 e = go (nat_eq c d) refl where
    own : HoldsTo p c (input_of c (step ∷ past)) (deeds_at c (events_of c done ++ history)) k2
    own =
        subst (λ (h : Deeds). HoldsTo p c (input_of c (step ∷ past)) h k2) (sym (few_here c w.store w2.store done history few))
        (subst (λ (i : Input). HoldsTo p c i (deeds_at c history ++ done) k2) (sym (own_input c step (input_of c past) one)) holds)

    same : (d : ℕ) → c ≡ d → slice_get w2.connections.items d ≡ Some k3 → Some k2 ≡ Some k3
    same d r e = sym (set_here w.connections.items c k k2 here) ∙ sym (ap (λ (ks : List Connection). slice_get ks c) set) ∙ ap (λ (n : ℕ). slice_get w2.connections.items n) r ∙ e

    put : (d : ℕ) → c ≡ d → k2 ≡ k3 → HoldsTo p d (input_of d (step ∷ past)) (deeds_at d (events_of c done ++ history)) k3
    put d r q =
        subst (λ (n : ℕ). HoldsTo p n (input_of n (step ∷ past)) (deeds_at n (events_of c done ++ history)) k3) r
        (subst (λ (z : Connection). HoldsTo p c (input_of c (step ∷ past)) (deeds_at c (events_of c done ++ history)) z) q own)

    go : (b : Bool) → nat_eq c d ≡ b → HoldsTo p d (input_of d (step ∷ past)) (deeds_at d (events_of c done ++ history)) k3
    go true r = put d (eqb-true c d r) (cc (same d (eqb-true c d r) e))
    go false r =
        subst (λ (h : Deeds). HoldsTo p d (input_of d (step ∷ past)) h k3) (sym (few_there c d w.store w2.store done history r few))
        (subst (λ (i : Input). HoldsTo p d i (deeds_at d history) k3) (sym (other_input c d step (input_of d past) one r))
        (st.each d k3 (sym (ap (λ (ks : List Connection). slice_get ks d) set ∙ other_place w.connections.items c d k2 (eqb-false c d r)) ∙ e)))

  -- nothing is done at the seat of a connection that was dropped
  moved_spares : (done : Deeds) → DoesFew c w.store done w2.store → ((input_of c past).is_dropped ≡ true → done ≡ []) → SparesDropped past (events_of c done)
  moved_spares done few spares d dropped = go (nat_eq c d) refl where
    go : (b : Bool) → nat_eq c d ≡ b → deeds_at d (events_of c done) ≡ []
    go true r = ap (λ (ds : Deeds). deeds_at d (events_of c ds)) (spares (subst (λ (n : ℕ). (input_of n past).is_dropped ≡ true) (sym (eqb-true c d r)) dropped))
    go false r = ap (λ (h : History). deeds_at d h) (sym (append-nil (events_of c done))) ∙ few_there c d w.store w2.store done [] r few

  pub moved_leads : (k k2 : Connection) → slice_get w.connections.items c ≡ Some k → w2.connections.items ≡ slice_set w.connections.items c k2
      → (done : Deeds) → DoesFew c w.store done w2.store → IsMadeBy step (events_of c done) → ((input_of c past).is_dropped ≡ true → done ≡ [])
      → HoldsTo p c (input_with (input_of c past) step) (deeds_at c history ++ done) k2 → LeadsToWorld p count w2 (step ∷ past) (events_of c done ++ history)
  moved_leads k k2 here set done few made spares holds = go (few_legal (world_start p count) history c w.store w2.store done (record { legal = st.legal; view = st.view; pinned = st.pinned }) few) where
    go : LegalAt (world_start p count) (events_of c done ++ history) w2.store → LeadsToWorld p count w2 (step ∷ past) (events_of c done ++ history)
    go k4 = record {
      lines = st.lines;
      many = ap (λ (ks : List Connection). length ks) set ∙ set_length w.connections.items c k2 ∙ st.many;
      made = made_more past history step (events_of c done) made (moved_spares done few spares) st.made;
      legal = k4.legal;
      view = k4.view;
      pinned = k4.pinned;
      each = moved_each k k2 here set done few holds;
    }

  moved_stands : (k k2 : Connection) → slice_get w.connections.items c ≡ Some k → w2.connections.items ≡ slice_set w.connections.items c k2
      → Moved p c step (input_of c past) (deeds_at c history) w.store k2 w2.store → GoesOn p count w2 step past history
  moved_stands k k2 here set m = (
    events_of c m.done,
    m.made,
    moved_spares m.done m.few m.spares,
    moved_leads k k2 here set m.done m.few m.made m.spares m.holds,
  )

  -- a step for a connection that is not there
  absent_stands : MayRest step → slice_get w.connections.items c ≡ None → w2 ≡ w → GoesOn p count w2 step past history
  absent_stands may none same = ([], rests step may, λ d e. refl, subst (λ (v : World). LeadsToWorld p count v (step ∷ past) history) (sym same) stays) where
    each : (d : ℕ) (k : Connection) → slice_get w.connections.items d ≡ Some k → HoldsTo p d (input_of d (step ∷ past)) (deeds_at d history) k
    each d k e = go (nat_eq c d) refl where
      clash : c ≡ d → ⊥
      clash r = cc (sym none ∙ ap (λ (n : ℕ). slice_get w.connections.items n) r ∙ e)

      go : (b : Bool) → nat_eq c d ≡ b → HoldsTo p d (input_of d (step ∷ past)) (deeds_at d history) k
      go true r = absurd (clash (eqb-true c d r))
      go false r = subst (λ (i : Input). HoldsTo p d i (deeds_at d history) k) (sym (other_input c d step (input_of d past) one r)) (st.each d k e)

    stays : LeadsToWorld p count w (step ∷ past) history
    stays = record {
      lines = st.lines;
      many = st.many;
      made = made_more past history step [] (rests step may) (λ d e. refl) st.made;
      legal = st.legal;
      view = st.view;
      pinned = st.pinned;
      each = each;
    }

  changes_stands : (Holds : Connection → Shown → Connection → Shown → Type 0) → MayRest step → ChangesOne c w w2 Holds
      → ((k k2 : Connection) → HoldsTo p c (input_of c past) (deeds_at c history) k → Holds k w.store k2 w2.store
      → Moved p c step (input_of c past) (deeds_at c history) w.store k2 w2.store) → GoesOn p count w2 step past history
  changes_stands Holds may walk moves = go (slice_get w.connections.items c) refl walk where
    go : (o : Option Connection) → slice_get w.connections.items c ≡ o
        → MatchOption o (w2 ≡ w) (λ k. (k2 : Connection) × (w2.connections.items ≡ slice_set w.connections.items c k2) × Holds k w.store k2 w2.store)
        → GoesOn p count w2 step past history
    go None e same = absent_stands may e same
    go (Some k) e n = moved_stands k n.0 e n.1 (moves k n.0 (st.each c k e) n.2)

-- freed nodes and records
frees_stands : (p : Server) (count : ℕ) (w w2 : World) (past : Past) (history : History) (n : ℕ) → LeadsToWorld p count w past history → FreesNodes n w w2
    → GoesOn p count w2 (Reclaim n) past history
frees_stands p count w w2 past history n st f = ((event.Reclaim n, f.0) ∷ [], refl, λ d e. refl, go (step_legal (world_start p count) history w.store w2.store (event.Reclaim n) f.0 (record { legal = st.legal; view = st.view; pinned = st.pinned }) f.1)) where
  each : (d : ℕ) (k : Connection) → slice_get w2.connections.items d ≡ Some k → HoldsTo p d (input_of d past) (deeds_at d history ++ []) k
  each d k e =
      subst (λ (h : Deeds). HoldsTo p d (input_of d past) h k) (sym (append-nil (deeds_at d history)))
      (st.each d k (sym (ap (λ (ks : List Connection). slice_get ks d) f.2) ∙ e))

  go : LegalAt (world_start p count) ((event.Reclaim n, f.0) ∷ history) w2.store → LeadsToWorld p count w2 (Reclaim n ∷ past) ((event.Reclaim n, f.0) ∷ history)
  go k = record {
    lines = st.lines;
    many = ap (λ (ks : List Connection). length ks) f.2 ∙ st.many;
    made = made_more past history (Reclaim n) ((event.Reclaim n, f.0) ∷ []) refl (λ d e. refl) st.made;
    legal = k.legal;
    view = k.view;
    pinned = k.pinned;
    each = each;
  }

-- any step
pub walk_stands : (p : Server) (count : ℕ) (w w2 : World) (past : Past) (history : History) (step : WorldStep) → LeadsToWorld p count w past history → Walks w step w2
    → GoesOn p count w2 step past history
walk_stands p count w w2 past history (Bytes c b) st walk =
    changes_stands p count w w2 past history c (Bytes c b) (λ d. refl) st (Apart (Gets b.items)) tt walk
    (λ k k2 j n. gets_moved p c b (input_of c past) (deeds_at c history) k k2 w.store w2.store j n.0 n.1)
walk_stands p count w w2 past history (Turn c) st walk =
    changes_stands p count w w2 past history c (Turn c) (λ d. refl) st MovesOn tt walk
    (λ k k2 j n. turns_moved p c (input_of c past) (deeds_at c history) k k2 w.store w2.store j n)
walk_stands p count w w2 past history (End c) st walk =
    changes_stands p count w w2 past history c (End c) (λ d. refl) st (Apart InputEnds) tt walk
    (λ k k2 j n. ends_moved p c (input_of c past) (deeds_at c history) k k2 w.store w2.store j n.0 n.1)
walk_stands p count w w2 past history (Drop c) st walk =
    changes_stands p count w w2 past history c (Drop c) (λ d. refl) st LeavesSeat tt walk
    (λ k k2 j n. leaves_moved p c (input_of c past) (deeds_at c history) k k2 w.store w2.store j n)
walk_stands p count w w2 past history (Reclaim n) st walk = frees_stands p count w w2 past history n st walk
