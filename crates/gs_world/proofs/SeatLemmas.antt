-- What a store shows of a seat follows what is done at it, whoever acts in between.
use Rattle.std.proofs.Common.{◌≡◌, ◌≢◌, ◌≤◌, ◌<◌, inl, inr, ◌⊎◌, arith, ℕ, ◌+◌, zero, suc, nat_eq, Bool, true, false, cond, List, [], ◌∷◌, ◌++◌, map, Option, Some, None, refl, sym, ap, subst, ◌∙◌}
use Rattle.std.specs.List.{slice_get, slice_set, range_with_len}
use Rattle.std.proofs.lemmas.Bool.{eqb-true, eqb-false}
use Rattle.gs_event.specs.declared.events.Event.{Event}
use Rattle.gs_event.specs.declared.events.Event.TheVariants.{Seat, Reclaim}
use Rattle.gs_event.specs.declared.events.Action.{Action}
use Rattle.gs_event.specs.declared.answers.Answer.{Answer}
use Rattle.gs_event.specs.Phases.{Idle}
use Rattle.gs_event.specs.Views.{SeatView, View, Fits, next_if, next_view}
use Rattle.gs_event.specs.Histories.{History, Start, IsLegal, view_of, seat_view}
use Rattle.gs_event.proofs.HistoryLemmas.{view_of-cons}
use Rattle.gs_stream.specs.Requests.{Request}
use Rattle.gs_talk.specs.Seats.{Deeds, SeatPhase, phase_then, phase_in}
use Rattle.gs_talk.specs.Logs.{Server, Talk}
use Rattle.gs_talk.specs.Laws.{HasMisfit, AreOfKind, IsIdle}
use Rattle.gs_talk.proofs.ProgressLemmas.{phase-append}
use Rattle.gs_session.proofs.AllowLemmas.{AreAllowed}
use Rattle.gs_session.proofs.TalkLemmas.{talk_allowed}
use Rattle.gs_session.proofs.StoreLemmas.{HasPhase, allowed_fits, phase_follows, idle_view}
use Rattle.gs_world.specs.Happenings.{deed_at, deeds_at}

-- lists of deeds

split_misfit : (d f : Deeds) → HasMisfit (d ++ f) → HasMisfit d ⊎ HasMisfit f
split_misfit [] f m = inr m
split_misfit (x ∷ d) f (inl m) = inl (inl m)
split_misfit (x ∷ d) f (inr m) = go (split_misfit d f m) where
  go : HasMisfit d ⊎ HasMisfit f → HasMisfit (x ∷ d) ⊎ HasMisfit f
  go (inl k) = inl (inr k)
  go (inr k) = inr k

none_fit : (d f : Deeds) → (HasMisfit d → ⊥) → (HasMisfit f → ⊥) → HasMisfit (d ++ f) → ⊥
none_fit d f k j m = go (split_misfit d f m) where
  go : HasMisfit d ⊎ HasMisfit f → ⊥
  go (inl n) = k n
  go (inr n) = j n

split_allowed : (p : SeatPhase) (d f : Deeds) → AreAllowed p (d ++ f) → AreAllowed p d × AreAllowed (phase_in p d) f
split_allowed p [] f o = (tt, o)
split_allowed p (x ∷ d) f o = go (split_allowed (phase_then p x) d f o.1) where
  go : AreAllowed (phase_then p x) d × AreAllowed (phase_in (phase_then p x) d) f → AreAllowed p (x ∷ d) × AreAllowed (phase_in (phase_then p x) d) f
  go k = ((o.0, k.0), k.1)

pub kinds-append : (seat : ℕ) (d f : Deeds) → AreOfKind seat d → AreOfKind seat f → AreOfKind seat (d ++ f)
kinds-append seat [] f k j = j
kinds-append seat (x ∷ d) f k j = (k.0, kinds-append seat d f k.1 j)

-- places of a list

pub other_place : {X : Type 0} (xs : List X) (i j : ℕ) (y : X) → i ≢ j → slice_get (slice_set xs i y) j ≡ slice_get xs j
other_place [] i j y e = refl
other_place (z ∷ zs) zero zero y e = absurd (e refl)
other_place (z ∷ zs) zero (suc j) y e = refl
other_place (z ∷ zs) (suc i) zero y e = refl
other_place (z ∷ zs) (suc i) (suc j) y e = other_place zs i j y (λ r. e (ap suc r))

place_of : {X : Type 0} (f : ℕ → X) (a n s : ℕ) → s < n → slice_get (map f (range_with_len a n)) s ≡ Some (f (a + s))
place_of f a zero s l = absurd (omega (arith, l))
place_of f a (suc n) zero l = ap (λ (k : ℕ). Some (f k)) (omega arith)
place_of f a (suc n) (suc s) l = place_of f (a + 1) n s (omega (arith, l)) ∙ ap (λ (k : ℕ). Some (f k)) (omega arith)

-- one event

other_next : (w : View) (s seat : ℕ) (o : Option SeatView) (action : Action) (answer : Answer) → nat_eq s seat ≡ false
    → slice_get (next_if w s o action answer).seats seat ≡ slice_get w.seats seat
other_next w s seat None action answer e = refl
other_next w s seat (Some p) action answer e = other_place w.seats s seat _ (eqb-false s seat e)

next_shows : (seat : ℕ) (p : SeatPhase) (w : View) (e : Event) (a : Answer) → HasPhase seat p w → HasPhase seat (phase_in p (deed_at seat e a)) (next_view w e a)
next_shows seat p w (Reclaim n) a k = k
next_shows seat p w (Seat s action) a k = go (nat_eq s seat) refl where
  go : (b : Bool) → nat_eq s seat ≡ b → HasPhase seat (phase_in p (cond b ((action, a) ∷ []) [])) (next_view w (Seat s action) a)
  go true e = subst (λ (t : ℕ). HasPhase seat (phase_then p (action, a)) (next_view w (Seat t action) a)) (sym (eqb-true s seat e)) (phase_follows seat p w action a k)
  go false e = (k.0, other_next w s seat (slice_get w.seats s) action a e ∙ k.1, k.2)

next_fits : (seat : ℕ) (p : SeatPhase) (w : View) (e : Event) (a : Answer) → HasPhase seat p w → Fits w e a → AreAllowed p (deed_at seat e a)
    → HasMisfit (deed_at seat e a) → ⊥
next_fits seat p w (Reclaim n) a k f o = λ m. m
next_fits seat p w (Seat s action) a k f o = go (nat_eq s seat) refl o where
  own : nat_eq s seat ≡ true → AreAllowed p ((action, a) ∷ []) → HasMisfit ((action, a) ∷ []) → ⊥
  own e j (inl m) = allowed_fits seat p w action a k (subst (λ (t : ℕ). Fits w (Seat t action) a) (eqb-true s seat e) f) j.0 m
  own e j (inr m) = m

  go : (b : Bool) → nat_eq s seat ≡ b → AreAllowed p (cond b ((action, a) ∷ []) []) → HasMisfit (cond b ((action, a) ∷ []) []) → ⊥
  go true e j m = own e j m
  go false e j m = m

next_kinds : (seat : ℕ) (w : View) (e : Event) (a : Answer) → Fits w e a → AreOfKind seat (deed_at seat e a)
next_kinds seat w (Reclaim n) a f = tt
next_kinds seat w (Seat s action) a f = go (nat_eq s seat) refl where
  go : (b : Bool) → nat_eq s seat ≡ b → AreOfKind seat (cond b ((action, a) ∷ []) [])
  go true e = ((w, subst (λ (t : ℕ). Fits w (Seat t action) a) (eqb-true s seat e) f), tt)
  go false e = tt

-- a history

-- what a seat is in a legal history by what was done at it
record SeatFits (start : Start) (seat : ℕ) (h : History) : Type 0 where
  pub fits : HasMisfit (deeds_at seat h) → ⊥
  pub shows : HasPhase seat (phase_in Idle (deeds_at seat h)) (view_of start h)

legal_fits : (start : Start) (seat : ℕ) (h : History) → seat < start.seats → IsLegal start h → AreAllowed Idle (deeds_at seat h) → SeatFits start seat h
legal_fits start seat [] few legal o = record { fits = λ m. m; shows = (Idle, place_of (λ s. seat_view start Idle) 0 start.seats seat few, refl) }
legal_fits start seat (x ∷ before) few legal o = go (split_allowed Idle (deeds_at seat before) (deed_at seat x.0 x.1) o) (λ j. legal_fits start seat before few legal.0 j)
  where
    next : AreAllowed (phase_in Idle (deeds_at seat before)) (deed_at seat x.0 x.1) → SeatFits start seat before → SeatFits start seat (x ∷ before)
    next j k = record {
      fits = none_fit (deeds_at seat before) (deed_at seat x.0 x.1) k.fits (next_fits seat _ (view_of start before) x.0 x.1 k.shows legal.1 j);
      shows =
          subst (λ (w : View). HasPhase seat (phase_in Idle (deeds_at seat before ++ deed_at seat x.0 x.1)) w) (sym (view_of-cons start before x.0 x.1 legal.1))
          (subst (λ (p : SeatPhase). HasPhase seat p (next_view (view_of start before) x.0 x.1)) (sym (phase-append Idle (deeds_at seat before) (deed_at seat x.0 x.1)))
          (next_shows seat _ (view_of start before) x.0 x.1 k.shows));
    }

    go : AreAllowed Idle (deeds_at seat before) × AreAllowed (phase_in Idle (deeds_at seat before)) (deed_at seat x.0 x.1)
        → (AreAllowed Idle (deeds_at seat before) → SeatFits start seat before) → SeatFits start seat (x ∷ before)
    go j again = next j.1 (again j.0)

-- each answer in a legal history is of its action's kind
pub legal_kinds : (start : Start) (seat : ℕ) (h : History) → IsLegal start h → AreOfKind seat (deeds_at seat h)
legal_kinds start seat [] legal = tt
legal_kinds start seat (x ∷ before) legal =
    kinds-append seat (deeds_at seat before) (deed_at seat x.0 x.1) (legal_kinds start seat before legal.0) (next_kinds seat (view_of start before) x.0 x.1 legal.1)

-- a conversation at a seat of a store that others use too
talk_fits : (p : Server) (ended : Bool) (start : Start) (seat : ℕ) (h : History) (x said : List ℕ) (rest : List Request) → 1 ≤ p.piece → seat < start.seats
    → IsLegal start h → Talk p ended x (deeds_at seat h) said rest → SeatFits start seat h
talk_fits p ended start seat h x said rest lines few legal k = legal_fits start seat h few legal (talk_allowed p ended x (deeds_at seat h) said rest lines k)

-- No answer in it says that the phase is wrong, or that there is no such seat.
pub seats_fit : (p : Server) (ended : Bool) (start : Start) (seat : ℕ) (h : History) (x said : List ℕ) (rest : List Request) → 1 ≤ p.piece → seat < start.seats
    → IsLegal start h → Talk p ended x (deeds_at seat h) said rest → HasMisfit (deeds_at seat h) → ⊥
seats_fit p ended start seat h x said rest lines few legal k = (talk_fits p ended start seat h x said rest lines few legal k).fits

-- The store shows the seat as idle, where what was done at it says so.
pub seats_rest : (p : Server) (ended : Bool) (start : Start) (seat : ℕ) (h : History) (x said : List ℕ) (rest : List Request) → 1 ≤ p.piece → seat < start.seats
    → IsLegal start h → Talk p ended x (deeds_at seat h) said rest → IsIdle (deeds_at seat h) → slice_get (view_of start h).seats seat ≡ Some Idle
seats_rest p ended start seat h x said rest lines few legal k idle = go idle where
  fit : SeatFits start seat h
  fit = talk_fits p ended start seat h x said rest lines few legal k

  go : IsIdle (deeds_at seat h) → slice_get (view_of start h).seats seat ≡ Some Idle
  go (inl e) = fit.shows.1 ∙ ap Some (idle_view fit.shows.0 (fit.shows.2 ∙ e))
  go (inr m) = absurd (fit.fits m)
