-- What a store shows of a seat follows what the seat does, and no answer is out of its phase where each action is allowed.
use Rattle.std.proofs.Common.{◌≡◌, inl, inr, ◌≤◌, ℕ, zero, suc, Bool, true, false, cond, nat_eq, List, [], ◌∷◌, Option, Some, MatchOption, refl, sym, ap, subst, ◌∙◌, true≢false, map}
use Rattle.std.specs.List.{slice_get, slice_set}
use Rattle.gs_model.specs.declared.refusals.Refusal.TheVariants as why
use Rattle.gs_event.specs.declared.events.Event.{Event}
use Rattle.gs_event.specs.declared.events.Event.TheVariants.{Seat}
use Rattle.gs_event.specs.declared.events.Action.{Action}
use Rattle.gs_event.specs.declared.events.Action.TheVariants.{Open, OpenPatch, Stage, Commit, CommitPatch, Delete, Head, Pin, Piece, Cancel}
use Rattle.gs_event.specs.declared.answers.Answer.{Answer}
use Rattle.gs_event.specs.declared.answers.Answer.TheVariants.{Opened, Staged, Status, Pinned, Lines, Cancelled, Refused}
use Rattle.gs_event.specs.Phases.{Idle, Writing, Patching, Reading, allows}
use Rattle.gs_event.specs.Views.{Totals, SeatView, View, Fits, FitsSeat, next_phase, next_if, next_view}
use Rattle.gs_event.specs.Waste.{Shown}
use Rattle.gs_event.specs.Steps.{Steps}
use Rattle.gs_event.specs.Runs.{Runs}
use Rattle.gs_event.proofs.RunLemmas.{has_run}
use Rattle.gs_stream.specs.Requests.{Request}
use Rattle.gs_talk.specs.Seats.{Deeds, SeatPhase, phase_then, phase_in}
use Rattle.gs_talk.specs.Logs.{Server, Talk}
use Rattle.gs_talk.specs.Laws.{is_misfit, HasMisfit, IsIdle}
use Rattle.gs_session.specs.Turns.{Ran}
use Rattle.gs_session.specs.Laws.{IsIdleAt, StoresFit, StoresRest, StoresAreLegal}
use Rattle.gs_session.proofs.AllowLemmas.{AreAllowed}
use Rattle.gs_session.proofs.TalkLemmas.{talk_allowed}

-- one seat

-- what a store shows of a seat, without what a read has left
abbrev pub seat_phase : SeatView → SeatPhase
seat_phase Idle = Idle
seat_phase (Writing k r g since) = Writing k r g since
seat_phase (Patching t r since) = Patching t r since
seat_phase (Reading left) = Reading tt

pinned_phase : (b : Bool) (left : List (List ℕ)) → seat_phase (cond b (Reading left) Idle) ≡ cond b (Reading tt) Idle
pinned_phase true left = refl
pinned_phase false left = refl

given_phase : (b : Bool) (left : List (List ℕ)) → seat_phase (cond b Idle (Reading left)) ≡ cond b Idle (Reading tt)
given_phase true left = refl
given_phase false left = refl

-- the table of phases says the same of what is shown and of what was done
same_phase : (w : Totals) (v : SeatView) (action : Action) (answer : Answer) → seat_phase (next_phase w v action answer) ≡ phase_then (seat_phase v) (action, answer)
same_phase w Idle (Open k since) (Opened r) = refl
same_phase w Idle (OpenPatch t since) (Opened r) = refl
same_phase w Idle (Pin t) (Pinned s number) = pinned_phase (nat_eq s 200) _
same_phase w (Writing k r g since) (Stage ts) Staged = refl
same_phase w (Writing k r g since) Commit (Status s name number) = refl
same_phase w (Writing k r g since) Cancel Cancelled = refl
same_phase w (Patching t r since) (CommitPatch ops) (Status s name number) = refl
same_phase w (Patching t r since) Cancel Cancelled = refl
same_phase w (Reading left) (Piece n) (Lines b end) = given_phase end _
same_phase w (Reading left) Cancel Cancelled = refl
same_phase w v action answer = refl

same_allows : (v : SeatView) (action : Action) → allows (seat_phase v) action ≡ allows v action
same_allows Idle action = refl
same_allows (Writing k r g since) action = refl
same_allows (Patching t r since) action = refl
same_allows (Reading left) action = refl

-- An action is out of its phase only where that does not allow it, and a seat that is there is not missing.
refused_fits : (w : Totals) (v : SeatView) (action : Action)
    → (FitsSeat w v action (Refused why.WrongPhase) → allows v action ≡ false) × (FitsSeat w v action (Refused why.BadSeat) → ⊥)
refused_fits w Idle (Open k since) = (λ f. f, λ f. f)
refused_fits w Idle (OpenPatch t since) = (λ f. f, λ f. f)
refused_fits w Idle (Delete t since) = (λ f. f, λ f. f)
refused_fits w Idle (Head t) = (λ f. f, λ f. f)
refused_fits w Idle (Pin t) = (λ f. f, λ f. f)
refused_fits w (Writing k r g since) (Stage ts) = (λ f. f, λ f. f)
refused_fits w (Writing k r g since) Commit = (λ f. f, λ f. f)
refused_fits w (Writing k r g since) Cancel = (λ f. f, λ f. f)
refused_fits w (Patching t r since) (CommitPatch ops) = (λ f. f, λ f. f)
refused_fits w (Patching t r since) Cancel = (λ f. f, λ f. f)
refused_fits w (Reading left) (Piece n) = (λ f. f, λ f. f)
refused_fits w (Reading left) Cancel = (λ f. f, λ f. f)
refused_fits w v action = (λ f. f, λ f. f)

-- an answer to an action that is allowed
fits_allowed : (w : Totals) (v : SeatView) (action : Action) (answer : Answer) → FitsSeat w v action answer → allows v action ≡ true → is_misfit answer ≡ true → ⊥
fits_allowed w v action (Refused why.WrongPhase) f k m = true≢false (sym k ∙ (refused_fits w v action).0 f)
fits_allowed w v action (Refused why.BadSeat) f k m = (refused_fits w v action).1 f
fits_allowed w v action answer f k m = true≢false (sym m)

-- one step

-- a store that shows this has the seat, in this phase
abbrev pub HasPhase : ℕ → SeatPhase → View → Type 0
HasPhase seat p w = (v : SeatView) × (slice_get w.seats seat ≡ Some v) × (seat_phase v ≡ p)

abbrev ShowsPhase : ℕ → SeatPhase → Shown → Type 0
ShowsPhase seat p shown = HasPhase seat p shown.view

set_place : {X : Type 0} (xs : List X) (i : ℕ) (x y : X) → slice_get xs i ≡ Some x → slice_get (slice_set xs i y) i ≡ Some y
set_place [] i x y e = cc
set_place (z ∷ zs) zero x y e = refl
set_place (z ∷ zs) (suc i) x y e = set_place zs i x y e

-- an answer to an action that the phase of its seat allows
pub allowed_fits : (seat : ℕ) (p : SeatPhase) (w : View) (action : Action) (answer : Answer) → HasPhase seat p w → Fits w (Seat seat action) answer
    → allows p action ≡ true → is_misfit answer ≡ true → ⊥
allowed_fits seat p w action answer k s o =
    fits_allowed w.totals k.0 action answer
    (subst (λ (q : Option SeatView). MatchOption q (answer ≡ Refused why.BadSeat) (λ v. FitsSeat w.totals v action answer)) k.1 s)
    (sym (same_allows k.0 action) ∙ ap (λ (q : SeatPhase). allows q action) k.2 ∙ o)

-- the phase of a seat after an event of its own
pub phase_follows : (seat : ℕ) (p : SeatPhase) (w : View) (action : Action) (answer : Answer) → HasPhase seat p w
    → HasPhase seat (phase_then p (action, answer)) (next_view w (Seat seat action) answer)
phase_follows seat p w action answer k = (
  next_phase w.totals k.0 action answer,
  ap (λ (q : Option SeatView). slice_get (next_if w seat q action answer).seats seat) k.1 ∙ set_place w.seats seat k.0 _ k.1,
  same_phase w.totals k.0 action answer ∙ ap (λ (q : SeatPhase). phase_then q (action, answer)) k.2,
)

step_fits : (seat : ℕ) (p : SeatPhase) (old new : Shown) (action : Action) (answer : Answer) → ShowsPhase seat p old → Steps old (Seat seat action) answer new
    → allows p action ≡ true → is_misfit answer ≡ true → ⊥
step_fits seat p old new action answer k s o = allowed_fits seat p old.view action answer k s.fits o

step_shows : (seat : ℕ) (p : SeatPhase) (old new : Shown) (action : Action) (answer : Answer) → ShowsPhase seat p old → Steps old (Seat seat action) answer new
    → ShowsPhase seat (phase_then p (action, answer)) new
step_shows seat p old new action answer k s =
    subst (λ (w : View). HasPhase seat (phase_then p (action, answer)) w) (sym s.view) (phase_follows seat p old.view action answer k)

-- all steps

-- what was done at a store where each action was allowed
record FitsAll (seat : ℕ) (p : SeatPhase) (h : Deeds) (last : Shown) : Type 0 where
  pub fits : HasMisfit h → ⊥
  pub shows : ShowsPhase seat (phase_in p h) last

ran_fits : (seat : ℕ) (p : SeatPhase) (first last : Shown) (h : Deeds) → ShowsPhase seat p first → Ran Steps seat first h last → AreAllowed p h → FitsAll seat p h last
ran_fits seat p first last [] k ran o = record { fits = λ m. m; shows = subst (λ (shown : Shown). ShowsPhase seat p shown) (sym ran) k }
ran_fits seat p first last (d ∷ ds) k ran o = go (ran_fits seat (phase_then p d) ran.0 last ds (step_shows seat p first ran.0 d.0 d.1 k ran.1.0) ran.2 o.1)
  where
    none : FitsAll seat (phase_then p d) ds last → HasMisfit (d ∷ ds) → ⊥
    none rest (inl m) = step_fits seat p first ran.0 d.0 d.1 k ran.1.0 o.0 m
    none rest (inr m) = rest.fits m

    go : FitsAll seat (phase_then p d) ds last → FitsAll seat p (d ∷ ds) last
    go rest = record { fits = none rest; shows = rest.shows }

-- a conversation at a store

talk_fits : (s : Server) (ended : Bool) (seat : ℕ) (first last : Shown) (x : List ℕ) (h : Deeds) (said : List ℕ) (rest : List Request)
    → 1 ≤ s.piece → IsIdleAt seat first → Ran Steps seat first h last → Talk s ended x h said rest → FitsAll seat Idle h last
talk_fits s ended seat first last x h said rest few idle ran k = ran_fits seat Idle first last h (Idle, idle, refl) ran (talk_allowed s ended x h said rest few k)

-- a store gives no answer that does not fit a session with a seat for itself
pub stores_fit : StoresFit
stores_fit s ended seat first last x h said rest few idle ran k = (talk_fits s ended seat first last x h said rest few idle ran k).fits

-- a seat that is shown as idle is
pub idle_view : (v : SeatView) → seat_phase v ≡ Idle → v ≡ Idle
idle_view Idle e = refl
idle_view (Writing k r g since) e = cc
idle_view (Patching t r since) e = cc
idle_view (Reading left) e = cc

-- and shows its seat as idle afterwards
pub stores_rest : StoresRest
stores_rest s ended seat first last x h said rest few idle ran k rests = go rests where
  fit : FitsAll seat Idle h last
  fit = talk_fits s ended seat first last x h said rest few idle ran k

  go : IsIdle h → IsIdleAt seat last
  go (inl p) = fit.shows.1 ∙ ap Some (idle_view fit.shows.0 (fit.shows.2 ∙ p))
  go (inr m) = absurd (fit.fits m)

-- legal histories

-- what a seat does is a run of its events
ran_runs : {D : Type 0} (gives : D → Event → Answer → D → Type 0) (seat : ℕ) (old new : D) (h : Deeds) → Ran gives seat old h new
    → Runs gives old (map (λ d. Seat seat d.0) h) (map (λ d. d.1) h) new
ran_runs gives seat old new [] ran = ran
ran_runs gives seat old new (d ∷ ds) ran = (ran.0, (ran.1.0, ran_runs gives seat ran.0 new ds ran.2))

-- and makes a legal history
pub stores_are_legal : StoresAreLegal
stores_are_legal seat first last h start before legal view pins ran = has_run start before first last _ _ legal view pins (ran_runs Steps seat first last h ran)
