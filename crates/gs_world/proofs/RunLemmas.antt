-- What the steps of a run lead to, and that all connections are served by it.
use Rattle.std.proofs.Common.{◌≡◌, ◌<◌, inl, inr, arith, ℕ, zero, suc, Bool, true, List, [], ◌∷◌, ◌++◌, length, reverse, take, Option, Some, None, MatchOption, refl, sym, ap, subst, ◌∙◌, append_assoc, true≢false}
use Rattle.std.specs.List.{slice_get}
use Rattle.std.proofs.lemmas.List.{reverse-append}
use Rattle.gs_event.specs.Phases.{Idle}
use Rattle.gs_event.specs.Views.{View}
use Rattle.gs_event.specs.Histories.{History, view_of}
use Rattle.gs_talk.specs.Seats.{Deeds}
use Rattle.gs_talk.specs.Logs.{Server}
use Rattle.gs_talk.specs.Closings.{SaysFront}
use Rattle.gs_talk.proofs.LogLemmas.{talk_points, rests_idle}
use Rattle.gs_session.specs.declared.sessions.Session.{Session}
use Rattle.gs_session.proofs.MomentLemmas.{says_front}
use Rattle.gs_world.specs.declared.connections.Connection.{Connection}
use Rattle.gs_world.specs.declared.steps.WorldStep.{WorldStep}
use Rattle.gs_world.specs.declared.steps.WorldStep.TheVariants.{Drop}
use Rattle.gs_world.specs.declared.worlds.World.{World}
use Rattle.gs_world.specs.Happenings.{Past, Input, input_of, deeds_at, IsMadeBy, SparesDropped, AreMadeAfter}
use Rattle.gs_world.specs.Walks.{Walks, WalksAll, RefusesStep}
use Rattle.gs_world.specs.Worlds.{LeadsToSession, HasLeft, HoldsTo, LeadsToWorld, world_start, text_written, written_on, IsServed, IsDone, ServesAll, RunsSteps, IsCutAt}
use Rattle.gs_world.proofs.SeatLemmas.{legal_kinds, seats_fit, seats_rest}
use Rattle.gs_world.proofs.MadeLemmas.{made_append, made_one}
use Rattle.gs_world.proofs.MergeLemmas.{history_merges}
use Rattle.gs_world.proofs.StandLemmas.{GoesOn, walk_stands}

-- steps one after another

pub walks_more : (w mid w2 : World) (steps : List WorldStep) (step : WorldStep) → WalksAll w steps mid → Walks mid step w2 → WalksAll w (steps ++ step ∷ []) w2
walks_more w mid w2 [] step all walk = (w2, subst (λ (v : World). Walks v step w2) all walk, refl)
walks_more w mid w2 (s ∷ steps) step all walk = (all.0, all.1, walks_more all.0 mid w2 steps step all.2 walk)

-- the last of them
pub walks_last : (w w2 : World) (steps : List WorldStep) (step : WorldStep) → WalksAll w (steps ++ step ∷ []) w2 → (mid : World) × WalksAll w steps mid × Walks mid step w2
walks_last w w2 [] step all = (w, refl, subst (λ (v : World). Walks w step v) (sym all.2) all.1)
walks_last w w2 (s ∷ steps) step all = go (walks_last all.0 w2 steps step all.2) where
  go : (mid : World) × WalksAll all.0 steps mid × Walks mid step w2 → (mid : World) × WalksAll w (s ∷ steps) mid × Walks mid step w2
  go n = (n.0, (all.0, all.1, n.1), n.2)

-- what some steps lead on to
abbrev LeadsOn : Server → ℕ → World → List WorldStep → Past → History → Type 0
LeadsOn p count w steps past history = (more : History) × AreMadeAfter past (reverse steps) more × LeadsToWorld p count w (reverse steps ++ past) (more ++ history)

walks_stand : (p : Server) (count : ℕ) (w w2 : World) (steps : List WorldStep) (past : Past) (history : History) → WalksAll w steps w2 → LeadsToWorld p count w past history
    → LeadsOn p count w2 steps past history
walks_stand p count w w2 [] past history all st = ([], refl, subst (λ (v : World). LeadsToWorld p count v past history) (sym all) st)
walks_stand p count w w2 (step ∷ steps) past history all st = go (walk_stands p count w all.0 past history step st all.1) (λ h k. walks_stand p count all.0 w2 steps (step ∷ past) h all.2 k) where
  turned : reverse (step ∷ steps) ≡ reverse steps ++ step ∷ []
  turned = reverse-append (step ∷ []) steps

  joined : (m1 : History) → IsMadeBy step m1 → SparesDropped past m1 → LeadsOn p count w2 steps (step ∷ past) (m1 ++ history) → LeadsOn p count w2 (step ∷ steps) past history
  joined m1 made spares k = (
    k.0 ++ m1,
    subst (λ (q : Past). AreMadeAfter past q (k.0 ++ m1)) (sym turned) (made_append past (step ∷ []) (reverse steps) k.0 m1 k.1 (made_one past step m1 made spares)),
    subst (λ (h : History). LeadsToWorld p count w2 (reverse (step ∷ steps) ++ past) h) (sym (append_assoc k.0 m1 history))
        (subst (λ (q : Past). LeadsToWorld p count w2 q (k.0 ++ (m1 ++ history))) (sym (append_assoc (reverse steps) (step ∷ []) past) ∙ ap (λ (q : Past). q ++ past) (sym turned)) k.2),
  )

  go : GoesOn p count all.0 step past history → ((h : History) → LeadsToWorld p count all.0 (step ∷ past) h → LeadsOn p count w2 steps (step ∷ past) h)
      → LeadsOn p count w2 (step ∷ steps) past history
  go n again = joined n.0 n.1 n.2 (again (n.0 ++ history) n.3)

-- what stands in a world serves its connections

pub there : {X : Type 0} (xs : List X) (i : ℕ) → i < length xs → (x : X) × (slice_get xs i ≡ Some x)
there [] i l = absurd (omega (arith, l))
there (x ∷ xs) zero l = (x, refl)
there (x ∷ xs) (suc i) l = there xs i (omega (arith, l))

holds_front : (p : Server) (c : ℕ) (i : Input) (h : Deeds) (k : Connection) → HoldsTo p c i h k → SaysFront p i.ended i.bytes h k.written.items
holds_front p c i h k j = go k.session j where
  go : (o : Option Session) → MatchOption o (HasLeft p c i h k.written.items) (λ s. LeadsToSession p c i h k.written.items s) → SaysFront p i.ended i.bytes h k.written.items
  go None f = f.front
  go (Some s) f =
      subst (λ (v : Bool). SaysFront p v i.bytes h k.written.items) f.ended
      (subst (λ (z : Server). SaysFront z s.ended i.bytes h k.written.items) f.server (says_front s i.bytes h k.written.items f.leads))

dropped_idle : (p : Server) (c : ℕ) (i : Input) (h : Deeds) (k : Connection) → HoldsTo p c i h k → i.is_dropped ≡ true → HasLeft p c i h k.written.items
dropped_idle p c i h k j d = go k.session j where
  go : (o : Option Session) → MatchOption o (HasLeft p c i h k.written.items) (λ s. LeadsToSession p c i h k.written.items s) → HasLeft p c i h k.written.items
  go None f = f
  go (Some s) f = absurd (true≢false (sym d ∙ f.live))

module _ (p : Server) (count : ℕ) (w : World) (past : Past) (history : History) (st : LeadsToWorld p count w past history) where
  abbrev HeldAt : ℕ → Type 0
  HeldAt c = (k : Connection) × (slice_get w.connections.items c ≡ Some k)

  held : (c : ℕ) → c < count → HeldAt c
  held c l = there w.connections.items c (omega (arith, l, st.many))

  front_at : (c : ℕ) → HeldAt c → SaysFront p (input_of c past).ended (input_of c past).bytes (deeds_at c history) (written_on w c)
  front_at c k =
      subst (λ (o : Option Connection). SaysFront p (input_of c past).ended (input_of c past).bytes (deeds_at c history) (text_written o)) (sym k.1)
      (holds_front p c (input_of c past) (deeds_at c history) k.0 (st.each c k.0 k.1))

  served_at : (c : ℕ) → c < count → SaysFront p (input_of c past).ended (input_of c past).bytes (deeds_at c history) (written_on w c)
      → IsServed p (input_of c past) (deeds_at c history) (written_on w c)
  served_at c l f = record {
    front = f;
    points = talk_points p (input_of c past).ended (input_of c past).bytes (deeds_at c history) _ f.0 f.2;
    fits = seats_fit p (input_of c past).ended (world_start p count) c history (input_of c past).bytes _ f.0 st.lines l st.legal f.2;
  }

  shown_idle : (c : ℕ) → slice_get (view_of (world_start p count) history).seats c ≡ Some Idle → slice_get w.store.view.seats c ≡ Some Idle
  shown_idle c e = ap (λ (v : View). slice_get v.seats c) st.view ∙ e

  idle_at : (c : ℕ) → c < count → HeldAt c → IsDone p (input_of c past) (deeds_at c history) → slice_get w.store.view.seats c ≡ Some Idle
  idle_at c l k (inl d) = go (front_at c k) where
    left : HasLeft p c (input_of c past) (deeds_at c history) (k.0).written.items
    left = dropped_idle p c (input_of c past) (deeds_at c history) k.0 (st.each c k.0 k.1) d

    go : SaysFront p (input_of c past).ended (input_of c past).bytes (deeds_at c history) (written_on w c) → slice_get w.store.view.seats c ≡ Some Idle
    go f =
        shown_idle c (seats_rest p (input_of c past).ended (world_start p count) c history (input_of c past).bytes _ f.0 st.lines l st.legal f.2
        (left.idle (legal_kinds (world_start p count) c history st.legal)))
  idle_at c l k (inr t) =
      shown_idle c (seats_rest p (input_of c past).ended (world_start p count) c history (input_of c past).bytes t.0 [] st.lines l st.legal t.1
      (rests_idle p (input_of c past).ended c (input_of c past).bytes (deeds_at c history) t.0 (legal_kinds (world_start p count) c history st.legal) t.1))

  pub serves_all : ServesAll p count w past history
  serves_all = record {
    made = st.made;
    legal = st.legal;
    view = st.view;
    merged = history_merges (world_start p count) history st.legal;
    served = λ c l. served_at c l (front_at c (held c l));
    idle = λ c l d. idle_at c l (held c l) d;
  }

-- a run

pub walks_run : (w w2 : World) (steps : List WorldStep) → WalksAll w steps w2 → RunsSteps w steps w2
walks_run w w2 steps all = (all, λ p count past history st. go p count past history (walks_stand p count w w2 steps past history all st)) where
  go : (p : Server) (count : ℕ) (past : Past) (history : History) → LeadsOn p count w2 steps past history
      → (more : History) × AreMadeAfter past (reverse steps) more × LeadsToWorld p count w2 (reverse steps ++ past) (more ++ history)
      × ServesAll p count w2 (reverse steps ++ past) (more ++ history)
  go p count past history n = (n.0, n.1, n.2, serves_all p count w2 (reverse steps ++ past) (n.0 ++ history) n.2)

-- a run whose next step was refused
pub cut_run : (w mid w2 : World) (steps : List WorldStep) (n : ℕ) (step : WorldStep) → WalksAll w (take n steps) mid → slice_get steps n ≡ Some step
    → (c : ℕ) × RefusesStep c mid step w2 → IsCutAt w steps w2
cut_run w mid w2 steps n step all here g = (
  n,
  g.0,
  step,
  mid,
  here,
  all,
  g.1,
  walks_run w w2 (take n steps ++ Drop g.0 ∷ []) (walks_more w mid w2 (take n steps) (Drop g.0) all g.1.1.3),
)
