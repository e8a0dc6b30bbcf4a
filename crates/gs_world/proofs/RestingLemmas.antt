-- What a turn of a connection does that was not dropped: it acts, it writes, or all that is to be said was written.
use Rattle.std.proofs.Common.{◌≡◌, ◌<◌, inl, inr, ◌⊎◌, arith, ℕ, Bool, false, List, [], ◌∷◌, ◌++◌, reverse, Option, Some, None, MatchOption, refl, sym, ap, subst, ◌∙◌, append-nil, true≢false}
use Rattle.std.specs.List.{slice_get, slice_set}
use Rattle.gs_event.specs.declared.events.Event.TheVariants.{Seat}
use Rattle.gs_event.specs.Steps.{Steps}
use Rattle.gs_event.specs.Histories.{History}
use Rattle.gs_talk.specs.Seats.{Deeds}
use Rattle.gs_talk.specs.Logs.{Server}
use Rattle.gs_talk.specs.Closings.{SaysAll, SaysLast}
use Rattle.gs_session.specs.declared.sessions.Session.{Session}
use Rattle.gs_session.specs.declared.sessions.Turn as turn
use Rattle.gs_session.specs.declared.sessions.Turn.TheVariants.{NeedInput, Made, Output, Over}
use Rattle.gs_session.specs.Turns.{Leads, AwaitsInput, HasEnded}
use Rattle.gs_world.specs.declared.connections.Connection.{Connection}
use Rattle.gs_world.specs.declared.steps.WorldStep.TheVariants.{Turn}
use Rattle.gs_world.specs.declared.worlds.World.{World}
use Rattle.gs_world.specs.Happenings.{Past, Input, input_of, deeds_at, IsMadeBy}
use Rattle.gs_world.specs.Walks.{turn_text, Becomes, TakesTurn, StaysGone, MovesOn, Walks, WalksAll}
use Rattle.gs_world.specs.Worlds.{LeadsToSession, HasLeft, HoldsTo, LeadsToWorld, text_written, written_on, RunsSteps}
use Rattle.gs_world.specs.Resting.{LeadsOnBy, MakesEvent, WritesText, SaysItsAll, HasSaidAll, SaysNothing, TurnsRestWhereAllIsSaid}
use Rattle.gs_world.proofs.MoveLemmas.{DoesFew, events_of}
use Rattle.gs_world.proofs.TurnLemmas.{turned_holds}
use Rattle.gs_world.proofs.StandLemmas.{set_here, moved_leads}
use Rattle.gs_world.proofs.RunLemmas.{there, walks_last, walks_run}

-- what leads to a connection with a session leads to the session
session_led : (p : Server) (c : ℕ) (i : Input) (h : Deeds) (k : Connection) (s : Session) → k.session ≡ Some s → HoldsTo p c i h k → LeadsToSession p c i h k.written.items s
session_led p c i h k s e j = subst (λ (o : Option Session). MatchOption o (HasLeft p c i h k.written.items) (λ s. LeadsToSession p c i h k.written.items s)) e j

-- one that was not dropped has a session
session_there : (p : Server) (c : ℕ) (i : Input) (h : Deeds) (k : Connection) → HoldsTo p c i h k → i.is_dropped ≡ false → (s : Session) × (k.session ≡ Some s)
session_there p c i h k j d = go k.session refl j where
  go : (o : Option Session) → k.session ≡ o → MatchOption o (HasLeft p c i h k.written.items) (λ s. LeadsToSession p c i h k.written.items s) → (s : Session) × (k.session ≡ Some s)
  go None e f = absurd (true≢false (sym f.dropped ∙ d))
  go (Some s) e f = (s, e)

-- a session that waits, or has ended, has said all

waits_said : (p : Server) (c : ℕ) (i : Input) (h : Deeds) (w : List ℕ) (s : Session) → AwaitsInput s → LeadsToSession p c i h w s → SaysItsAll p i h w
waits_said p c i h w s n f = inl (sym f.ended ∙ n.0, subst (λ (z : Server). SaysAll z false i.bytes h w) f.server (n.1 i.bytes h w f.leads))

ended_said : (p : Server) (c : ℕ) (i : Input) (h : Deeds) (w : List ℕ) (s : Session) → HasEnded s → LeadsToSession p c i h w s → SaysItsAll p i h w
ended_said p c i h w s n f =
    inr (subst (λ (v : Bool). SaysLast p v i.bytes h w) f.ended
    (subst (λ (z : Server). SaysLast z s.ended i.bytes h w) f.server (n i.bytes h w f.leads)))

-- what was written on a connection that is there
text_here : (w : World) (c : ℕ) (k : Connection) → slice_get w.connections.items c ≡ Some k → written_on w c ≡ k.written.items
text_here w c k here = ap text_written here

module _ (c : ℕ) (old new : World) (k k2 : Connection) (s next : Session) (here : slice_get old.connections.items c ≡ Some k) (live : k.session ≡ Some s)
    (put : new.connections.items ≡ slice_set old.connections.items c k2) where
  here_after : slice_get new.connections.items c ≡ Some k2
  here_after = ap (λ (ks : List Connection). slice_get ks c) put ∙ set_here old.connections.items c k k2 here

  -- with what was done each history leads on
  leads_on : (t : turn.Turn) (done : Deeds) → Becomes k2 next (k.written.items ++ turn_text t) → TakesTurn s old.store t next new.store → DoesFew c old.store done new.store
      → IsMadeBy (Turn c) (events_of c done) → ((x : List ℕ) (h : Deeds) (w : List ℕ) → Leads s x h w → Leads next x (h ++ done) (w ++ turn_text t)) → LeadsOnBy c (events_of c done) old new
  leads_on t done e n few made leads p count past history st = go (session_led p c (input_of c past) (deeds_at c history) k s live (st.each c k here)) where
    go : LeadsToSession p c (input_of c past) (deeds_at c history) k.written.items s → LeadsToWorld p count new (Turn c ∷ past) (events_of c done ++ history)
    go f =
        moved_leads p count old new past history c (Turn c) (λ d. refl) st k k2 here put done few made (λ d. absurd (true≢false (sym d ∙ f.live)))
        (turned_holds p c (input_of c past) (deeds_at c history) k.written.items s next t k2 old.store new.store done f e n (leads (input_of c past).bytes (deeds_at c history) k.written.items f.leads))

  -- what a turn has to be written was
  wrote : (t : turn.Turn) → Becomes k2 next (k.written.items ++ turn_text t) → written_on new c ≡ written_on old c ++ turn_text t
  wrote t e = text_here new c k2 here_after ∙ e.1 ∙ ap (λ (w : List ℕ). w ++ turn_text t) (sym (text_here old c k here))

  -- all is said by each history
  said_all : k2.session ≡ Some next → ((p : Server) (i : Input) (h : Deeds) (w : List ℕ) → LeadsToSession p c i h w next → SaysItsAll p i h w) → HasSaidAll c new
  said_all e says p count past history st =
      subst (λ (w : List ℕ). SaysItsAll p (input_of c past) (deeds_at c history) w) (sym (text_here new c k2 here_after))
      (says p (input_of c past) (deeds_at c history) k2.written.items (session_led p c (input_of c past) (deeds_at c history) k2 next e (st.each c k2 here_after)))

  -- nothing was done
  none_done : (t : turn.Turn) (x : List ℕ) (h : Deeds) (w : List ℕ) → Leads next x h (w ++ turn_text t) → Leads next x (h ++ []) (w ++ turn_text t)
  none_done t x h w l = subst (λ (d : Deeds). Leads next x d (w ++ turn_text t)) (sym (append-nil h)) l

  -- nothing was said
  none_said : (x : List ℕ) (h : Deeds) (w : List ℕ) → Leads next x h w → Leads next x h (w ++ [])
  none_said x h w l = subst (λ (z : List ℕ). Leads next x h z) (sym (append-nil w)) l

  turn_shows : (t : turn.Turn) → s.setup.seat ≡ c → Becomes k2 next (k.written.items ++ turn_text t) → TakesTurn s old.store t next new.store
      → MakesEvent c old new ⊎ (WritesText c old new ⊎ SaysNothing c old new)
  turn_shows Made at e n = inl (
    n.0.0,
    n.0.1,
    steps,
    wrote Made e ∙ append-nil (written_on old c),
    leads_on Made ((n.0.0, n.0.1) ∷ []) e n steps refl (λ x h w l. none_said x (h ++ (n.0.0, n.0.1) ∷ []) w (n.0.3 x h w l)),
  ) where
    steps : Steps old.store (Seat c n.0.0) n.0.1 new.store
    steps = subst (λ (z : ℕ). Steps old.store (Seat z n.0.0) n.0.1 new.store) at n.0.2.0
  turn_shows (Output b) at e n =
      inr (inl (b.items, n.0.1, wrote (Output b) e, n.0.0, leads_on (Output b) [] e n n.0.0 tt (λ x h w l. none_done (Output b) x h w (n.0.2 x h w l))))
  turn_shows NeedInput at e n = inr (inr (
    wrote NeedInput e ∙ append-nil (written_on old c),
    n.0.0,
    leads_on NeedInput [] e n n.0.0 tt (λ x h w l. none_done NeedInput x h w (none_said x h w (n.0.1 x h w l))),
    said_all e.0 (λ p i h w f. waits_said p c i h w next n.1 f),
  ))
  turn_shows Over at e n = inr (inr (
    wrote Over e ∙ append-nil (written_on old c),
    n.0.0,
    leads_on Over [] e n n.0.0 tt (λ x h w l. none_done Over x h w (none_said x h w (n.0.1 x h w l))),
    said_all e.0 (λ p i h w f. ended_said p c i h w next n.1 f),
  ))

-- a turn of a connection that is there and was not dropped
walk_shows : (p : Server) (count c : ℕ) (old new : World) (past : Past) (history : History) → LeadsToWorld p count old past history → c < count
    → (input_of c past).is_dropped ≡ false → Walks old (Turn c) new → MakesEvent c old new ⊎ (WritesText c old new ⊎ SaysNothing c old new)
walk_shows p count c old new past history st l d walk = go (there old.connections.items c (omega (arith, l, st.many))) where
  moved : (k : Connection) (s : Session) → slice_get old.connections.items c ≡ Some k → k.session ≡ Some s
      → (k2 : Connection) × (new.connections.items ≡ slice_set old.connections.items c k2) × MovesOn k old.store k2 new.store → MakesEvent c old new ⊎ (WritesText c old new ⊎ SaysNothing c old new)
  moved k s here live n =
      turned
      (subst (λ (o : Option Session). MatchOption o (StaysGone k old.store n.0 new.store)
      (λ s. (t : turn.Turn) × (next : Session) × Becomes n.0 next (k.written.items ++ turn_text t) × TakesTurn s old.store t next new.store)) live n.2)
    where
      turned : (t : turn.Turn) × (next : Session) × Becomes n.0 next (k.written.items ++ turn_text t) × TakesTurn s old.store t next new.store
          → MakesEvent c old new ⊎ (WritesText c old new ⊎ SaysNothing c old new)
      turned m =
          turn_shows c old new k n.0 s m.1 here live n.1 m.0
          (session_led p c (input_of c past) (deeds_at c history) k s live (st.each c k here)).seat_is m.2 m.3

  go : (k : Connection) × (slice_get old.connections.items c ≡ Some k) → MakesEvent c old new ⊎ (WritesText c old new ⊎ SaysNothing c old new)
  go k = live (session_there p c (input_of c past) (deeds_at c history) k.0 (st.each c k.0 k.1) d) where
    live : (s : Session) × ((k.0).session ≡ Some s) → MakesEvent c old new ⊎ (WritesText c old new ⊎ SaysNothing c old new)
    live s =
        moved k.0 s.0 k.1 s.1
        (subst (λ (o : Option Connection). MatchOption o (new ≡ old) (λ k. (k2 : Connection) × (new.connections.items ≡ slice_set old.connections.items c k2) × MovesOn k old.store k2 new.store)) k.1 walk)

-- The last turn of a run acts, or writes, or all that is to be said was written.
pub last_turn : TurnsRestWhereAllIsSaid
last_turn p count c old new past history steps st l d run = go (walks_last old new steps (Turn c) run.0) where
  shown : (mid : World) → Walks mid (Turn c) new → RunsSteps old steps mid → MakesEvent c mid new ⊎ (WritesText c mid new ⊎ SaysNothing c mid new)
  shown mid walk before = more (before.1 p count past history st).0 (before.1 p count past history st).2 where
    more : (h : History) → LeadsToWorld p count mid (reverse steps ++ past) (h ++ history) → MakesEvent c mid new ⊎ (WritesText c mid new ⊎ SaysNothing c mid new)
    more h leads = walk_shows p count c mid new (reverse steps ++ past) (h ++ history) leads l d walk

  go : (mid : World) × WalksAll old steps mid × Walks mid (Turn c) new
      → (mid : World) × RunsSteps old steps mid × Walks mid (Turn c) new × (MakesEvent c mid new ⊎ (WritesText c mid new ⊎ SaysNothing c mid new))
  go n = (n.0, walks_run old n.0 steps n.1, n.2, shown n.0 n.2 (walks_run old n.0 steps n.1))
