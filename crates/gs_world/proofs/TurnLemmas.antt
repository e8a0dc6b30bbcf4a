-- What a turn makes of one connection.
use Rattle.std.proofs.Common.{◌≡◌, ℕ, List, [], ◌∷◌, ◌++◌, Option, Some, None, MatchOption, refl, sym, subst, ◌∙◌, append-nil, true≢false}
use Rattle.gs_event.specs.declared.events.Event.TheVariants.{Seat}
use Rattle.gs_event.specs.Waste.{Shown}
use Rattle.gs_event.specs.Steps.{Steps}
use Rattle.gs_talk.specs.Seats.{Deeds}
use Rattle.gs_talk.specs.Logs.{Server}
use Rattle.gs_session.specs.declared.sessions.Session.{Session}
use Rattle.gs_session.specs.declared.sessions.Turn as turn
use Rattle.gs_session.specs.declared.sessions.Turn.TheVariants.{NeedInput, Made, Output, Over}
use Rattle.gs_session.specs.Turns.{Leads}
use Rattle.gs_world.specs.declared.connections.Connection.{Connection}
use Rattle.gs_world.specs.declared.steps.WorldStep.TheVariants.{Turn}
use Rattle.gs_world.specs.Happenings.{Input, input_with, IsMadeBy}
use Rattle.gs_world.specs.Walks.{turn_text, Becomes, TakesTurn, MovesOn}
use Rattle.gs_world.specs.Worlds.{LeadsToSession, HasLeft, HoldsTo}
use Rattle.gs_world.proofs.MoveLemmas.{DoesFew, events_of, Moved, put_serves, live_taken, gone_moved, seat_same, server_same}

-- what a turn does, and what then leads to its session
pub record Turned (p : Server) (c : ℕ) (i : Input) (h : Deeds) (w : List ℕ) (old : Shown) (next : Session) (t : turn.Turn) (new : Shown) : Type 0 where
  pub done : Deeds
  pub few : DoesFew c old done new
  pub made : IsMadeBy (Turn c) (events_of c done)
  pub leads : Leads next i.bytes (h ++ done) (w ++ turn_text t)

nothing_turned : (p : Server) (c : ℕ) (i : Input) (h : Deeds) (w : List ℕ) (old : Shown) (next : Session) (t : turn.Turn) (new : Shown) → new ≡ old
    → Leads next i.bytes h (w ++ turn_text t) → Turned p c i h w old next t new
nothing_turned p c i h w old next t new stays l = record {
  done = [];
  few = stays;
  made = tt;
  leads = subst (λ (d : Deeds). Leads next i.bytes d (w ++ turn_text t)) (sym (append-nil h)) l;
}

pub takes_turned : (p : Server) (c : ℕ) (i : Input) (h : Deeds) (w : List ℕ) (s : Session) (old : Shown) (t : turn.Turn) (next : Session) (new : Shown)
    → LeadsToSession p c i h w s → TakesTurn s old t next new → Turned p c i h w old next t new
takes_turned p c i h w s old Made next new f k = record {
  done = (k.0.0, k.0.1) ∷ [];
  few = subst (λ (n : ℕ). Steps old (Seat n k.0.0) k.0.1 new) f.seat_is k.0.2.0;
  made = refl;
  leads =
      subst (λ (z : List ℕ). Leads next i.bytes (h ++ (k.0.0, k.0.1) ∷ []) z) (sym (append-nil w))
      (k.0.3 i.bytes h w f.leads);
}
takes_turned p c i h w s old (Output b) next new f k = nothing_turned p c i h w old next (Output b) new k.0.0 (k.0.2 i.bytes h w f.leads)
takes_turned p c i h w s old NeedInput next new f k =
    nothing_turned p c i h w old next NeedInput new k.0.0 (subst (λ (z : List ℕ). Leads next i.bytes h z) (sym (append-nil w)) (k.0.1 i.bytes h w f.leads))
takes_turned p c i h w s old Over next new f k =
    nothing_turned p c i h w old next Over new k.0.0 (subst (λ (z : List ℕ). Leads next i.bytes h z) (sym (append-nil w)) (k.0.1 i.bytes h w f.leads))

-- a connection after a turn that did this
pub turned_holds : (p : Server) (c : ℕ) (i : Input) (h : Deeds) (w : List ℕ) (s next : Session) (t : turn.Turn) (k2 : Connection) (first last : Shown) (done : Deeds)
    → LeadsToSession p c i h w s → Becomes k2 next (w ++ turn_text t) → TakesTurn s first t next last → Leads next i.bytes (h ++ done) (w ++ turn_text t)
    → HoldsTo p c (input_with i (Turn c)) (h ++ done) k2
turned_holds p c i h w s next t k2 first last done f e n leads =
    put_serves p c (input_with i (Turn c)) (h ++ done) (w ++ turn_text t) k2 next e
    (live_taken p c i (h ++ done) (w ++ turn_text t) next (Turn c) f.live record {
      leads = leads;
      ended = n.3 ∙ f.ended;
      server = server_same s next n.2 ∙ f.server;
      seat_is = seat_same s next n.2 ∙ f.seat_is;
      live = f.live;
    })

pub turns_moved : (p : Server) (c : ℕ) (i : Input) (h : Deeds) (k k2 : Connection) (first last : Shown) → HoldsTo p c i h k → MovesOn k first k2 last
    → Moved p c (Turn c) i h first k2 last
turns_moved p c i h k k2 first last j g = go k.session refl j g where
  served : (s next : Session) (t : turn.Turn) → LeadsToSession p c i h k.written.items s → Becomes k2 next (k.written.items ++ turn_text t) → TakesTurn s first t next last
      → Turned p c i h k.written.items first next t last → Moved p c (Turn c) i h first k2 last
  served s next t f e n m = record {
    done = m.done;
    few = m.few;
    made = m.made;
    spares = λ d. absurd (true≢false (sym d ∙ f.live));
    holds = turned_holds p c i h k.written.items s next t k2 first last m.done f e n m.leads;
  }

  go : (o : Option Session) → k.session ≡ o → MatchOption o (HasLeft p c i h k.written.items) (λ s. LeadsToSession p c i h k.written.items s)
      → MatchOption o ((k2 ≡ k) × (last ≡ first)) (λ s. (t : turn.Turn) × (next : Session) × Becomes k2 next (k.written.items ++ turn_text t) × TakesTurn s first t next last)
      → Moved p c (Turn c) i h first k2 last
  go None e f n = gone_moved p c (Turn c) i h k k2 first last tt e f n.0 n.1
  go (Some s) e f n = served s n.1 n.0 f n.2 n.3 (takes_turned p c i h k.written.items s first n.0 n.1 last f n.3)
