-- What is left of a connection that is given up.
use Rattle.std.proofs.Common.{◌≡◌, inl, inr, ℕ, Bool, true, cond, List, [], ◌∷◌, ◌++◌, Option, Some, None, MatchOption, refl, sym, ap, subst, ◌∙◌, append-nil, append_assoc, true≢false}
use Rattle.gs_event.specs.declared.events.Event.TheVariants.{Seat}
use Rattle.gs_event.specs.declared.events.Action.TheVariants.{Cancel}
use Rattle.gs_event.specs.declared.answers.Answer.{Answer}
use Rattle.gs_event.specs.Waste.{Shown}
use Rattle.gs_event.specs.Steps.{Steps}
use Rattle.gs_talk.specs.Seats.{Deeds}
use Rattle.gs_talk.specs.Logs.{Server, Talk}
use Rattle.gs_talk.specs.Closings.{SaysFront}
use Rattle.gs_talk.specs.Laws.{AreOfKind, IsIdle}
use Rattle.gs_session.specs.declared.sessions.Session.{Session}
use Rattle.gs_session.specs.Leads.{MayCome}
use Rattle.gs_session.specs.Steps.{server_of}
use Rattle.gs_session.specs.Turns.{Ran, CancelsOnce, Quits}
use Rattle.gs_session.proofs.RestLemmas.{may_none}
use Rattle.gs_world.specs.declared.connections.Connection.{Connection}
use Rattle.gs_world.specs.declared.steps.WorldStep.TheVariants.{Drop}
use Rattle.gs_world.specs.Happenings.{Input, with_own, input_with, IsMadeBy}
use Rattle.gs_world.specs.Walks.{CannotWrite, LeavesSeat}
use Rattle.gs_world.specs.Worlds.{LeadsToSession, HasLeft, HoldsTo}
use Rattle.gs_world.proofs.MoveLemmas.{DoesFew, events_of, Moved, put_left, gone_moved, seat_same, server_same}

-- what is cancelled then
record Cancelled (p : Server) (c : ℕ) (i : Input) (h : Deeds) (w : List ℕ) (old new : Shown) : Type 0 where
  pub done : Deeds
  pub few : DoesFew c old done new
  pub made : IsMadeBy (Drop c) (events_of c done)
  pub left : HasLeft p c (record i { is_dropped = true }) (h ++ done) w

quits_cancelled : (p : Server) (c : ℕ) (i : Input) (h : Deeds) (w : List ℕ) (s : Session) (old new : Shown) → LeadsToSession p c i h w s → Quits Steps s old new
    → Cancelled p c i h w old new
quits_cancelled p c i h w s old new f q = go q.1 q.2 (q.3 i.bytes h w [] f.leads (may_none s.ended)) where
  left : (ds : Deeds) → SaysFront (server_of s.setup) s.ended (i.bytes ++ []) (h ++ ds) w × (AreOfKind s.setup.seat (h ++ ds) → IsIdle (h ++ ds))
      → HasLeft p c (record i { is_dropped = true }) (h ++ ds) w
  left ds n = record {
    front =
        subst (λ (v : Bool). SaysFront p v i.bytes (h ++ ds) w) f.ended
        (subst (λ (z : Server). SaysFront z s.ended i.bytes (h ++ ds) w) f.server
        (subst (λ (x : List ℕ). SaysFront (server_of s.setup) s.ended x (h ++ ds) w) (append-nil i.bytes) n.0));
    idle = λ k. n.1 (subst (λ (z : ℕ). AreOfKind z (h ++ ds)) (sym f.seat_is) k);
    dropped = refl;
  }

  once : (answer : Answer) (ds : Deeds) → ds ≡ (Cancel, answer) ∷ [] → Ran Steps s.setup.seat old ds new
      → SaysFront (server_of s.setup) s.ended (i.bytes ++ []) (h ++ ds) w × (AreOfKind s.setup.seat (h ++ ds) → IsIdle (h ++ ds)) → Cancelled p c i h w old new
  once answer ds e ran n = cancelled (subst (λ (d : Deeds). Ran Steps s.setup.seat old d new) e ran) where
    cancelled : Ran Steps s.setup.seat old ((Cancel, answer) ∷ []) new → Cancelled p c i h w old new
    cancelled r = record {
      done = (Cancel, answer) ∷ [];
      few =
          subst (λ (z : ℕ). Steps old (Seat z Cancel) answer new) f.seat_is
          (subst (λ (v : Shown). Steps old (Seat s.setup.seat Cancel) answer v) (sym r.2) r.1.0);
      made = refl;
      left = subst (λ (d : Deeds). HasLeft p c (record i { is_dropped = true }) (h ++ d) w) e (left ds n);
    }

  go : CancelsOnce q.0 → Ran Steps s.setup.seat old q.0 new
      → SaysFront (server_of s.setup) s.ended (i.bytes ++ []) (h ++ q.0) w × (AreOfKind s.setup.seat (h ++ q.0) → IsIdle (h ++ q.0)) → Cancelled p c i h w old new
  go (inl e) ran n = record {
    done = [];
    few = subst (λ (d : Deeds). Ran Steps s.setup.seat old d new) e ran;
    made = tt;
    left = subst (λ (d : Deeds). HasLeft p c (record i { is_dropped = true }) (h ++ d) w) e (left q.0 n);
  }
  go (inr k) ran n = once k.0 q.0 k.1 ran n

pub leaves_moved : (p : Server) (c : ℕ) (i : Input) (h : Deeds) (k k2 : Connection) (first last : Shown) → HoldsTo p c i h k → LeavesSeat k first k2 last
    → Moved p c (Drop c) i h first k2 last
leaves_moved p c i h k k2 first last j g = go k.session refl j g where
  gone : (s : Session) → LeadsToSession p c i h k.written.items s → k2.session ≡ None → k2.written.items ≡ k.written.items → Cancelled p c i h k.written.items first last
      → Moved p c (Drop c) i h first k2 last
  gone s f e w m = record {
    done = m.done;
    few = m.few;
    made = m.made;
    spares = λ d. absurd (true≢false (sym d ∙ f.live));
    holds =
        put_left p c (input_with i (Drop c)) (h ++ m.done) k2 e
        (subst (λ (z : List ℕ). HasLeft p c (input_with i (Drop c)) (h ++ m.done) z) (sym w)
        (subst (λ (n : Input). HasLeft p c n (h ++ m.done) k.written.items) (sym (ap (λ (b : Bool). cond b i (with_own i (Drop c))) f.live)) m.left));
  }

  go : (o : Option Session) → k.session ≡ o → MatchOption o (HasLeft p c i h k.written.items) (λ s. LeadsToSession p c i h k.written.items s)
      → MatchOption o ((k2 ≡ k) × (last ≡ first)) (λ s. (k2.session ≡ None) × (k2.written.items ≡ k.written.items) × Quits Steps s first last)
      → Moved p c (Drop c) i h first k2 last
  go None e f n = gone_moved p c (Drop c) i h k k2 first last tt e f n.0 n.1
  go (Some s) e f n = gone s f n.0 n.1 (quits_cancelled p c i h k.written.items s first last f n.2)

-- a text that could not be written

shorter_front : (p : Server) (e : Bool) (x : List ℕ) (h : Deeds) (w b : List ℕ) → SaysFront p e x h (w ++ b) → SaysFront p e x h w
shorter_front p e x h w b f = (f.0, b ++ f.1, subst (λ (z : List ℕ). Talk p e x h z f.0) (append_assoc w b f.1) f.2)

-- A connection that is given up after a turn whose text could not be written is given up before that turn.
pub stops_leaves : (k k1 k2 : Connection) (first mid last : Shown) → CannotWrite k first k1 mid → LeavesSeat k1 mid k2 last → LeavesSeat k first k2 last
stops_leaves k k1 k2 first mid last g l =
    subst (λ (o : Option Session). MatchOption o ((k2 ≡ k) × (last ≡ first)) (λ s. (k2.session ≡ None) × (k2.written.items ≡ k.written.items) × Quits Steps s first last))
    (sym g.1)
    (given (subst (λ (o : Option Session). MatchOption o ((k2 ≡ k1) × (last ≡ mid)) (λ s. (k2.session ≡ None) × (k2.written.items ≡ k1.written.items) × Quits Steps s mid last)) g.4.0 l))
  where
    s : Session
    s = g.0

    next : Session
    next = g.3

    quits : Quits Steps next mid last → Quits Steps s first last
    quits q = (
      q.0,
      q.1,
      subst (λ (n : ℕ). Ran Steps n first q.0 last) (seat_same s next g.5.2) (subst (λ (v : Shown). Ran Steps next.setup.seat v q.0 last) g.5.0.0 q.2),
      λ x h w y leads may.
          let n = q.3 x h (w ++ (g.2).items) y (g.5.0.2 x h w leads) (subst (λ (v : Bool). MayCome v y) (sym g.5.3) may) in (
            shorter_front (server_of s.setup) s.ended (x ++ y) (h ++ q.0) w (g.2).items
                (subst (λ (v : Bool). SaysFront (server_of s.setup) v (x ++ y) (h ++ q.0) (w ++ (g.2).items)) g.5.3
                (subst (λ (z : Server). SaysFront z next.ended (x ++ y) (h ++ q.0) (w ++ (g.2).items)) (server_same s next g.5.2) n.0)),
            λ kinds. n.1 (subst (λ (z : ℕ). AreOfKind z (h ++ q.0)) (sym (seat_same s next g.5.2)) kinds),
          ),
    )

    given : (k2.session ≡ None) × (k2.written.items ≡ k1.written.items) × Quits Steps next mid last → (k2.session ≡ None) × (k2.written.items ≡ k.written.items) × Quits Steps s first last
    given n = (n.0, n.1 ∙ g.4.1, quits n.2)
