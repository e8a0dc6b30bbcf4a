-- What a step makes of one connection: of its session, of what came to it, and of what was done at its seat.
use Rattle.std.proofs.Common.{◌≡◌, ℕ, Bool, true, false, cond, List, [], ◌∷◌, ◌++◌, map, Vec, Option, Some, None, MatchOption, refl, sym, ap, subst, ◌∙◌, append-nil}
use Rattle.std.specs.declared.alloc.Global.{Global}
use Rattle.gs_event.specs.declared.events.Event.TheVariants.{Seat}
use Rattle.gs_event.specs.Waste.{Shown}
use Rattle.gs_event.specs.Steps.{Steps}
use Rattle.gs_event.specs.Histories.{History}
use Rattle.gs_talk.specs.Seats.{Deeds}
use Rattle.gs_talk.specs.Logs.{Server}
use Rattle.gs_session.specs.declared.sessions.Session.{Session}
use Rattle.gs_session.specs.declared.setups.Setup.{Setup}
use Rattle.gs_session.specs.Steps.{server_of}
use Rattle.gs_session.specs.Turns.{Leads, joined_input}
use Rattle.gs_world.specs.declared.connections.Connection.{Connection}
use Rattle.gs_world.specs.declared.steps.WorldStep.{WorldStep}
use Rattle.gs_world.specs.declared.steps.WorldStep.TheVariants.{Bytes, End}
use Rattle.gs_world.specs.Happenings.{Input, with_own, input_with, IsMadeBy}
use Rattle.gs_world.specs.Walks.{Becomes, BytesCame, HasInputEnded, Gets, InputEnds}
use Rattle.gs_world.specs.Worlds.{LeadsToSession, HasLeft, HoldsTo}

-- the store took these deeds of a seat, one at most
abbrev pub DoesFew : ℕ → Shown → Deeds → Shown → Type 0
DoesFew seat old [] new = new ≡ old
DoesFew seat old (d ∷ []) new = Steps old (Seat seat d.0) d.1 new
DoesFew seat old ds new = ⊥

-- the events that these deeds of a seat are
abbrev pub events_of : ℕ → Deeds → History
events_of seat ds = map (λ d. (Seat seat d.0, d.1)) ds

-- A connection after a step of its own: what was done, and what then leads to it.
pub record Moved (p : Server) (c : ℕ) (step : WorldStep) (i : Input) (h : Deeds) (old : Shown) (k2 : Connection) (new : Shown) : Type 0 where
  pub done : Deeds
  pub few : DoesFew c old done new
  pub made : IsMadeBy step (events_of c done)
  pub spares : i.is_dropped ≡ true → done ≡ []
  pub holds : HoldsTo p c (input_with i step) (h ++ done) k2

-- parts of a connection

pub put_left : (p : Server) (c : ℕ) (i : Input) (h : Deeds) (k : Connection) → k.session ≡ None → HasLeft p c i h k.written.items → HoldsTo p c i h k
put_left p c i h k e j = subst (λ (o : Option Session). MatchOption o (HasLeft p c i h k.written.items) (λ s. LeadsToSession p c i h k.written.items s)) (sym e) j

pub put_serves : (p : Server) (c : ℕ) (i : Input) (h : Deeds) (w : List ℕ) (k : Connection) (s : Session) → Becomes k s w → LeadsToSession p c i h w s → HoldsTo p c i h k
put_serves p c i h w k s e j =
    subst (λ (o : Option Session). MatchOption o (HasLeft p c i h k.written.items) (λ s. LeadsToSession p c i h k.written.items s)) (sym e.0)
    (subst (λ (z : List ℕ). LeadsToSession p c i h z s) (sym e.1) j)

-- one that was given up stays so
left_taken : (p : Server) (c : ℕ) (i : Input) (h : Deeds) (w : List ℕ) (step : WorldStep) → HasLeft p c i h w → HasLeft p c (input_with i step) (h ++ []) w
left_taken p c i h w step j =
    subst (λ (d : Deeds). HasLeft p c (input_with i step) d w) (sym (append-nil h))
    (subst (λ (n : Input). HasLeft p c n h w) (sym (ap (λ (b : Bool). cond b i (with_own i step)) j.dropped)) j)

-- one that was not takes the step
pub live_taken : (p : Server) (c : ℕ) (i : Input) (h : Deeds) (w : List ℕ) (s : Session) (step : WorldStep) → i.is_dropped ≡ false
    → LeadsToSession p c (with_own i step) h w s → LeadsToSession p c (input_with i step) h w s
live_taken p c i h w s step e j = subst (λ (n : Input). LeadsToSession p c n h w s) (sym (ap (λ (b : Bool). cond b i (with_own i step)) e)) j

pub gone_moved : (p : Server) (c : ℕ) (step : WorldStep) (i : Input) (h : Deeds) (k k2 : Connection) (first last : Shown) → IsMadeBy step [] → k.session ≡ None
    → HasLeft p c i h k.written.items → k2 ≡ k → last ≡ first → Moved p c step i h first k2 last
gone_moved p c step i h k k2 first last m e j same stays = record {
  done = [];
  few = stays;
  made = m;
  spares = λ d. refl;
  holds = subst (λ (k : Connection). HoldsTo p c (input_with i step) (h ++ []) k) (sym same) (put_left p c (input_with i step) (h ++ []) k e (left_taken p c i h k.written.items step j));
}

pub seat_same : (s next : Session) → next.setup ≡ s.setup → next.setup.seat ≡ s.setup.seat
seat_same s next e = ap (λ (setup : Setup). setup.seat) e

pub server_same : (s next : Session) → next.setup ≡ s.setup → server_of next.setup ≡ server_of s.setup
server_same s next e = ap (λ (setup : Setup). server_of setup) e

-- bytes

pub gets_moved : (p : Server) (c : ℕ) (b : Vec ℕ Global) (i : Input) (h : Deeds) (k k2 : Connection) (first last : Shown) → HoldsTo p c i h k → Gets b.items k k2
    → last ≡ first → Moved p c (Bytes c b) i h first k2 last
gets_moved p c b i h k k2 first last j g stays = go k.session refl j g where
  live : (s : Session) (next : Session) → LeadsToSession p c i h k.written.items s → Becomes k2 next k.written.items → BytesCame b.items s next → Moved p c (Bytes c b) i h first k2 last
  live s next f e n = record {
    done = [];
    few = stays;
    made = tt;
    spares = λ d. refl;
    holds =
        put_serves p c (input_with i (Bytes c b)) (h ++ []) k.written.items k2 next e
        (live_taken p c i (h ++ []) k.written.items next (Bytes c b) f.live record {
          leads =
              subst (λ (d : Deeds). Leads next (joined_input i.ended i.bytes b.items) d k.written.items) (sym (append-nil h))
              (subst (λ (v : Bool). Leads next (joined_input v i.bytes b.items) h k.written.items) f.ended (n.0 i.bytes h k.written.items f.leads));
          ended = n.2 ∙ f.ended;
          server = server_same s next n.1 ∙ f.server;
          seat_is = seat_same s next n.1 ∙ f.seat_is;
          live = f.live;
        });
  }

  go : (o : Option Session) → k.session ≡ o → MatchOption o (HasLeft p c i h k.written.items) (λ s. LeadsToSession p c i h k.written.items s)
      → MatchOption o (k2 ≡ k) (λ s. (next : Session) × Becomes k2 next k.written.items × BytesCame b.items s next) → Moved p c (Bytes c b) i h first k2 last
  go None e f n = gone_moved p c (Bytes c b) i h k k2 first last tt e f n stays
  go (Some s) e f n = live s n.0 f n.1 n.2

-- an end

pub ends_moved : (p : Server) (c : ℕ) (i : Input) (h : Deeds) (k k2 : Connection) (first last : Shown) → HoldsTo p c i h k → InputEnds k k2 → last ≡ first
    → Moved p c (End c) i h first k2 last
ends_moved p c i h k k2 first last j g stays = go k.session refl j g where
  live : (s : Session) (next : Session) → LeadsToSession p c i h k.written.items s → Becomes k2 next k.written.items → HasInputEnded s next → Moved p c (End c) i h first k2 last
  live s next f e n = record {
    done = [];
    few = stays;
    made = tt;
    spares = λ d. refl;
    holds =
        put_serves p c (input_with i (End c)) (h ++ []) k.written.items k2 next e
        (live_taken p c i (h ++ []) k.written.items next (End c) f.live record {
          leads = subst (λ (d : Deeds). Leads next i.bytes d k.written.items) (sym (append-nil h)) (n.0 i.bytes h k.written.items f.leads);
          ended = n.2;
          server = server_same s next n.1 ∙ f.server;
          seat_is = seat_same s next n.1 ∙ f.seat_is;
          live = f.live;
        });
  }

  go : (o : Option Session) → k.session ≡ o → MatchOption o (HasLeft p c i h k.written.items) (λ s. LeadsToSession p c i h k.written.items s)
      → MatchOption o (k2 ≡ k) (λ s. (next : Session) × Becomes k2 next k.written.items × HasInputEnded s next) → Moved p c (End c) i h first k2 last
  go None e f n = gone_moved p c (End c) i h k k2 first last tt e f n stays
  go (Some s) e f n = live s n.0 f n.1 n.2
