-- Connections one after the other, and what they are to records in place of doors.
use Rattle.std.proofs.Common.{◌≡◌, ℕ, zero, suc, ◌+◌, List, [], ◌∷◌, Option, ◌⊎◌, inl, inr, Result, Ok, Err, refl, sym, ap, ◌∙◌, subst, arith}
use Rattle.std.specs.Prelude.{OnOk, OnErr}
use Rattle.gs_event.specs.declared.events.Event.{Event}
use Rattle.gs_event.specs.declared.answers.Answer.{Answer}
use Rattle.gs_talk.specs.Logs.{Server}
use Rattle.gs_talk.specs.Seats.{Deeds}
use Rattle.gs_session.specs.Turns.{Ran}
use Rattle.gs_session.specs.Connections.{Connection, IsFinished, Quit}
use Rattle.gs_pass.specs.declared.records.Record.{Record}
use Rattle.gs_workers.specs.Attends.{ServesOne, ServesMany}
use Rattle.gs_gates.specs.Records.{told}
use Rattle.gs_gates.proofs.SweepLemmas.{Shows}

-- a call ended in one of two ways
pub either_end : {A E X Y : Type 0} (r : Result A E) → OnOk r X → OnErr r Y → X ⊎ Y
either_end (Ok a) x y = inl x
either_end (Err e) x y = inr y

-- some connections and then some more
pub serves_append : {D : Type 0} (p : Server) (gives : D → Event → Answer → D → Type 0) (seat m n : ℕ) (a b c : D)
    → ServesMany p gives seat m a b → ServesMany p gives seat n b c → (k : ℕ) × ServesMany p gives seat k a c
serves_append p gives seat m zero a b c first rest = (m, subst (ServesMany p gives seat m a) (sym rest) first)
serves_append p gives seat m (suc n) a b c first rest =
    let before = serves_append p gives seat m n a b rest.0 first rest.1 in
    let all : ServesMany p gives seat (suc before.0) a c = (rest.0, before.1, rest.2) in
    (suc before.0, all)

-- what was done at the door was done at what it shows
pub ran_shown : {D E : Type 0} (f : D → E) (gives : D → Event → Answer → D → Type 0) (shown : E → Event → Answer → E → Type 0) → Shows f gives shown
    → (seat : ℕ) (old new : D) (h : Deeds) → Ran gives seat old h new → Ran shown seat (f old) h (f new)
ran_shown f gives shown s seat old new [] ran = ap f ran
ran_shown f gives shown s seat old new (d ∷ ds) ran =
    (f ran.0, (s.to old _ _ ran.0 ran.1.0, ran.1.1), ran_shown f gives shown s seat ran.0 new ds ran.2)

-- a connection at the door is one at what it shows
pub connection_shown : {D E : Type 0} (f : D → E) (gives : D → Event → Answer → D → Type 0) (shown : E → Event → Answer → E → Type 0) → Shows f gives shown
    → (seat : ℕ) (unread left held holds : Option (List ℕ)) (old new : D) (Holds : List ℕ → Deeds → List ℕ → Type 0)
    → Connection gives seat unread left held holds old new Holds → Connection shown seat unread left held holds (f old) (f new) Holds
connection_shown f gives shown s seat unread left held holds old new Holds c = record {
  x = c.x;
  h = c.h;
  w = c.w;
  read = c.read;
  written = c.written;
  ran = ran_shown f gives shown s seat old new c.h c.ran;
  fact = c.fact;
}

-- so are both kinds of end
pub serves_shown : {D E : Type 0} (f : D → E) (gives : D → Event → Answer → D → Type 0) (shown : E → Event → Answer → E → Type 0) → Shows f gives shown
    → (p : Server) (seat : ℕ) (old new : D) → ServesOne p gives seat old new → ServesOne p shown seat (f old) (f new)
serves_shown f gives shown s p seat old new (unread, left, held, holds, inl done) =
    (unread, left, held, holds, inl (connection_shown f gives shown s seat unread left held holds old new (IsFinished p left) done))
serves_shown f gives shown s p seat old new (unread, left, held, holds, inr quit) =
    (unread, left, held, holds, inr (connection_shown f gives shown s seat unread left held holds old new (Quit p left) quit))

-- and many
pub serves_many_shown : {D E : Type 0} (new : D) (f : D → E) (gives : D → Event → Answer → D → Type 0) (shown : E → Event → Answer → E → Type 0) → Shows f gives shown
    → (p : Server) (seat n : ℕ) (old : D) → ServesMany p gives seat n old new → ServesMany p shown seat n (f old) (f new)
serves_many_shown new f gives shown s p seat zero old many = ap f many
serves_many_shown new f gives shown s p seat (suc n) old many =
    (f many.0, serves_many_shown many.0 f gives shown s p seat n old many.1, serves_shown f gives shown s p seat many.0 new many.2)

-- a pass keeps its seat
ran_seat : (seat : ℕ) (r s : Record) (h : Deeds) → Ran told seat r h s → s.seat ≡ r.seat
ran_seat seat r s [] ran = ap (λ (x : Record). x.seat) ran
ran_seat seat r s (d ∷ ds) ran = ran_seat seat ran.0 s ds ran.2 ∙ ran.1.0.1.0

serves_seat : (p : Server) (seat : ℕ) (r s : Record) → ServesOne p told seat r s → s.seat ≡ r.seat
serves_seat p seat r s (unread, left, held, holds, inl done) = ran_seat seat r s done.h done.ran
serves_seat p seat r s (unread, left, held, holds, inr quit) = ran_seat seat r s quit.h quit.ran

-- also over many connections
pub serves_many_seat : (p : Server) (seat n : ℕ) (r s : Record) → ServesMany p told seat n r s → s.seat ≡ r.seat
serves_many_seat p seat zero r s many = ap (λ (x : Record). x.seat) many
serves_many_seat p seat (suc n) r s many = serves_seat p seat many.0 s many.2 ∙ serves_many_seat p seat n r many.0 many.1
