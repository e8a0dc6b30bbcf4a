-- What the calls of connections and of worlds give, by what sessions, lists and the store gave.
use Rattle.std.proofs.Common.{◌≡◌, ◌≤◌, ◌<◌, arith, ℕ, zero, suc, if◌then◌else◌, List, [], ◌∷◌, ◌++◌, length, Vec, Option, Some, None, MatchOption, Result, Ok, Err, OnOk, OnErr, is_ok, refl, sym, ap, subst, ◌∙◌, append-nil}
use Rattle.std.specs.declared.alloc.Global.{Global}
use Rattle.std.specs.declared.alloc.AllocError.{AllocError}
use Rattle.std.specs.List.{slice_get, slice_set, slice_index_or}
use Rattle.gs_event.specs.Waste.{Shown}
use Rattle.gs_session.specs.declared.sessions.Session.{Session}
use Rattle.gs_session.specs.declared.sessions.Turn as turn
use Rattle.gs_session.specs.declared.sessions.Turn.TheVariants.{NeedInput, Made, Output, Over}
use Rattle.gs_world.specs.declared.connections.Connection.{Connection}
use Rattle.gs_world.specs.declared.worlds.World.{World}
use Rattle.gs_world.specs.Walks.{turn_text, BytesCame, HasInputEnded, TakesTurn, Gets, InputEnds, MovesOn, CannotWrite, ChangesOne, LeavesSeat, IsGivenUp}

-- a connection that was not given up

if_live : (o : Option Session) (s : Session) (Gone : Type 0) (Holds : Session → Type 0) → o ≡ Some s → Holds s → MatchOption o Gone Holds
if_live o s Gone Holds e h = subst (λ (q : Option Session). MatchOption q Gone Holds) (sym e) h

pub gets_live : (k : Connection) (s next : Session) (b : List ℕ) → k.session ≡ Some s → BytesCame b s next → Gets b k (record { session = Some next; written = k.written })
gets_live k s next b e g = if_live k.session s _ _ e (next, (refl, refl), g)

pub ends_live : (k : Connection) (s next : Session) → k.session ≡ Some s → HasInputEnded s next → InputEnds k (record { session = Some next; written = k.written })
ends_live k s next e g = if_live k.session s _ _ e (next, (refl, refl), g)

moves_live : (k : Connection) (s next : Session) (v : Vec ℕ Global) (t : turn.Turn) (first last : Shown) → k.session ≡ Some s → v.items ≡ k.written.items ++ turn_text t
    → TakesTurn s first t next last → MovesOn k first (record { session = Some next; written = v }) last
moves_live k s next v t first last e w g = if_live k.session s _ _ e (t, next, (refl, w), g)

silent_text : (t : turn.Turn) → ((b : Vec ℕ Global) → t ≡ Output b → ⊥) → turn_text t ≡ []
silent_text NeedInput n = refl
silent_text Made n = refl
silent_text (Output b) n = absurd (n b refl)
silent_text Over n = refl

-- a turn without a text
pub moves_silent : (k : Connection) (s next : Session) (t : turn.Turn) (first last : Shown) → k.session ≡ Some s → ((b : Vec ℕ Global) → t ≡ Output b → ⊥)
    → TakesTurn s first t next last → MovesOn k first (record { session = Some next; written = k.written }) last
moves_silent k s next t first last e n g =
    moves_live k s next k.written t first last e (sym (append-nil k.written.items) ∙ ap (λ (z : List ℕ). k.written.items ++ z) (sym (silent_text t n))) g

-- one whose text is written
pub moves_text : {U : Type 0} (r : Result U AllocError) (k : Connection) (s next : Session) (v b : Vec ℕ Global) (text : List ℕ) (first last : Shown) → k.session ≡ Some s
    → v.items ≡ (if is_ok r then k.written.items ++ text else k.written.items) → text ≡ b.items → TakesTurn s first (Output b) next last
    → OnOk r (MovesOn k first (record { session = Some next; written = v }) last)
moves_text (Ok u) k s next v b text first last e w same g = moves_live k s next v (Output b) first last e (w ∙ ap (λ (z : List ℕ). k.written.items ++ z) same) g
moves_text (Err u) k s next v b text first last e w same g = tt

-- one for whose text there was no room
pub stops_text : {U : Type 0} (r : Result U AllocError) (k : Connection) (s next : Session) (v b : Vec ℕ Global) (text : List ℕ) (first last : Shown) → k.session ≡ Some s
    → v.items ≡ (if is_ok r then k.written.items ++ text else k.written.items) → TakesTurn s first (Output b) next last
    → OnErr r (CannotWrite k first (record { session = Some next; written = v }) last)
stops_text (Ok u) k s next v b text first last e w g = tt
stops_text (Err u) k s next v b text first last e w g = (s, e, b, next, (refl, w), g)

-- places of a list

pub got : {X : Type 0} (xs : List X) (i : ℕ) (x : X) → i < length xs → x ≡ slice_index_or xs i x → slice_get xs i ≡ Some x
got [] i x l e = absurd (omega (arith, l))
got (z ∷ zs) zero x l e = ap Some (sym e)
got (z ∷ zs) (suc i) x l e = got zs i x (omega (arith, l)) e

pub past_end : {X : Type 0} (xs : List X) (i : ℕ) → length xs ≤ i → slice_get xs i ≡ None
past_end [] i l = refl
past_end (z ∷ zs) zero l = absurd (omega (arith, l))
past_end (z ∷ zs) (suc i) l = past_end zs i (omega (arith, l))

-- a connection that is there, and one that is not

pub changes_there : (c : ℕ) (w w2 : World) (k k2 : Connection) (Holds : Connection → Shown → Connection → Shown → Type 0) → c < length w.connections.items
    → k ≡ slice_index_or w.connections.items c k → w2.connections.items ≡ slice_set w.connections.items c k2 → Holds k w.store k2 w2.store → ChangesOne c w w2 Holds
changes_there c w w2 k k2 Holds l e set h =
    subst (λ (o : Option Connection). MatchOption o (w2 ≡ w) (λ k. (k2 : Connection) × (w2.connections.items ≡ slice_set w.connections.items c k2) × Holds k w.store k2 w2.store))
    (sym (got w.connections.items c k l e)) (k2, set, h)

pub changes_absent : (c : ℕ) (w w2 : World) (Holds : Connection → Shown → Connection → Shown → Type 0) → length w.connections.items ≤ c → w2 ≡ w → ChangesOne c w w2 Holds
changes_absent c w w2 Holds l same =
    subst (λ (o : Option Connection). MatchOption o (w2 ≡ w) (λ k. (k2 : Connection) × (w2.connections.items ≡ slice_set w.connections.items c k2) × Holds k w.store k2 w2.store))
    (sym (past_end w.connections.items c l)) same

pub on_ok : {T E P Q : Type 0} (r : Result T E) → (P → Q) → OnOk r P → OnOk r Q
on_ok (Ok v) f h = f h
on_ok (Err e) f h = tt

pub on_err : {T E P Q : Type 0} (r : Result T E) → (P → Q) → OnErr r P → OnErr r Q
on_err (Ok v) f h = tt
on_err (Err e) f h = f h

pub always_err : {T E P : Type 0} (r : Result T E) → P → OnErr r P
always_err (Ok v) h = tt
always_err (Err e) h = h

-- a connection that is given up
pub gives_up : (c : ℕ) (w w2 : World) (k k2 : Connection) (Holds : Connection → Shown → Type 0) → c < length w.connections.items
    → k ≡ slice_index_or w.connections.items c k → w2.connections.items ≡ slice_set w.connections.items c k2 → Holds k w.store → LeavesSeat k w.store k2 w2.store
    → IsGivenUp c w w2 Holds
gives_up c w w2 k k2 Holds l e set h leaves = (k, got w.connections.items c k l e, h, changes_there c w w2 k k2 LeavesSeat l e set leaves)
