-- A patch that is open stays one of its target until it is committed or given up; and a DELETE is one of an idle seat.
use Rattle.std.proofs.Common.{◌≡◌, ◌⊎◌, inl, inr, ℕ, Bool, true, false, cond, nat_eq, List, [], ◌∷◌, ◌++◌, Option, Some, Vec, refl, sym, ap, ◌∙◌, subst}
use Rattle.std.specs.declared.alloc.Global.{Global}
use Rattle.std.proofs.lemmas.Bool.{eqb-true, eq-eqb}
use Rattle.gs_model.specs.Graphs.{lines_of}
use Rattle.gs_model.specs.declared.refusals.Refusal.TheVariants.{BadSeat}
use Rattle.gs_term.specs.declared.names.Target.{Target}
use Rattle.gs_event.specs.declared.updates.Op.{Op}
use Rattle.gs_event.specs.declared.events.Action.{Action}
use Rattle.gs_event.specs.declared.events.Action.TheVariants.{OpenPatch, CommitPatch, Delete, Cancel}
use Rattle.gs_event.specs.declared.events.Event.{Event}
use Rattle.gs_event.specs.declared.events.Event.TheVariants.{Seat as At, Reclaim}
use Rattle.gs_event.specs.declared.answers.Answer.{Answer}
use Rattle.gs_event.specs.declared.answers.Answer.TheVariants.{Opened, Status, Cancelled, Refused}
use Rattle.gs_event.specs.Updates.{patched}
use Rattle.gs_event.specs.Datasets.{graph_at}
use Rattle.gs_event.specs.Operations.{Patches, Deletes, is_success}
use Rattle.gs_event.specs.Conditions.{asked_since}
use Rattle.gs_event.specs.Phases.{Phase, Idle, Writing, Patching, Reading, operation_of}
use Rattle.gs_event.specs.Views.{Totals, FitsSeat}
use Rattle.gs_event.specs.Histories.{History, OpenRead, Start, IsLegal, phase_of, phase_by, seat_view, view_of, dataset_after}
use Rattle.gs_event.proofs.HistoryLemmas.{later}
use Rattle.gs_protocol_laws.specs.Writes.{status_without}
use Rattle.gs_protocol_laws.specs.ReadBack.{SpareSince, Shows, IsWrite}
use Rattle.gs_protocol_laws.specs.GivenUp.{ends_upload, LeavesUpload, LeaveUpload}
use Rattle.gs_protocol_laws.specs.Patches.{WholePatchesAreReadBack, WholeDeletesAreReadBack}
use Rattle.gs_protocol_laws.proofs.FitLemmas.{legal_before, fits_phase}
use Rattle.gs_protocol_laws.proofs.ReadBackLemmas.{patches_back, deletes_back}

-- one more action of its seat
goes_on : (h : History) (t : Target) (r : ℕ) (since : Option ℕ) (action : Action) (a : Answer) → ends_upload action a ≡ false → later h (Patching t r since) action a ≡ Patching t r since
goes_on h t r since (CommitPatch ops) (Status s name number) e = absurd (cc)
goes_on h t r since Cancel Cancelled e = absurd (cc)
goes_on h t r since action a e = refl

-- one more event
one_more : (seat : ℕ) (h : History) (t : Target) (r : ℕ) (since : Option ℕ) (e : Event) (a : Answer) → phase_of h seat ≡ Patching t r since → LeavesUpload seat e a
    → phase_by h seat (phase_of h seat) e a ≡ Patching t r since
one_more seat h t r since (Reclaim n) a p l = p
one_more seat h t r since (At s action) a p l = go (nat_eq s seat) refl where
  go : (b : Bool) → nat_eq s seat ≡ b → cond (nat_eq s seat) (later h (phase_of h seat) action a) (phase_of h seat) ≡ Patching t r since
  go true is =
      ap (λ b. cond b (later h (phase_of h seat) action a) (phase_of h seat)) is
      ∙ ap (λ q. later h q action a) p
      ∙ goes_on h t r since action a (l (eqb-true s seat is))
  go false is = ap (λ b. cond b (later h (phase_of h seat) action a) (phase_of h seat)) is ∙ p

-- a patch is opened where the seat is idle
open_fits : (v : Totals) (w : Start) (p : Phase OpenRead) (t : Target) (condition : Option ℕ) (r : ℕ) → FitsSeat v (seat_view w p) (OpenPatch t condition) (Opened r) → p ≡ Idle
open_fits v w Idle t condition r f = refl
open_fits v w (Writing j n g since) t condition r f = absurd f
open_fits v w (Patching u n since) t condition r f = absurd f
open_fits v w (Reading left) t condition r f = absurd f

open_idle : (start : Start) (h : History) (seat : ℕ) (t : Target) (condition : Option ℕ) (r : ℕ) → IsLegal start ((At seat (OpenPatch t condition), Opened r) ∷ h) → phase_of h seat ≡ Idle
open_idle start h seat t condition r legal = go (fits_phase start h seat (OpenPatch t condition) (Opened r) legal.1) where
  go : (Opened r ≡ Refused BadSeat) ⊎ FitsSeat (view_of start h).totals (seat_view start (phase_of h seat)) (OpenPatch t condition) (Opened r) → phase_of h seat ≡ Idle
  go (inl e) = absurd (cc)
  go (inr f) = open_fits (view_of start h).totals start (phase_of h seat) t condition r f

-- since it was opened
open_since : (start : Start) (before since : History) (seat : ℕ) (t : Target) (condition : Option ℕ) (r : ℕ) → IsLegal start (since ++ (At seat (OpenPatch t condition), Opened r) ∷ before)
    → LeaveUpload seat since → phase_of (since ++ (At seat (OpenPatch t condition), Opened r) ∷ before) seat ≡ Patching t r condition
open_since start before [] seat t condition r legal l =
    ap (λ b. cond b (later before (phase_of before seat) (OpenPatch t condition) (Opened r)) (phase_of before seat)) (eq-eqb seat seat refl)
    ∙ ap (λ p. later before p (OpenPatch t condition) (Opened r)) (open_idle start before seat t condition r legal)
open_since start before (x ∷ since) seat t condition r legal l =
    one_more seat (since ++ (At seat (OpenPatch t condition), Opened r) ∷ before) t r condition x.0 x.1 (open_since start before since seat t condition r legal.0 l.0) l.1

-- a commit asks for the patch
commit_does : (start : Start) (h before since : History) (seat : ℕ) (t : Target) (condition : Option ℕ) (r s : ℕ) (name : Option (List ℕ)) (number : ℕ) (ops : Vec Op Global)
    → h ≡ since ++ (At seat (OpenPatch t condition), Opened r) ∷ before → IsLegal start h → LeaveUpload seat since → is_success s ≡ true
    → IsWrite h (At seat (CommitPatch ops), Status s name number) (Patches t ops.items)
commit_does start h before since seat t condition r s name number ops is legal l e = record {
  condition = condition;
  asks = ap (λ p. operation_of p (CommitPatch ops) (Status s name number))
      (ap (λ k. phase_of k seat) is ∙ open_since start before since seat t condition r (subst (IsLegal start) is legal) l);
  success = e;
}

-- a DELETE of an idle seat
delete_fits : (v : Totals) (w : Start) (p : Phase OpenRead) (t : Target) (condition : Option ℕ) (s : ℕ) (name : Option (List ℕ)) (number : ℕ) → FitsSeat v (seat_view w p) (Delete t condition) (Status s name number)
    → operation_of p (Delete t condition) (Status s name number) ≡ Some (asked_since condition (Deletes t))
delete_fits v w Idle t condition s name number f = refl
delete_fits v w (Writing k n g since) t condition s name number f = absurd f
delete_fits v w (Patching u n since) t condition s name number f = absurd f
delete_fits v w (Reading left) t condition s name number f = absurd f

delete_does : (start : Start) (h : History) (seat : ℕ) (t : Target) (condition : Option ℕ) (s : ℕ) (name : Option (List ℕ)) (number : ℕ)
    → IsLegal start ((At seat (Delete t condition), Status s name number) ∷ h) → is_success s ≡ true → IsWrite h (At seat (Delete t condition), Status s name number) (Deletes t)
delete_does start h seat t condition s name number legal e =
    record { condition = condition; asks = go (fits_phase start h seat (Delete t condition) (Status s name number) legal.1); success = e }
  where
    go : (Status s name number ≡ Refused BadSeat) ⊎ FitsSeat (view_of start h).totals (seat_view start (phase_of h seat)) (Delete t condition) (Status s name number)
        → operation_of (phase_of h seat) (Delete t condition) (Status s name number) ≡ Some (asked_since condition (Deletes t))
    go (inl k) = absurd (cc)
    go (inr f) = delete_fits (view_of start h).totals start (phase_of h seat) t condition s name number f

pub whole_patches : WholePatchesAreReadBack
whole_patches start before whole later seat t ops u legal s =
    let sound = subst (IsLegal start) u.events (legal_before start whole later legal) in
    let does = commit_does start before u.before u.since seat t u.condition u.request u.status u.name u.number ops u.opened sound.0 u.goes_on u.success in
    subst (λ h. IsLegal start (later ++ h) → SpareSince start t h later
    → Shows start (later ++ h) t 200 (lines_of (patched (graph_at (dataset_after start before) t) ops.items))) (sym u.events)
    (λ l z. patches_back start before (At seat (CommitPatch ops), Status u.status u.name u.number) t ops.items later l does z) legal s

pub whole_deletes : WholeDeletesAreReadBack
whole_deletes start before whole later seat t u legal s =
    let sound = subst (IsLegal start) u.events (legal_before start whole later legal) in
    let does = delete_does start before seat t u.condition u.status u.name u.number sound u.success in
    subst (λ h. IsLegal start (later ++ h) → SpareSince start t h later → Shows start (later ++ h) t (status_without t) []) (sym u.events)
    (λ l z. deletes_back start before (At seat (Delete t u.condition), Status u.status u.name u.number) t later l does z) legal s
