-- The graph of an upload is of all that its seat staged.
use Rattle.std.proofs.Common.{◌≡◌, ◌⊎◌, inl, inr, ℕ, Bool, true, false, cond, nat_eq, List, [], ◌∷◌, ◌++◌, Option, Some, refl, sym, ap, ◌∙◌, subst, append-nil}
use Rattle.std.specs.FinMap as map
use Rattle.std.proofs.lemmas.Bool.{eqb-true, eq-eqb}
use Rattle.gs_model.specs.Triples.{RdfTriple}
use Rattle.gs_model.specs.Graphs.{Graph, graph_of, lines_of, triples_of, with_triples}
use Rattle.gs_model.proofs.GraphLemmas.{graph_of-triples_of}
use Rattle.gs_model.specs.declared.refusals.Refusal.TheVariants.{BadSeat}
use Rattle.gs_term.specs.declared.names.Target.TheVariants.{Named}
use Rattle.gs_event.specs.declared.events.UploadKind.{UploadKind}
use Rattle.gs_event.specs.declared.events.UploadKind.TheVariants.{Put, Post, New}
use Rattle.gs_event.specs.declared.events.Action.{Action}
use Rattle.gs_event.specs.declared.events.Action.TheVariants.{Open, Stage, Commit, Cancel}
use Rattle.gs_event.specs.declared.events.Event.{Event}
use Rattle.gs_event.specs.declared.events.Event.TheVariants.{Seat as At, Reclaim}
use Rattle.gs_event.specs.declared.answers.Answer.{Answer}
use Rattle.gs_event.specs.declared.answers.Answer.TheVariants.{Opened, Staged, Status, Cancelled, Refused}
use Rattle.gs_event.specs.Datasets.{graph_at}
use Rattle.gs_event.specs.Operations.{united, is_success}
use Rattle.gs_event.specs.Phases.{Phase, Idle, Writing, Patching, Reading, write_of, operation_of}
use Rattle.gs_event.specs.Views.{Totals, FitsSeat}
use Rattle.gs_event.specs.Histories.{History, OpenRead, Start, IsLegal, phase_of, phase_by, seat_view, view_of, dataset_after}
use Rattle.gs_event.proofs.HistoryLemmas.{later}
use Rattle.gs_event.proofs.SizeLemmas.{turned}
use Rattle.gs_protocol_laws.specs.GivenUp.{ends_upload, LeavesUpload, LeaveUpload}
use Rattle.gs_protocol_laws.specs.ReadBack.{IsWrite, SpareSince, Shows}
use Rattle.gs_protocol_laws.specs.Uploads.{triples_brought, event_triples, triples_from, IsWholeUpload, before_commit, PutUploadsAreReadBack, PostUploadsAreReadBack, NewUploadsAreReadBack}
use Rattle.gs_protocol_laws.proofs.FitLemmas.{legal_before, fits_phase}
use Rattle.gs_protocol_laws.proofs.ReadBackLemmas.{puts_back, posts_back, creates_back}

-- the same triples before two lists of one graph
before_both : (ts xs ys : List RdfTriple) → graph_of xs ≡ graph_of ys → graph_of (ts ++ xs) ≡ graph_of (ts ++ ys)
before_both [] xs ys e = e
before_both (t ∷ ts) xs ys e = ap (λ g. map.insert g t tt) (before_both ts xs ys e)

-- triples that come to the graph of others make the graph of both
grown : (xs ts : List RdfTriple) → with_triples (graph_of xs) ts ≡ graph_of (xs ++ ts)
grown xs ts = turned (triples_of (graph_of xs)) ts ∙ before_both ts (triples_of (graph_of xs)) xs (graph_of-triples_of (graph_of xs)) ∙ turned ts xs

-- an upload of these triples
abbrev upload_of : UploadKind → ℕ → Option ℕ → List RdfTriple → Phase OpenRead
upload_of k r condition ts = Writing k r (graph_of ts) condition

none_more : (k : UploadKind) (r : ℕ) (condition : Option ℕ) (ts : List RdfTriple) → upload_of k r condition ts ≡ upload_of k r condition (ts ++ [])
none_more k r condition ts = ap (upload_of k r condition) (sym (append-nil ts))

-- one more action of its seat
goes_on : (h : History) (k : UploadKind) (r : ℕ) (condition : Option ℕ) (ts : List RdfTriple) (action : Action) (a : Answer) → ends_upload action a ≡ false
    → later h (upload_of k r condition ts) action a ≡ upload_of k r condition (ts ++ triples_brought action a)
goes_on h k r condition ts (Stage us) Staged e = ap (λ g. Writing k r g condition) (grown ts us.items)
goes_on h k r condition ts Commit (Status s name number) e = absurd (cc)
goes_on h k r condition ts Cancel Cancelled e = absurd (cc)
goes_on h k r condition ts action a e = none_more k r condition ts

-- one more event
one_more : (seat : ℕ) (h : History) (k : UploadKind) (r : ℕ) (condition : Option ℕ) (ts : List RdfTriple) (e : Event) (a : Answer) → phase_of h seat ≡ upload_of k r condition ts → LeavesUpload seat e a
    → phase_by h seat (phase_of h seat) e a ≡ upload_of k r condition (ts ++ event_triples seat e a)
one_more seat h k r condition ts (Reclaim n) a p l = p ∙ none_more k r condition ts
one_more seat h k r condition ts (At s action) a p l = go (nat_eq s seat) refl where
  go : (b : Bool) → nat_eq s seat ≡ b
      → cond (nat_eq s seat) (later h (phase_of h seat) action a) (phase_of h seat) ≡ upload_of k r condition (ts ++ cond (nat_eq s seat) (triples_brought action a) [])
  go true is =
      ap (λ b. cond b (later h (phase_of h seat) action a) (phase_of h seat)) is
      ∙ ap (λ q. later h q action a) p
      ∙ goes_on h k r condition ts action a (l (eqb-true s seat is))
      ∙ ap (λ b. upload_of k r condition (ts ++ cond b (triples_brought action a) [])) (sym is)
  go false is =
      ap (λ b. cond b (later h (phase_of h seat) action a) (phase_of h seat)) is
      ∙ p
      ∙ none_more k r condition ts
      ∙ ap (λ b. upload_of k r condition (ts ++ cond b (triples_brought action a) [])) (sym is)

-- an upload is opened where the seat is idle
open_fits : (v : Totals) (w : Start) (p : Phase OpenRead) (k : UploadKind) (condition : Option ℕ) (r : ℕ) → FitsSeat v (seat_view w p) (Open k condition) (Opened r) → p ≡ Idle
open_fits v w Idle k condition r f = refl
open_fits v w (Writing j n g since) k condition r f = absurd f
open_fits v w (Patching u n since) k condition r f = absurd f
open_fits v w (Reading left) k condition r f = absurd f

open_idle : (start : Start) (h : History) (seat : ℕ) (k : UploadKind) (condition : Option ℕ) (r : ℕ) → IsLegal start ((At seat (Open k condition), Opened r) ∷ h) → phase_of h seat ≡ Idle
open_idle start h seat k condition r legal = go (fits_phase start h seat (Open k condition) (Opened r) legal.1) where
  go : (Opened r ≡ Refused BadSeat) ⊎ FitsSeat (view_of start h).totals (seat_view start (phase_of h seat)) (Open k condition) (Opened r) → phase_of h seat ≡ Idle
  go (inl e) = absurd (cc)
  go (inr f) = open_fits (view_of start h).totals start (phase_of h seat) k condition r f

-- since it was opened
staged_since : (start : Start) (before since : History) (seat : ℕ) (k : UploadKind) (condition : Option ℕ) (r : ℕ) → IsLegal start (since ++ (At seat (Open k condition), Opened r) ∷ before)
    → LeaveUpload seat since → phase_of (since ++ (At seat (Open k condition), Opened r) ∷ before) seat ≡ upload_of k r condition (triples_from seat since)
staged_since start before [] seat k condition r legal l =
    ap (λ b. cond b (later before (phase_of before seat) (Open k condition) (Opened r)) (phase_of before seat)) (eq-eqb seat seat refl)
    ∙ ap (λ p. later before p (Open k condition) (Opened r)) (open_idle start before seat k condition r legal)
staged_since start before (x ∷ since) seat k condition r legal l =
    one_more seat (since ++ (At seat (Open k condition), Opened r) ∷ before) k r condition (triples_from seat since) x.0 x.1 (staged_since start before since seat k condition r legal.0 l.0) l.1

-- a commit asks for the write of all that was staged
commit_does : (start : Start) (before since : History) (seat : ℕ) (k : UploadKind) (condition : Option ℕ) (r s : ℕ) (name : Option (List ℕ)) (number : ℕ)
    → IsLegal start (since ++ (At seat (Open k condition), Opened r) ∷ before) → LeaveUpload seat since → is_success s ≡ true
    → IsWrite (since ++ (At seat (Open k condition), Opened r) ∷ before) (At seat Commit, Status s name number) (write_of k r (graph_of (triples_from seat since)))
commit_does start before since seat k condition r s name number legal l e = record {
  condition = condition;
  asks = ap (λ p. operation_of p Commit (Status s name number)) (staged_since start before since seat k condition r legal l);
  success = e;
}

-- what stands of an upload in a legal history: its commit, and the write that it asked for
record Stands (kind : UploadKind) (whole : History) (name : Option (List ℕ)) (g : Graph) : Type 0 where
  pub rest : History
  pub event : Event
  pub status : ℕ
  pub number : ℕ
  pub request : ℕ
  pub events : whole ≡ (event, Status status name number) ∷ rest
  pub does : IsWrite rest (event, Status status name number) (write_of kind request g)

stands : (start : Start) (before whole later : History) (seat : ℕ) (kind : UploadKind) (name : Option (List ℕ)) (g : Graph) → IsWholeUpload seat kind before whole name g
    → IsLegal start (later ++ whole) → Stands kind whole name g
stands start before whole later seat kind name g u legal =
    let sound : IsLegal start whole = legal_before start whole later legal in
    let parts = subst (IsLegal start) u.events sound in
    record {
      rest = u.since ++ (At seat (Open kind u.condition), Opened u.request) ∷ before;
      event = At seat Commit;
      status = u.status;
      number = u.number;
      request = u.request;
      events = u.events;
      does = subst (λ h. IsWrite (u.since ++ (At seat (Open kind u.condition), Opened u.request) ∷ before) (At seat Commit, Status u.status name u.number) (write_of kind u.request h)) (sym u.brought)
          (commit_does start before u.since seat kind u.condition u.request u.status name u.number parts.0 u.goes_on u.success);
    }

pub put_uploads : PutUploadsAreReadBack
put_uploads start before whole seat t name g u later legal s =
    let k = stands start before whole later seat (Put t) name g u legal in
    subst (λ h. IsLegal start (later ++ h) → SpareSince start t h later → Shows start (later ++ h) t 200 (lines_of g)) (sym k.events)
    (λ l z. puts_back start k.rest (k.event, Status k.status name k.number) t g later l k.does z) legal s

pub post_uploads : PostUploadsAreReadBack
post_uploads start before whole seat t name g u later legal s =
    let k = stands start before whole later seat (Post t) name g u legal in
    subst (λ h. IsLegal start (later ++ h) → SpareSince start t h later
    → Shows start (later ++ h) t 200 (lines_of (united (graph_at (dataset_after start (before_commit h)) t) g))) (sym k.events)
    (λ l z. posts_back start k.rest (k.event, Status k.status name k.number) t g later l k.does z) legal s

pub new_uploads : NewUploadsAreReadBack
new_uploads start before whole seat name g u later legal s =
    let k = stands start before whole later seat New (Some name) g u legal in
    subst (λ h. IsLegal start (later ++ h) → SpareSince start (Named name) h later → Shows start (later ++ h) (Named name) 200 (lines_of g)) (sym k.events)
    (λ l z. creates_back start k.rest (k.event, Status k.status (Some name) k.number) k.request g name refl later l k.does z) legal s
