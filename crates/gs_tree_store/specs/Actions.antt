-- What an action makes of the books and of its seat. No public clause cites this module.
use Rattle.std.specs.Prelude.{◌≡◌, ℕ, ◌+◌, nat_eq, List, None, slice_index_or}
use Rattle.std.specs.List.{slice_set}
use Rattle.gs_model.specs.Graphs.{size_of, with_triples}
use Rattle.gs_event.specs.declared.events.Action.{Action}
use Rattle.gs_event.specs.declared.events.Action.TheVariants.{Stage, Commit, CommitPatch}
use Rattle.gs_event.specs.declared.events.UploadKind.TheVariants.{Post}
use Rattle.gs_event.specs.declared.answers.Answer.{Answer}
use Rattle.gs_event.specs.declared.answers.Answer.TheVariants.{Staged, Status}
use Rattle.gs_event.specs.Operations.{is_success}
use Rattle.gs_event.specs.Phases.{Writing}
use Rattle.gs_event.specs.Views.{SeatView, FitsSeat, next_totals, next_phase}
use Rattle.gs_event.specs.Born.{Bearing, Bears}
use Rattle.gs_event.specs.Wasting.{WastesNodes}
use Rattle.gs_event.specs.Steps.{pin_after}
use Rattle.gs_pool.specs.Pool.{in_use}
use Rattle.gs_tree.specs.Tree.{Tree}
use Rattle.gs_staging.specs.Keys.{Grows}
use Rattle.gs_ledger.specs.Marks.{waste_at}
use Rattle.gs_tree_store.specs.declared.books.Books.{Books}
use Rattle.gs_tree_store.specs.declared.books.Seat.{Seat}
use Rattle.gs_tree_store.specs.Uses.{SameUnless, PostUses}
use Rattle.gs_tree_store.specs.Books.{totals_of, seat_view_by, read_trees, IsSeat, HasItsVersion, IsSound, IsReady, HasLedgerAt}
use Rattle.gs_tree_store.specs.Births.{graph_births, upload_births}

-- What a seat's action that was answered so makes of the number of nodes in use: what it makes of that of nodes and records, but that an
-- Open takes no node.
abbrev pub TakesNodes : SeatView → Action → Answer → ℕ → ℕ → Type 0
TakesNodes (Writing k r g since) (Stage ts) Staged old new = new + size_of g ≡ old + size_of (with_triples g ts.items)
TakesNodes (Writing (Post t) r g since) Commit (Status status name number) old new = PostUses (nat_eq status 412) (nat_eq status 507) (size_of g) old new
TakesNodes p (CommitPatch ops) (Status status name number) old new = SameUnless (is_success status) old new
TakesNodes p action a old new = new ≡ old

-- where there was a ledger with the trees of the other seats, there is one still, and the waste of nodes is what the action makes of it
pub record GoesOn (old new : Books) (s : ℕ) (was now : Seat) (action : Action) (answer : Answer) (uploads : List Tree) (reads : List (List Tree)) : Type 0 where
  pub ledger : HasLedgerAt new s now uploads (slice_set reads s (read_trees new.pool new.records now))
  pub waste : WastesNodes (totals_of old) (seat_view_by old was) action answer (waste_at old.pool) (waste_at new.pool)

-- that is so whatever trees the other seats have
abbrev pub GoesOnAll : Books → Books → ℕ → Seat → Seat → Action → Answer → Type 0
GoesOnAll old new s was now action answer =
    (uploads : List Tree) (reads : List (List Tree)) → HasLedgerAt old s was uploads reads → GoesOn old new s was now action answer uploads reads

-- the births of graphs and of the seat's upload, and the waste of nodes, before an action and after it
abbrev pub bearing_by : Books → Books → Seat → Seat → Bearing
bearing_by old new was now = record {
  graphs = graph_births old;
  graphs_then = graph_births new;
  own = upload_births old was;
  own_then = upload_births new now;
  waste = waste_at old.pool;
  waste_then = waste_at new.pool;
}

-- what an action of seat s that was answered so made of the books and of the seat
pub record Acts (old new : Books) (s : ℕ) (was now : Seat) (action : Action) (answer : Answer) : Type 0 where
  pub fits : FitsSeat (totals_of old) (seat_view_by old was) action answer
  pub totals : totals_of new ≡ next_totals (totals_of old) (seat_view_by old was) action answer
  pub seat : seat_view_by new now ≡ next_phase (totals_of old) (seat_view_by old was) action answer
  pub pins : new.versions.seats ≡ slice_set old.versions.seats s (pin_after old.versions.commit (slice_index_or old.versions.seats s None) action answer)
  pub sound : IsSound new
  pub known : IsSeat new.dict.terms new.pool new.records now
  pub version : HasItsVersion (pin_after old.versions.commit (slice_index_or old.versions.seats s None) action answer) now
  pub grows : Grows old.dict new.dict
  pub ledgers : GoesOnAll old new s was now action answer
  pub takes : TakesNodes (seat_view_by old was) action answer (in_use old.pool) (in_use new.pool)
  pub born : Bears (totals_of old) (seat_view_by old was) action answer (bearing_by old new was now)

-- there is a seat that the books are ready for
pub record IsReadyAny (b : Books) (seat : Seat) : Type 0 where
  pub number : ℕ
  pub ready : IsReady b number seat

-- the action made that, whichever of the seats it was
abbrev pub ActsAny : Books → Books → Seat → Seat → Action → Answer → Type 0
ActsAny old new was now action answer = (s : ℕ) → IsReady old s was → Acts old new s was now action answer
