-- What a write makes of the books. No public clause cites this module.
use Rattle.std.specs.Prelude.{◌≡◌, ◌≢◌, ℕ, ◌+◌, ◌≤◌, true, List, [], ◌∷◌, string_bytes}
use Rattle.gs_term.specs.declared.names.Target.{Target}
use Rattle.gs_event.specs.Datasets.{with_graph, without_graph, size_at}
use Rattle.gs_event.specs.Conditions.{with_write, with_delete}
use Rattle.gs_event.specs.Born.{Leave}
use Rattle.gs_event.specs.Wasting.{Joins, EndsAt, CommitRecords, DeleteRecords}
use Rattle.gs_pool.specs.Pool.{aside_count}
use Rattle.gs_keys.specs.Roots.{graph_of_root}
use Rattle.gs_tree.specs.Tree.{Tree, tree_at}
use Rattle.gs_catalogue.specs.declared.versions.GraphVersion.{GraphVersion}
use Rattle.gs_versions.specs.Pins.{at_commit}
use Rattle.gs_commit.specs.Commits.{KeepsDraftAll, DropsAll}
use Rattle.gs_ledger.specs.Entries.{tree_births}
use Rattle.gs_ledger.specs.Marks.{waste_at}
use Rattle.gs_records.specs.Waste.{waste_in}
use Rattle.gs_records.specs.Calls.{KeepsCounts, UsesOne, GivesUp, MakesCurrent}
use Rattle.gs_quads.specs.Laws.{HasSame}
use Rattle.gs_datasets.specs.Standing.{IsVersion}
use Rattle.gs_tree_store.specs.declared.books.Books.{Books}
use Rattle.gs_tree_store.specs.Books.{totals_of, dataset_of, IsSound, HasLedger}
use Rattle.gs_tree_store.specs.Births.{graph_births}
use Rattle.gs_tree_store.specs.LastWrites.{last_writes_of, by_target}
use Rattle.gs_tree_store.specs.Opened.{LetsGo, SameOpened}

-- some trees of the seats have a ledger with the books
pub record HasAny (b : Books) : Type 0 where
  pub uploads : List Tree
  pub reads : List (List Tree)
  pub ledger : HasLedger b uploads reads

-- an upload is the version of a graph, and some trees of the other seats have a ledger with it
pub record HasUpload (b : Books) (v : GraphVersion) : Type 0 where
  pub version : IsVersion b.dict.terms b.pool v
  pub uploads : List Tree
  pub reads : List (List Tree)
  pub ledger : HasLedger b (tree_at b.pool v.root ∷ uploads) reads

-- what is kept of the books by a write: all but the dataset, the nodes' marks, the commit number and those of last writes
pub record KeepsBooks (old new : Books) : Type 0 where
  pub base : string_bytes new.base ≡ string_bytes old.base
  pub limits : new.limits ≡ old.limits
  pub request : new.request ≡ old.request
  pub commit : new.versions.commit ≡ old.versions.commit + 1
  pub pins : new.versions.seats ≡ old.versions.seats
  pub dict : new.dict ≡ old.dict
  pub nodes : new.pool.nodes ≡ old.pool.nodes

-- the graph of the target has these births now, and each other graph has those that it had
pub record SetsBirths (old new : Books) (t : Target) (births : List ℕ) : Type 0 where
  pub own : graph_births new t ≡ births
  pub others : (u : Target) → u ≢ t → graph_births new u ≡ graph_births old u

-- the ledger goes on, and at most so many nodes, which a version had, join the waste by this commit, with these births
pub record EndsOneVersion (old new : Books) (size : ℕ) (births : List ℕ) (uploads : List Tree) (reads : List (List Tree)) : Type 0 where
  pub ledger : HasLedger new uploads reads
  pub waste : Joins (EndsAt (old.versions.commit + 1)) size (waste_at old.pool) (waste_at new.pool)
  pub leave : Leave old.versions.commit births (waste_at old.pool) (waste_at new.pool)

-- the target has the upload's graph now, and the upload is no more, whose record had number n
pub record Puts (old new : Books) (n : ℕ) (t : Target) (v : GraphVersion) : Type 0 where
  pub dataset : dataset_of new ≡ with_graph (dataset_of old) t (graph_of_root old.dict.terms old.pool v.root)
  pub last_writes : last_writes_of new ≡ with_write (last_writes_of old) (old.versions.commit + 1) t
  pub kept : KeepsBooks old new
  pub sound : IsSound new
  pub ledgers : (uploads : List Tree) (reads : List (List Tree)) → HasLedger old (tree_at old.pool v.root ∷ uploads) reads → EndsOneVersion old new (size_at (dataset_of old) t) (graph_births old t) uploads reads
  pub births : SetsBirths old new t (tree_births (tree_at old.pool v.root))
  pub lets_go : LetsGo old new n
  pub same : (w : ℕ) → w ≤ old.versions.commit → HasSame w old.records new.records
  pub counts : UsesOne old.records.records new.records.records
  pub waste : CommitRecords (totals_of old) t (graph_of_root old.dict.terms old.pool v.root) (waste_in old.records.records) (waste_in new.records.records)

-- the target has no graph now, or an empty one where it is the default graph
pub record Removes (old new : Books) (t : Target) : Type 0 where
  pub dataset : dataset_of new ≡ without_graph (dataset_of old) t
  pub last_writes : last_writes_of new ≡ with_delete (last_writes_of old) (old.versions.commit + 1) t
  pub kept : KeepsBooks old new
  pub sound : IsSound new
  pub ledgers : (uploads : List Tree) (reads : List (List Tree)) → HasLedger old uploads reads → EndsOneVersion old new (size_at (dataset_of old) t) (graph_births old t) uploads reads
  pub births : SetsBirths old new t []
  pub same_opened : SameOpened old new
  pub same : (w : ℕ) → w ≤ old.versions.commit → HasSame w old.records new.records
  pub counts : KeepsCounts old.records.records new.records.records
  pub waste : DeleteRecords (totals_of old) t true (waste_in old.records.records) (waste_in new.records.records)

-- The draft v, made of the target's tree, is kept by the commit of this number, and the open record n is that of it. What it replaced is
-- dead, and nothing else of the books changes.
pub record StoresDraft (old new : Books) (n : ℕ) (t : Target) (v : GraphVersion) (number : ℕ) : Type 0 where
  pub is : new ≡ record old { pool = new.pool; versions = new.versions; records = new.records; default_write = by_target t number old.default_write }
  pub ledgers : KeepsDraftAll old.versions new.versions old.pool new.pool
  pub commit : new.versions ≡ at_commit old.versions (old.versions.commit + 1)
  pub nodes : new.pool.nodes ≡ old.pool.nodes
  pub aside : aside_count new.pool ≡ 0
  pub puts : MakesCurrent old.records new.records n t v number

-- The upload v is dropped, and the open record n is given up. Nothing else of the books changes.
pub record GivesUpUpload (old new : Books) (n : ℕ) (v : GraphVersion) : Type 0 where
  pub is : new ≡ record old { pool = new.pool; records = new.records }
  pub ledgers : DropsAll old.pool new.pool v.root
  pub nodes : new.pool.nodes ≡ old.pool.nodes
  pub aside : aside_count new.pool ≡ aside_count old.pool
  pub gives : GivesUp old.records new.records n
