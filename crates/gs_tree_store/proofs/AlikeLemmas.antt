-- Books whose records are others, with the same graphs of now.
use Rattle.std.proofs.Common.{◌≡◌, ℕ, [], ◌∷◌, set, sym, ap, subst, ◌∙◌}
use Rattle.std.specs.List.{All}
use Rattle.gs_event.specs.declared.events.Action.{Action}
use Rattle.gs_event.specs.declared.answers.Answer.{Answer}
use Rattle.gs_event.specs.Born.{Bears}
use Rattle.gs_tree.specs.Tree.{leaf}
use Rattle.gs_ledger.specs.Entries.{tree_births}
use Rattle.gs_ledger.specs.Marks.{dead_at, waste_at}
use Rattle.gs_ledger.specs.Ledger.{IsLedger}
use Rattle.gs_datasets.specs.Standing.{dataset_at, all_versions, graph_trees, target_tree, IsVersion}
use Rattle.gs_records.specs.Records.{Recorded}
use Rattle.gs_records.specs.Graphs.{current}
use Rattle.gs_records.specs.Births.{Births, births_of}
use Rattle.gs_records.specs.Calls.{GivesUp}
use Rattle.gs_tree_store.specs.declared.books.Books.{Books}
use Rattle.gs_tree_store.specs.declared.books.Seat.{Seat}
use Rattle.gs_tree_store.specs.declared.books.Seat.TheVariants.{Idle}
use Rattle.gs_tree_store.specs.LastWrites.{last_writes_of}
use Rattle.gs_tree_store.specs.Books.{books_setting, dataset_of, totals_of, seat_view_by, IsSound}
use Rattle.gs_tree_store.specs.Births.{graph_births, upload_births}
use Rattle.gs_tree_store.specs.Actions.{Acts}

-- the graphs of now, the commits that made their records and the last commit are the same
pub record SameNow (x y : Recorded) : Type 0 where
  pub graphs : current y.records ≡ current x.records
  pub latest : y.latest ≡ x.latest
  pub limit : y.limit ≡ x.limit
  pub births : births_of y.records ≡ births_of x.records

-- giving a record up leaves them
pub gives_up_same : (x y : Recorded) (n : ℕ) → GivesUp x y n → SameNow x y
gives_up_same x y n gives = record { graphs = gives.graphs.now; latest = gives.latest; limit = gives.limit; births = gives.graphs.births }

-- the books with other records
abbrev pub with_records : Books → Recorded → Books
with_records c r = record c { records = r }

module _ (c : Books) (r : Recorded) (same : SameNow c.records r) where
  pub alike_dataset : dataset_of (with_records c r) ≡ dataset_of c
  alike_dataset = ap (dataset_at c.dict.terms c.pool) same.graphs

  pub alike_writes : last_writes_of (with_records c r) ≡ last_writes_of c
  alike_writes = λ i. record { unnamed = c.default_write; named = (same.births i).named; removed = c.last_delete }

  pub alike_sound : IsSound c → IsSound (with_records c r)
  alike_sound sound = record {
    versions = subst (λ g. All (IsVersion c.dict.terms c.pool) (all_versions g)) (sym same.graphs) sound.versions;
    none_aside = sound.none_aside;
    commit = sound.commit;
    latest = same.latest ∙ sound.latest;
    numbers = same.limit ∙ sound.numbers;
    base = sound.base;
    written = λ n e. sound.written n (ap (λ (h : Births). h.unnamed) (sym same.births) ∙ e);
  }

  -- an action after which its seat is idle makes such books of others where it makes these of them
  pub acts_alike : (b : Books) (s : ℕ) (was : Seat) (action : Action) (answer : Answer) → Acts b c s was Idle action answer → Acts b (with_records c r) s was Idle action answer
  acts_alike b s was action answer acts = record {
    fits = acts.fits;
    totals = (λ i. record { setting = books_setting c; dataset = alike_dataset i; request = c.request; commit = c.versions.commit; last_writes = alike_writes i }) ∙ acts.totals;
    seat = acts.seat;
    pins = acts.pins;
    sound = alike_sound acts.sound;
    known = tt;
    version = tt;
    grows = acts.grows;
    ledgers = λ us rs l.
        let on = acts.ledgers us rs l in
        record {
          ledger = record {
            ledger = subst (λ g. IsLedger c.pool c.versions (graph_trees c.pool g) (leaf ∷ us) (set rs s []) (dead_at c.pool)) (sym same.graphs) on.ledger.ledger;
            there = on.ledger.there;
            read = on.ledger.read;
          };
          waste = on.waste;
        };
    takes = acts.takes;
    born = subst (λ x. Bears (totals_of b) (seat_view_by b was) action answer x)
        (λ i. record {
          graphs = graph_births b;
          graphs_then = λ u. tree_births (target_tree c.pool (sym same.graphs i) u);
          own = upload_births b was;
          own_then = [];
          waste = waste_at b.pool;
          waste_then = waste_at c.pool;
        })
        acts.born;
  }
