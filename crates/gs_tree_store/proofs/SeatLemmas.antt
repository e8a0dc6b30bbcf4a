-- What the actions of a seat share: what they show where no graph changes, and the ledger at the place of a seat.
use Rattle.std.proofs.Common.{◌≡◌, ℕ, ◌+◌, ◌<◌, ◌≤◌, false, List, [], ◌∷◌, length, get_or, set, Option, Some, None, is_some, refl, sym, ap, subst, ◌∙◌, arith, add-zero}
use Rattle.std.proofs.lemmas.List.{set-get_or, length-set, get_or-set_same}
use Rattle.gs_model.specs.Limits.{last_number}
use Rattle.gs_dict.specs.Numbering.{Numbered}
use Rattle.gs_pool.specs.Pool.{Nodes, aside_count}
use Rattle.gs_tree.specs.Tree.{Tree, leaf}
use Rattle.gs_staging.specs.Keys.{Grows}
use Rattle.gs_versions.specs.Pins.{Pins, with_pin}
use Rattle.gs_ledger.specs.Marks.{dead_at}
use Rattle.gs_ledger.specs.Ledger.{IsReadAt}
use Rattle.gs_ledger.proofs.PinSteps.{each_seat}
use Rattle.gs_datasets.specs.Standing.{all_versions, graph_trees, AreSameIn}
use Rattle.gs_datasets.proofs.Writing.{all_stay}
use Rattle.gs_tree_store.specs.declared.books.Books.{Books}
use Rattle.gs_tree_store.specs.declared.books.Seat.{Seat}
use Rattle.gs_tree_store.specs.declared.books.Seat.TheVariants.{Idle}
use Rattle.gs_tree_store.specs.LastWrites.{last_writes_of}
use Rattle.gs_tree_store.specs.Books.{graphs_of, books_setting, dataset_of, totals_of, upload_tree, read_trees, is_reading, IsSound, IsReady, HasLedger, HasLedgerAt}

-- a pin that is none
none_pinned : (o : Option ℕ) → is_some o ≡ false → o ≡ None
none_pinned None h = refl
none_pinned (Some n) h = cc

-- a seat that has no pin stays so
pub still_unpinned : (b : Books) (s : ℕ) (seat : Seat) → is_reading seat ≡ false → IsReady b s seat → b.versions.seats ≡ set b.versions.seats s None
still_unpinned b s seat none ready =
    sym (ap (set b.versions.seats s) (sym (none_pinned (get_or b.versions.seats s None) (ready.pinned ∙ none))) ∙ set-get_or b.versions.seats s None)

-- the totals where no graph changed and no number was given out
pub same_totals : (b c : Books) → books_setting c ≡ books_setting b → dataset_of c ≡ dataset_of b → c.request ≡ b.request → c.versions.commit ≡ b.versions.commit → last_writes_of c ≡ last_writes_of b
    → totals_of c ≡ record { setting = books_setting b; dataset = dataset_of b; request = b.request + 0; commit = b.versions.commit; last_writes = last_writes_of b }
same_totals b c setting dataset request commit writes =
    let asked : c.request ≡ b.request + 0 = request ∙ sym (add-zero b.request) in
    λ i. record { setting = setting i; dataset = dataset i; request = asked i; commit = commit i; last_writes = writes i }

-- the books are sound and have the dataset and the trees that they had
pub record SameGraphs (b c : Books) : Type 0 where
  pub dataset : dataset_of c ≡ dataset_of b
  pub trees : graph_trees c.pool (graphs_of c) ≡ graph_trees b.pool (graphs_of b)
  pub sound : IsSound c

-- that is so where each number that has a term keeps it, and each version has the tree that it had
pub same_graphs : (b : Books) (d : Numbered) (q : Nodes) (w : Pins) → IsSound b → Grows b.dict d → AreSameIn b.pool q (all_versions (graphs_of b)) → aside_count q ≡ 0 → w.commit ≡ b.versions.commit
    → SameGraphs b (record b { dict = d; pool = q; versions = w })
same_graphs b d q w sound grows same none commit =
    let g = graphs_of b in
    let kept = all_stay b.dict.terms d.terms grows.terms b.pool q g sound.versions same in
    record {
      dataset = kept.dataset;
      trees = kept.trees;
      sound = record {
        versions = kept.versions;
        none_aside = none;
        commit = subst (λ n. n ≤ last_number) (sym commit) sound.commit;
        latest = sound.latest ∙ sym commit;
        numbers = sound.numbers;
        base = sound.base;
        written = sound.written;
      };
    }

-- so they are with another pin
pub still_sound : (b : Books) (s : ℕ) (pin : Option ℕ) → IsSound b → IsSound (record b { versions = with_pin b.versions s pin })
still_sound b s pin sound = record { versions = sound.versions; none_aside = sound.none_aside; commit = sound.commit; latest = sound.latest; numbers = sound.numbers; base = sound.base; written = sound.written }

-- the ledger at a seat's place, where the trees there are those that the seat reads
pub ledger_stays : (c : Books) (s : ℕ) (now : Seat) (us : List Tree) (rs : List (List Tree)) → get_or rs s [] ≡ read_trees c.pool c.records now → s < length rs → HasLedger c (upload_tree c.pool now ∷ us) rs → HasLedgerAt c s now us (set rs s (read_trees c.pool c.records now))
ledger_stays c s now us rs read there l =
    let same : set rs s (read_trees c.pool c.records now) ≡ rs = ap (set rs s) (sym read) ∙ set-get_or rs s [] in
    record {
      ledger = subst (HasLedger c (upload_tree c.pool now ∷ us)) (sym same) l;
      there = subst (λ n. s < n) (sym (ap length same)) there;
      read = ap (λ ts. get_or ts s []) same ∙ read;
    }

-- the end of a read: nothing is pinned, and no tree is there
pub read_ends : (b : Books) (s : ℕ) (us : List Tree) (rs : List (List Tree)) → s < length b.versions.seats → s < length rs → HasLedger b (leaf ∷ us) rs → HasLedgerAt (record b { versions = with_pin b.versions s None }) s Idle us (set rs s [])
read_ends b s us rs there long k =
    let gs = graph_trees b.pool (graphs_of b) in
    record {
      ledger = record {
        once = k.once;
        marks = k.marks;
        current = k.current;
        staged = k.staged;
        waste = k.waste;
        read = each_seat (IsReadAt b.pool b.versions.commit gs (dead_at b.pool)) b.versions.seats rs s None [] there long k.read tt;
      };
      there = omega (arith, length-set rs s [], long);
      read = get_or-set_same rs s [] [] long;
    }
