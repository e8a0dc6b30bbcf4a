-- What a pin of all graphs, and a piece of such a read, make of the books and of the seat.
use Rattle.std.proofs.Common.{◌≡◌, ℕ, ◌<◌, true, false, [], ◌∷◌, Option, Some, None, refl, sym, ap, subst, ◌∙◌, arith}
use Rattle.std.proofs.lemmas.List.{set-get_or, length-set, get_or-set_same}
use Rattle.std.proofs.lemmas.List.Elements.{All-map, All-weaker}
use Rattle.std.specs.List.{All, Contains}
use Rattle.gs_event.specs.declared.events.Action.TheVariants.{Pin, Piece as PieceOf}
use Rattle.gs_event.specs.declared.events.Scope.TheVariants.{All as Whole}
use Rattle.gs_event.specs.declared.answers.Answer.TheVariants.{Pinned, Lines}
use Rattle.gs_event.specs.Datasets.{quads_of}
use Rattle.gs_event.specs.Conditions.{asked_since}
use Rattle.gs_event.specs.Operations.{Reads}
use Rattle.gs_event.specs.Phases as phase
use Rattle.gs_event.specs.Views.{state_of}
use Rattle.gs_tree.specs.Tree.{Tree, leaf, tree_at}
use Rattle.gs_staging.proofs.KeyLemmas.{still_grows}
use Rattle.gs_catalogue.specs.Catalogues.{version_at}
use Rattle.gs_versions.specs.Pins.{Pins, with_pin}
use Rattle.gs_ledger.specs.Marks.{dead_at}
use Rattle.gs_ledger.proofs.PinSteps.{pin_ledger}
use Rattle.gs_datasets.specs.Standing.{dataset_at, graph_trees}
use Rattle.gs_records.specs.Records.{record_at, has_at}
use Rattle.gs_records.specs.Graphs.{graphs_at}
use Rattle.gs_records.specs.Kept.{AreSingle, AreDated}
use Rattle.gs_records.specs.Order.{entry_of, has_number, AreListed}
use Rattle.gs_records.proofs.Lifetimes.{first_true, second_true, once_at}
use Rattle.gs_records.proofs.Lasting.{graphs_last}
use Rattle.gs_records.proofs.Ordering.{kept_is}
use Rattle.gs_records.proofs.Same.{version_found}
use Rattle.gs_quads.specs.declared.pieces.QuadPiece.{QuadPiece}
use Rattle.gs_quads.specs.Places.{Place, target_at, root_at, version_numbers, quads_left}
use Rattle.gs_quads.specs.Pieces.{AreGraphs, IsQuadPlace, IsQuadPiece}
use Rattle.gs_quads.proofs.Numbers.{numbers_had}
use Rattle.gs_quads.proofs.Whole.{all_quads}
use Rattle.gs_tree_store.specs.declared.books.Books.{Books}
use Rattle.gs_tree_store.specs.declared.books.Seat.{Seat}
use Rattle.gs_tree_store.specs.declared.books.Seat.TheVariants.{Idle, ReadingAll}
use Rattle.gs_tree_store.specs.Books.{graphs_of, dataset_of, totals_of, version_trees, IsReady}
use Rattle.gs_tree_store.specs.Actions.{Acts}
use Rattle.gs_tree_store.proofs.ConditionLemmas.{totals_so, reads_stay}
use Rattle.gs_tree_store.proofs.UndoneLemmas.{read_over}
use Rattle.gs_tree_store.proofs.SeatLemmas.{same_totals, still_sound, ledger_stays}
use Rattle.gs_tree_store.proofs.ReadLemmas.{has_tree, version_read}

-- The records' listed numbers are in order, each version has one record of a graph at most, and none is later than the last commit.
module _ (b : Books) (s : ℕ) (single : AreSingle b.records.records) (listed : AreListed b.records.records b.records.listed) (dated : AreDated b.records.latest b.records.records) (ready : IsReady b s Idle) where
  -- the graphs of the last commit's version are those of now
  last_graphs : graphs_at b.versions.commit b.records.records ≡ graphs_of b
  last_graphs = graphs_last b.versions.commit b.records.latest b.records.records dated (omega (arith, ready.sound.latest))

  -- what the version has is the version of its graph
  is_version : (n : ℕ) → has_number b.versions.commit b.records.records n ≡ true → version_at (graphs_of b) (target_at b.records.records n) ≡ Some ((entry_of (record_at b.records.records n)).version)
  is_version n has =
      let v = b.versions.commit in
      let rs = b.records.records in
      let e = entry_of (record_at rs n) in
      sym (ap (λ g. version_at g e.target) last_graphs)
      ∙ version_found (has_at v) rs e.target (once_at v rs single) (record { number = n; entry = e; at = kept_is (record_at rs n) (first_true _ _ has); passes = second_true _ _ has; same = refl })

  -- so it has graphs
  are_graphs : AreGraphs b.dict.terms b.pool b.versions.commit b.records.records
  are_graphs n has = (version_read b s Idle (target_at b.records.records n) ((entry_of (record_at b.records.records n)).version) (is_version n has) ready).1

  -- whose trees are those of now
  are_current : All (Contains (graph_trees b.pool (graphs_of b))) (version_trees b.pool b.records b.versions.commit)
  are_current =
      let p = b.pool in
      let v = b.versions.commit in
      let rs = b.records.records in
      let is_in : Tree → Type 0 = Contains (graph_trees p (graphs_of b)) in
      let tree = λ (n : ℕ). tree_at p (root_at rs n) in
      let ns = version_numbers v b.records in
      All-map is_in tree ns
      (All-weaker (λ n. has_number v rs n ≡ true) (λ n. is_in (tree n)) (λ n has. has_tree p (graphs_of b) (target_at rs n) ((entry_of (record_at rs n)).version) (is_version n has)) ns (numbers_had v b.records))

  -- and its lines those of the dataset
  all_now : quads_left b.dict.terms b.pool b.versions.commit b.records None ≡ quads_of (dataset_of b)
  all_now = all_quads b.dict.terms b.pool b.versions.commit b.records single listed are_graphs ∙ ap (λ g. quads_of (dataset_at b.dict.terms b.pool g)) last_graphs

  -- a pin of all graphs
  all_pinned : Acts b (record b { versions = with_pin b.versions s (Some b.versions.commit) }) s Idle (ReadingAll b.versions.commit None) (Pin Whole) (Pinned 200 b.versions.commit)
  all_pinned =
      let p = b.pool in
      let trees = version_trees p b.records b.versions.commit in
      record {
        fits = (refl, refl);
        totals = totals_so b (record b { versions = with_pin b.versions s (Some b.versions.commit) }) (asked_since None (Reads Whole)) (state_of (totals_of b)) (reads_stay (totals_of b) Whole) refl refl refl;
        seat = ap (λ x. phase.Reading x) all_now;
        pins = refl;
        sound = still_sound b s (Some b.versions.commit) ready.sound;
        known = record { graphs = are_graphs; place = tt };
        version = refl;
        grows = still_grows b.dict b.dict refl;
        ledgers = λ us rs l. record {
          ledger = record {
            ledger = pin_ledger p b.versions (graph_trees p (graphs_of b)) (leaf ∷ us) rs (dead_at p) s trees l.ledger ready.there l.there are_current;
            there = subst (λ n. s < n) (sym (length-set rs s trees)) l.there;
            read = get_or-set_same rs s trees [] l.there;
          };
          waste = refl;
        };
        takes = refl;
        born = (λ u f. refl, λ f. refl);
      }

pub pin_all_found : (b : Books) (s : ℕ) (seat : Seat) (v : ℕ) (w : Pins) → seat ≡ Idle → v ≡ w.commit → w ≡ with_pin b.versions s (Some b.versions.commit)
    → AreSingle b.records.records → AreListed b.records.records b.records.listed → AreDated b.records.latest b.records.records
    → IsReady b s seat → Acts b (record b { versions = w }) s seat (ReadingAll v None) (Pin Whole) (Pinned 200 b.versions.commit)
pin_all_found b s seat v w idle last pin single listed dated =
    subst (λ x. IsReady b s x → Acts b (record b { versions = w }) s x (ReadingAll v None) (Pin Whole) (Pinned 200 b.versions.commit)) (sym idle)
    (λ ready.
    subst (λ n. Acts b (record b { versions = w }) s Idle (ReadingAll n None) (Pin Whole) (Pinned 200 b.versions.commit)) (sym (last ∙ ap (λ (x : Pins). x.commit) pin))
    (subst (λ y. Acts b (record b { versions = y }) s Idle (ReadingAll b.versions.commit None) (Pin Whole) (Pinned 200 b.versions.commit)) (sym pin) (all_pinned b s single listed dated ready)))

-- what the seat reads can be read, from where it stands
pub all_graphs : (b : Books) (s : ℕ) (seat : Seat) (v : ℕ) (last : Option Place) → seat ≡ ReadingAll v last → IsReady b s seat → AreGraphs b.dict.terms b.pool v b.records.records
all_graphs b s seat v last reads ready = (subst (IsReady b s) reads ready).known.graphs

pub all_place : (b : Books) (s : ℕ) (seat : Seat) (v : ℕ) (last : Option Place) → seat ≡ ReadingAll v last → IsReady b s seat → IsQuadPlace b.dict.terms v b.records.records last
all_place b s seat v last reads ready = (subst (IsReady b s) reads ready).known.place

-- a piece after which lines are left
more_of_all : (b : Books) (s v : ℕ) (last : Option Place) (count : ℕ) (piece : QuadPiece) → 0 < count → piece.is_end ≡ false → IsQuadPiece b.dict.terms b.pool v b.records last count piece → IsReady b s (ReadingAll v last)
    → Acts b b s (ReadingAll v last) (ReadingAll v piece.last) (PieceOf count) (Lines piece.lines false)
more_of_all b s v last count piece some more p ready = record {
  fits = (some, p.bytes, sym more ∙ p.end);
  totals = same_totals b b refl refl refl refl refl;
  seat = ap (λ x. phase.Reading x) (p.rest more);
  pins = sym (set-get_or b.versions.seats s None);
  sound = ready.sound;
  known = record { graphs = ready.known.graphs; place = p.last_given };
  version = ready.version;
  grows = still_grows b.dict b.dict refl;
  ledgers = λ us rs l. record { ledger = ledger_stays b s (ReadingAll v piece.last) us rs l.read l.there l.ledger; waste = refl };
  takes = refl;
  born = (λ u f. refl, λ f. refl);
}

pub all_more : (b : Books) (s : ℕ) (seat : Seat) (v : ℕ) (last : Option Place) (count : ℕ) (piece : QuadPiece) → seat ≡ ReadingAll v last → 0 < count → piece.is_end ≡ false → IsQuadPiece b.dict.terms b.pool v b.records last count piece → IsReady b s seat
    → Acts b b s seat (ReadingAll v piece.last) (PieceOf count) (Lines piece.lines false)
all_more b s seat v last count piece reads some more p =
    subst (λ x. IsReady b s x → Acts b b s x (ReadingAll v piece.last) (PieceOf count) (Lines piece.lines false)) (sym reads) (more_of_all b s v last count piece some more p)

-- the last piece
none_of_all : (b : Books) (s v : ℕ) (last : Option Place) (count : ℕ) (piece : QuadPiece) → 0 < count → piece.is_end ≡ true → IsQuadPiece b.dict.terms b.pool v b.records last count piece → IsReady b s (ReadingAll v last)
    → Acts b (record b { versions = with_pin b.versions s None }) s (ReadingAll v last) Idle (PieceOf count) (Lines piece.lines true)
none_of_all b s v last count piece some ends p ready = read_over b s (ReadingAll v last) (PieceOf count) (Lines piece.lines true) (some, p.bytes, sym ends ∙ p.end) refl refl refl refl refl refl (λ x none. none) ready

pub all_last : (b : Books) (s : ℕ) (seat : Seat) (v : ℕ) (last : Option Place) (count : ℕ) (piece : QuadPiece) (w : Pins) → seat ≡ ReadingAll v last → 0 < count → piece.is_end ≡ true → IsQuadPiece b.dict.terms b.pool v b.records last count piece
    → w ≡ with_pin b.versions s None → IsReady b s seat → Acts b (record b { versions = w }) s seat Idle (PieceOf count) (Lines piece.lines true)
all_last b s seat v last count piece w reads some ends p pin =
    subst (λ x. IsReady b s x → Acts b (record b { versions = w }) s x Idle (PieceOf count) (Lines piece.lines true)) (sym reads)
    (λ ready. subst (λ y. Acts b (record b { versions = y }) s (ReadingAll v last) Idle (PieceOf count) (Lines piece.lines true)) (sym pin) (none_of_all b s v last count piece some ends p ready))
