-- What a pin and a piece of a read make of the books and of the seat.
use Rattle.std.proofs.Common.{◌≡◌, ℕ, ◌<◌, true, false, cond, List, [], ◌∷◌, get_or, Option, Some, None, is_some, option_map, nat_lt, refl, sym, ap, subst, ◌∙◌}
use Rattle.std.proofs.lemmas.List.{set-get_or, length-set, get_or-set_same, get_or-map, length-map}
use Rattle.std.proofs.lemmas.List.Elements.{All-cons, All-nil, All-head}
use Rattle.std.specs.List.{All, Contains}
use Rattle.gs_model.specs.Graphs.{lines_of}
use Rattle.gs_model.specs.declared.refusals.Refusal.TheVariants.{WrongPhase}
use Rattle.gs_term.specs.declared.names.Target.{Target}
use Rattle.gs_event.specs.declared.events.Action.TheVariants.{Pin, Piece as PieceOf}
use Rattle.gs_event.specs.declared.events.Scope.TheVariants.{One}
use Rattle.gs_event.specs.declared.answers.Answer.TheVariants.{Pinned, Lines, Refused}
use Rattle.gs_event.specs.Datasets.{is_there, lines_at, lines_if}
use Rattle.gs_event.specs.Phases as phase
use Rattle.gs_event.specs.Phases.{allows}
use Rattle.gs_event.specs.Conditions.{asked_since}
use Rattle.gs_event.specs.Operations.{Reads}
use Rattle.gs_event.specs.Views.{SeatView, state_of}
use Rattle.gs_pool.specs.declared.nodes.Key.{Key}
use Rattle.gs_pool.specs.Pool.{Nodes}
use Rattle.gs_tree.specs.Tree.{Tree, leaf, root_of, tree_at}
use Rattle.gs_tree.specs.Reading.{IsReadableAt}
use Rattle.gs_tree.specs.Sets.{IsSetAt}
use Rattle.gs_keys.specs.Texts.{key_cmp}
use Rattle.gs_keys.specs.Roots.{IsGraphAt, graph_of_root}
use Rattle.gs_keys.proofs.RootLemmas.{set_graph}
use Rattle.gs_staging.proofs.KeyLemmas.{still_grows}
use Rattle.gs_lines.specs.declared.pieces.Piece.{Piece}
use Rattle.gs_lines.specs.Pieces.{lines_from, IsPiece}
use Rattle.gs_lines.proofs.PieceLemmas.{all_lines}
use Rattle.gs_catalogue.specs.declared.versions.GraphVersion.{GraphVersion}
use Rattle.gs_catalogue.specs.Catalogues.{GraphVersions, version_at}
use Rattle.gs_versions.specs.Pins.{Pins, with_pin}
use Rattle.gs_ledger.specs.Marks.{dead_at}
use Rattle.gs_ledger.proofs.Sums.{all_at}
use Rattle.gs_ledger.proofs.PinSteps.{pin_ledger}
use Rattle.gs_datasets.specs.Standing.{all_versions, graph_trees, version_tree, version_graph, IsKeyed, IsVersion}
use Rattle.gs_datasets.proofs.Parting.{all_target}
use Rattle.gs_datasets.proofs.Sizes.{graph_at-is, is_there-is}
use Rattle.gs_datasets.proofs.Keeping.{ledger_has_sets}
use Rattle.gs_quads.specs.Places.{Place}
use Rattle.gs_tree_store.specs.declared.books.Books.{Books}
use Rattle.gs_tree_store.specs.declared.books.Seat.{Seat}
use Rattle.gs_tree_store.specs.declared.books.Seat.TheVariants.{Idle, Writing, Patching, Reading, ReadingAll}
use Rattle.gs_tree_store.specs.Books.{graphs_of, dataset_of, totals_of, seat_view_by, upload_tree, IsReady}
use Rattle.gs_tree_store.specs.Actions.{Acts}
use Rattle.gs_tree_store.proofs.PlaceLemmas.{some_of}
use Rattle.gs_tree_store.proofs.ConditionLemmas.{totals_so, reads_stay}
use Rattle.gs_tree_store.proofs.UndoneLemmas.{nothing_done, read_over}
use Rattle.gs_tree_store.proofs.SeatLemmas.{same_totals, still_sound, ledger_stays}

-- the tree of a target's version is among those of the ledger
pub has_tree : (p : Nodes) (g : GraphVersions) (t : Target) (v : GraphVersion) → version_at g t ≡ Some v → Contains (graph_trees p g) (tree_at p v.root)
has_tree p g t v is =
    let vs = all_versions g in
    let f = version_tree p in
    all_target (λ (w : GraphVersion). Contains (graph_trees p g) (version_tree p w)) g t v is
    (λ k d h. (k, subst (λ n. k < n) (sym (length-map vs f)) h, get_or-map f vs k d (f (get_or vs k d)) h))

-- its root can be read
pub version_read : (b : Books) (s : ℕ) (seat : Seat) (t : Target) (v : GraphVersion) → version_at (graphs_of b) t ≡ Some v → IsReady b s seat → IsVersion b.dict.terms b.pool v × IsGraphAt b.dict.terms b.pool v.root
version_read b s seat t v is ready =
    let terms = b.dict.terms in
    let p = b.pool in
    let gs = graph_trees p (graphs_of b) in
    let some = ready.ledger in
    let version : IsVersion terms p v = all_target (IsVersion terms p) (graphs_of b) t v is ready.sound.versions in
    let sets = ledger_has_sets terms p b.versions gs (upload_tree p seat ∷ some.uploads) some.reads (dead_at p) some.ledger.ledger in
    let one : IsSetAt (key_cmp terms) p (root_of (tree_at p v.root)) =
    all_at (λ u. IsKeyed terms u → IsSetAt (key_cmp terms) p (root_of u)) gs (tree_at p v.root) sets.current (has_tree p (graphs_of b) t v is) version.keyed in
    (version, set_graph terms p v.root (subst (IsSetAt (key_cmp terms) p) version.root_is one) version.keyed.given)

-- the root of a read can be read: its tree is among those that the seat has pinned
read_at : (b : Books) (s : ℕ) (root : Option ℕ) (last : Option Key) → IsReady b s (Reading root last) → IsGraphAt b.dict.terms b.pool root
read_at b s root last ready =
    let terms = b.dict.terms in
    let p = b.pool in
    let some = ready.ledger in
    let tree = tree_at p root in
    let can_read : Tree → Type 0 = λ t. IsKeyed terms t → IsReadableAt (key_cmp terms) p (root_of t) in
    let pin = some_of (get_or b.versions.seats s None) ready.pinned in
    let sets = ledger_has_sets terms p b.versions (graph_trees p (graphs_of b)) (leaf ∷ some.uploads) some.reads (dead_at p) some.ledger.ledger in
    let each : All can_read (tree ∷ []) = subst (All can_read) some.ledger.read (sets.read s pin.0 pin.1) in
    let one : IsReadableAt (key_cmp terms) p (root_of tree) = All-head can_read tree [] each ready.known.keyed in
    record { set = subst (IsReadableAt (key_cmp terms) p) ready.known.root_is one; given = ready.known.keyed.given }

pub read_graph : (b : Books) (s : ℕ) (seat : Seat) (root : Option ℕ) (last : Option Key) → seat ≡ Reading root last → IsReady b s seat → IsGraphAt b.dict.terms b.pool root
read_graph b s seat root last reads = subst (λ x. IsReady b s x → IsGraphAt b.dict.terms b.pool root) (sym reads) (read_at b s root last)

-- a pin of a missing graph
missing : (b : Books) (s : ℕ) (t : Target) → version_at (graphs_of b) t ≡ None → IsReady b s Idle → Acts b b s Idle Idle (Pin (One t)) (Pinned 404 b.versions.commit)
missing b s t none ready =
    let not_there : is_there (dataset_of b) t ≡ false = is_there-is b.dict.terms b.pool (graphs_of b) t ∙ ap is_some none in
    record {
      fits = (sym (ap (λ x. cond x 200 404) not_there), refl);
      totals = totals_so b b (asked_since None (Reads (One t))) (state_of (totals_of b)) (reads_stay (totals_of b) (One t)) refl refl refl;
      seat = refl;
      pins = sym (set-get_or b.versions.seats s None);
      sound = ready.sound;
      known = tt;
      version = tt;
      grows = still_grows b.dict b.dict refl;
      ledgers = λ us rs l. record { ledger = ledger_stays b s Idle us rs l.read l.there l.ledger; waste = refl };
      takes = refl;
      born = (λ u f. refl, λ f. refl);
    }

pub pin_missing : (b : Books) (s : ℕ) (seat : Seat) (t : Target) → seat ≡ Idle → version_at (graphs_of b) t ≡ None → IsReady b s seat → Acts b b s seat seat (Pin (One t)) (Pinned 404 b.versions.commit)
pin_missing b s seat t idle none = subst (λ x. IsReady b s x → Acts b b s x x (Pin (One t)) (Pinned 404 b.versions.commit)) (sym idle) (missing b s t none)

-- a pin of a graph
pinned : (b : Books) (s : ℕ) (t : Target) (v : GraphVersion) → version_at (graphs_of b) t ≡ Some v → IsReady b s Idle
    → Acts b (record b { versions = with_pin b.versions s (Some b.versions.commit) }) s Idle (Reading v.root None) (Pin (One t)) (Pinned 200 b.versions.commit)
pinned b s t v is ready =
    let terms = b.dict.terms in
    let p = b.pool in
    let g = graphs_of b in
    let read = version_read b s Idle t v is ready in
    let there : is_there (dataset_of b) t ≡ true = is_there-is terms p g t ∙ ap is_some is in
    let graph : lines_at (dataset_of b) t ≡ lines_of (graph_of_root terms p v.root) = ap lines_if (graph_at-is terms p g t ∙ ap (option_map (version_graph terms p)) is) in
    let lines : lines_from terms p v.root None ≡ lines_at (dataset_of b) t = all_lines terms p v.root read.1 ∙ sym graph in
    let one : List Tree = tree_at p v.root ∷ [] in
    let is_in : Tree → Type 0 = Contains (graph_trees p g) in
    let contained : All is_in one = All-cons is_in (tree_at p v.root) [] (has_tree p g t v is) (All-nil is_in) in
    record {
      fits = (sym (ap (λ x. cond x 200 404) there), refl);
      totals = totals_so b (record b { versions = with_pin b.versions s (Some b.versions.commit) }) (asked_since None (Reads (One t))) (state_of (totals_of b)) (reads_stay (totals_of b) (One t)) refl refl refl;
      seat = ap (λ x. phase.Reading x) lines;
      pins = refl;
      sound = still_sound b s (Some b.versions.commit) ready.sound;
      known = record { root_is = read.0.root_is; keyed = read.0.keyed; given = tt };
      version = tt;
      grows = still_grows b.dict b.dict refl;
      ledgers = λ us rs l. record {
        ledger = record {
          ledger = pin_ledger p b.versions (graph_trees p g) (leaf ∷ us) rs (dead_at p) s one l.ledger ready.there l.there contained;
          there = subst (λ n. s < n) (sym (length-set rs s one)) l.there;
          read = get_or-set_same rs s one [] l.there;
        };
        waste = refl;
      };
      takes = refl;
      born = (λ u f. refl, λ f. refl);
    }

pub pin_found : (b : Books) (s : ℕ) (seat : Seat) (t : Target) (v : GraphVersion) (w : Pins) → seat ≡ Idle → version_at (graphs_of b) t ≡ Some v → w ≡ with_pin b.versions s (Some b.versions.commit) → IsReady b s seat
    → Acts b (record b { versions = w }) s seat (Reading v.root None) (Pin (One t)) (Pinned 200 b.versions.commit)
pin_found b s seat t v w idle is pin =
    subst (λ x. IsReady b s x → Acts b (record b { versions = w }) s x (Reading v.root None) (Pin (One t)) (Pinned 200 b.versions.commit)) (sym idle)
    (λ ready. subst (λ y. Acts b (record b { versions = y }) s Idle (Reading v.root None) (Pin (One t)) (Pinned 200 b.versions.commit)) (sym pin) (pinned b s t v is ready))

-- a piece after which lines are left
more_left : (b : Books) (s : ℕ) (root : Option ℕ) (last : Option Key) (count : ℕ) (piece : Piece) → 0 < count → piece.is_end ≡ false → IsPiece b.dict.terms b.pool root last count piece → IsReady b s (Reading root last)
    → Acts b b s (Reading root last) (Reading root piece.last) (PieceOf count) (Lines piece.lines false)
more_left b s root last count piece some more p ready = record {
  fits = (some, p.bytes, sym more ∙ p.end);
  totals = same_totals b b refl refl refl refl refl;
  seat = ap (λ x. phase.Reading x) (p.rest more);
  pins = sym (set-get_or b.versions.seats s None);
  sound = ready.sound;
  known = record { root_is = ready.known.root_is; keyed = ready.known.keyed; given = p.last_given };
  version = tt;
  grows = still_grows b.dict b.dict refl;
  ledgers = λ us rs l. record { ledger = ledger_stays b s (Reading root piece.last) us rs l.read l.there l.ledger; waste = refl };
  takes = refl;
  born = (λ u f. refl, λ f. refl);
}

pub piece_more : (b : Books) (s : ℕ) (seat : Seat) (root : Option ℕ) (last : Option Key) (count : ℕ) (piece : Piece) → seat ≡ Reading root last → 0 < count → piece.is_end ≡ false → IsPiece b.dict.terms b.pool root last count piece → IsReady b s seat
    → Acts b b s seat (Reading root piece.last) (PieceOf count) (Lines piece.lines false)
piece_more b s seat root last count piece reads some more p =
    subst (λ x. IsReady b s x → Acts b b s x (Reading root piece.last) (PieceOf count) (Lines piece.lines false)) (sym reads) (more_left b s root last count piece some more p)

-- the last piece
none_left : (b : Books) (s : ℕ) (root : Option ℕ) (last : Option Key) (count : ℕ) (piece : Piece) → 0 < count → piece.is_end ≡ true → IsPiece b.dict.terms b.pool root last count piece → IsReady b s (Reading root last)
    → Acts b (record b { versions = with_pin b.versions s None }) s (Reading root last) Idle (PieceOf count) (Lines piece.lines true)
none_left b s root last count piece some ends p ready = read_over b s (Reading root last) (PieceOf count) (Lines piece.lines true) (some, p.bytes, sym ends ∙ p.end) refl refl refl refl refl refl (λ x none. none) ready

pub piece_last : (b : Books) (s : ℕ) (seat : Seat) (root : Option ℕ) (last : Option Key) (count : ℕ) (piece : Piece) (w : Pins) → seat ≡ Reading root last → 0 < count → piece.is_end ≡ true → IsPiece b.dict.terms b.pool root last count piece
    → w ≡ with_pin b.versions s None → IsReady b s seat → Acts b (record b { versions = w }) s seat Idle (PieceOf count) (Lines piece.lines true)
piece_last b s seat root last count piece w reads some ends p pin =
    subst (λ x. IsReady b s x → Acts b (record b { versions = w }) s x Idle (PieceOf count) (Lines piece.lines true)) (sym reads)
    (λ ready. subst (λ y. Acts b (record b { versions = y }) s (Reading root last) Idle (PieceOf count) (Lines piece.lines true)) (sym pin) (none_left b s root last count piece some ends p ready))

-- a piece of no line is not allowed
none_allowed : (x : SeatView) (count : ℕ) → count ≡ 0 → allows x (PieceOf count) ≡ false
none_allowed phase.Idle count none = refl
none_allowed (phase.Writing k r g since) count none = refl
none_allowed (phase.Patching t r since) count none = refl
none_allowed (phase.Reading left) count none = ap (λ n. nat_lt 0 n) none

-- nor is one of a seat that does not read
not_allowed : (b : Books) (seat : Seat) (count : ℕ) → ((root : Option ℕ) (last : Option Key) → seat ≡ Reading root last → ⊥) → ((v : ℕ) (last : Option Place) → seat ≡ ReadingAll v last → ⊥) → allows (seat_view_by b seat) (PieceOf count) ≡ false
not_allowed b Idle count none none_of_all = refl
not_allowed b (Writing k r v o since) count none none_of_all = refl
not_allowed b (Patching t r o since) count none none_of_all = refl
not_allowed b (Reading root last) count none none_of_all = absurd (none root last refl)
not_allowed b (ReadingAll v last) count none none_of_all = absurd (none_of_all v last refl)

-- so it is refused
refuses : (b : Books) (s : ℕ) (seat : Seat) (count : ℕ) → allows (seat_view_by b seat) (PieceOf count) ≡ false → IsReady b s seat → Acts b b s seat seat (PieceOf count) (Refused WrongPhase)
refuses b s Idle count bars = nothing_done b s Idle (PieceOf count) (Refused WrongPhase) bars refl refl refl refl refl (λ x none. none)
refuses b s (Writing k r v o since) count bars = nothing_done b s (Writing k r v o since) (PieceOf count) (Refused WrongPhase) bars refl refl refl refl refl (λ x none. none)
refuses b s (Patching t r o since) count bars = nothing_done b s (Patching t r o since) (PieceOf count) (Refused WrongPhase) bars refl refl refl refl refl (λ x none. none)
refuses b s (Reading root last) count bars = nothing_done b s (Reading root last) (PieceOf count) (Refused WrongPhase) bars refl refl refl refl refl (λ x none. none)
refuses b s (ReadingAll v last) count bars = nothing_done b s (ReadingAll v last) (PieceOf count) (Refused WrongPhase) bars refl refl refl refl refl (λ x none. none)

pub none_refused : (b : Books) (s : ℕ) (seat : Seat) (count : ℕ) → count ≡ 0 → IsReady b s seat → Acts b b s seat seat (PieceOf count) (Refused WrongPhase)
none_refused b s seat count none = refuses b s seat count (none_allowed (seat_view_by b seat) count none)

pub not_reading : (b : Books) (s : ℕ) (seat : Seat) (count : ℕ) → ((root : Option ℕ) (last : Option Key) → seat ≡ Reading root last → ⊥) → ((v : ℕ) (last : Option Place) → seat ≡ ReadingAll v last → ⊥)
    → IsReady b s seat → Acts b b s seat seat (PieceOf count) (Refused WrongPhase)
not_reading b s seat count none none_of_all = refuses b s seat count (not_allowed b seat count none none_of_all)
