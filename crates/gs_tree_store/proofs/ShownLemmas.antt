-- A seat beside others: what it shows stays where its trees stay and each number that has a term keeps it, and it has a pin where it reads.
use Rattle.std.proofs.Common.{◌≡◌, ℕ, Bool, true, false, cond, nat_eq, List, [], ◌∷◌, map, length, Option, Some, None, is_some, refl, sym, ap, subst, ◌∙◌}
use Rattle.std.proofs.lemmas.List.Elements.{All-head}
use Rattle.std.specs.List.{All}
use Rattle.gs_event.specs.declared.events.Action.{Action}
use Rattle.gs_event.specs.declared.events.Action.TheVariants.{Open, OpenPatch, Stage, Commit, CommitPatch, Pin, Piece, Cancel}
use Rattle.gs_event.specs.declared.answers.Answer.{Answer}
use Rattle.gs_event.specs.declared.answers.Answer.TheVariants.{Opened, Staged, Status, Pinned, Lines, Cancelled}
use Rattle.gs_event.specs.Phases as phase
use Rattle.gs_event.specs.Views.{Totals, SeatView, FitsSeat, next_phase}
use Rattle.gs_event.specs.Steps.{pin_after}
use Rattle.gs_dict.proofs.NumberLemmas.{keep_same}
use Rattle.gs_pool.specs.declared.nodes.Key.{Key}
use Rattle.gs_pool.specs.Pool.{Nodes}
use Rattle.gs_tree.specs.Keys.{AllKeys}
use Rattle.gs_tree.specs.Tree.{Tree, root_of, keys, tree_at}
use Rattle.gs_tree.specs.Reading.{keys_from}
use Rattle.gs_keys.specs.Texts.{Terms, KeepTerms, key_cmp, IsGiven}
use Rattle.gs_keys.proofs.RootLemmas.{given_kept}
use Rattle.gs_lines.specs.Pieces.{line_at, IsCursor}
use Rattle.gs_lines.proofs.LineLemmas.{lines_kept}
use Rattle.gs_datasets.specs.Standing.{IsKeyed, tree_graph}
use Rattle.gs_datasets.specs.Trees.{IsMeant, IsPlainTree, Outlasts}
use Rattle.gs_datasets.proofs.Outlasting.{keys_outlast}
use Rattle.gs_records.specs.Records.{Recorded}
use Rattle.gs_records.specs.Order.{AreListed}
use Rattle.gs_quads.specs.Places.{Place}
use Rattle.gs_quads.specs.Pieces.{AreGraphs, IsQuadPlace}
use Rattle.gs_quads.specs.Laws.{HasSame, HasTrees, ReadGoesOn}
use Rattle.gs_quads.proofs.Lasting.{read_goes_on}
use Rattle.gs_tree_store.specs.declared.books.Seat.{Seat}
use Rattle.gs_tree_store.specs.declared.books.Seat.TheVariants.{Idle, Writing, Patching, Reading, ReadingAll}
use Rattle.gs_tree_store.specs.Books.{seat_shown, upload_tree, read_trees, is_reading, IsSeat, HasItsVersion}
use Rattle.gs_tree_store.proofs.VersionLemmas.{KeepsVersion, keeps_version}

-- what holds among some terms holds among later ones too: of keyed trees, of their lines, of places to read from, and of reads of all graphs
pub record Outlives (terms later : Terms) : Type 0 where
  pub trees : (t : Tree) → IsKeyed terms t → Outlasts terms later t
  pub lines : (from : Option Key) (ks : List Key) → IsCursor terms from → AllKeys (IsGiven terms) ks
      → map (line_at later) (keys_from (key_cmp later) from ks) ≡ map (line_at terms) (keys_from (key_cmp terms) from ks)
  pub cursors : (from : Option Key) → IsCursor terms from → IsCursor later from
  pub quads : (p q : Nodes) (v : ℕ) (x y : Recorded) (from : Option Place) → AreListed x.records x.listed → AreListed y.records y.listed
      → AreGraphs terms p v x.records → IsQuadPlace terms v x.records from → HasSame v x y → HasTrees v x.records p q → ReadGoesOn terms later p q v x y from

-- the numbers of a place to read from have terms still
cursor_kept : (terms later : Terms) → KeepTerms terms later → (from : Option Key) → IsCursor terms from → IsCursor later from
cursor_kept terms later keep None h = tt
cursor_kept terms later keep (Some k) h = given_kept terms later keep k h

-- so it is where each number that has a term keeps it,
pub outlives_kept : (terms later : Terms) → KeepTerms terms later → Outlives terms later
outlives_kept terms later keep = record {
  trees = keys_outlast terms later keep;
  lines = lines_kept terms later keep;
  cursors = cursor_kept terms later keep;
  quads = λ p q v x y from al al_new graphs place same trees. read_goes_on terms later keep p q v x y al al_new graphs same trees from place;
}

-- and among the same
pub outlives_same : (terms : Terms) → Outlives terms terms
outlives_same terms = outlives_kept terms terms (keep_same terms)

-- a version of which a seat reads all graphs has the same in both records
abbrev pub ReadsSame : Recorded → Recorded → Seat → Type 0
ReadsSame x y (ReadingAll v last) = HasSame v x y
ReadsSame x y s = Unit {0}

-- so it is where each pinned version has
pub reads_same : (x y : Recorded) (pin : Option ℕ) (s : Seat) → HasItsVersion pin s → ((v : ℕ) → pin ≡ Some v → HasSame v x y) → ReadsSame x y s
reads_same x y pin Idle is same = tt
reads_same x y pin (Writing k r v o since) is same = tt
reads_same x y pin (Patching t r o since) is same = tt
reads_same x y pin (Reading root last) is same = tt
reads_same x y pin (ReadingAll v last) is same = same v is

-- the root of a seat means the same tree in both pools, or so do the roots of its version
abbrev pub KeepsSeat : Nodes → Nodes → Recorded → Recorded → Seat → Type 0
KeepsSeat p q x y (Writing k r v o since) = tree_at q v.root ≡ tree_at p v.root
KeepsSeat p q x y (Reading root last) = tree_at q root ≡ tree_at p root
KeepsSeat p q x y (ReadingAll v last) = KeepsVersion p q x y v
KeepsSeat p q x y s = Unit {0}

module _ (p q : Nodes) (x y : Recorded) where
  pub same_upload : (s : Seat) → KeepsSeat p q x y s → upload_tree q s ≡ upload_tree p s
  same_upload Idle h = refl
  same_upload (Writing k r v o since) h = h
  same_upload (Patching t r o since) h = refl
  same_upload (Reading root last) h = refl
  same_upload (ReadingAll v last) h = refl

  pub same_read : (s : Seat) → KeepsSeat p q x y s → read_trees q y s ≡ read_trees p x s
  same_read Idle h = refl
  same_read (Writing k r v o since) h = refl
  same_read (Patching t r o since) h = refl
  same_read (Reading root last) h = ap (λ t. t ∷ []) h
  same_read (ReadingAll v last) h = h.reads

  -- so it does where its trees stand in the other pool
  pub keeps_seat : AreListed x.records x.listed → AreListed y.records y.listed → (terms : Terms) (s : Seat) → IsSeat terms p x s → IsPlainTree q (upload_tree p s) → (is_reading s ≡ true → All (IsMeant q) (read_trees p x s)) → ReadsSame x y s
      → KeepsSeat p q x y s
  keeps_seat al al_new terms Idle is staged read same = tt
  keeps_seat al al_new terms (Writing k r v o since) is staged read same = ap (tree_at q) (sym is.root_is) ∙ staged.means
  keeps_seat al al_new terms (Patching t r o since) is staged read same = tt
  keeps_seat al al_new terms (Reading root last) is staged read same = ap (tree_at q) (sym is.root_is) ∙ (All-head (IsMeant q) (tree_at p root) [] (read refl)).means
  keeps_seat al al_new terms (ReadingAll v last) is staged read same = keeps_version terms p q x y v al al_new is.graphs same (read refl)

module _ (terms later : Terms) (outlives : Outlives terms later) (p q : Nodes) (x y : Recorded) (al : AreListed x.records x.listed) (al_new : AreListed y.records y.listed) where
  -- a read of all graphs goes on
  goes_on : (v : ℕ) (last : Option Place) → IsSeat terms p x (ReadingAll v last) → KeepsVersion p q x y v → ReadGoesOn terms later p q v x y last
  goes_on v last is kept = outlives.quads p q v x y last al al_new is.graphs is.place kept.same kept.trees

  -- such a seat is one still,
  pub seat_stays : (s : Seat) → IsSeat terms p x s → KeepsSeat p q x y s → IsSeat later q y s
  seat_stays Idle is same = tt
  seat_stays (Writing k r v o since) is same = record {
    root_is = ap root_of same ∙ is.root_is;
    keyed = subst (IsKeyed later) (sym same) (outlives.trees (tree_at p v.root) is.keyed).keyed;
    counted = is.counted ∙ sym (ap (λ t. length (keys t)) same);
  }
  seat_stays (Patching t r o since) is same = tt
  seat_stays (Reading root last) is same = record {
    root_is = ap root_of same ∙ is.root_is;
    keyed = subst (IsKeyed later) (sym same) (outlives.trees (tree_at p root) is.keyed).keyed;
    given = outlives.cursors last is.given;
  }
  seat_stays (ReadingAll v last) is same =
      let on = goes_on v last is same in
      record { graphs = on.graphs; place = on.place }

  -- and shows what it showed
  pub shown_stays : (s : Seat) → IsSeat terms p x s → KeepsSeat p q x y s → seat_shown later q y s ≡ seat_shown terms p x s
  shown_stays Idle is same = refl
  shown_stays (Writing k r v o since) is same = ap (λ g. phase.Writing k r g since) (ap (tree_graph later) same ∙ (outlives.trees (tree_at p v.root) is.keyed).same)
  shown_stays (Patching t r o since) is same = refl
  shown_stays (Reading root last) is same =
      ap (λ ls. phase.Reading ls) (ap (λ t. map (line_at later) (keys_from (key_cmp later) last (keys t))) same ∙ outlives.lines last (keys (tree_at p root)) is.given is.keyed.given)
  shown_stays (ReadingAll v last) is same = ap (λ ls. phase.Reading ls) (goes_on v last is same).lines

-- whether a seat is seen to read
abbrev reads_now : SeatView → Bool
reads_now (phase.Reading left) = true
reads_now p = false

reads_shown : (terms : Terms) (p : Nodes) (x : Recorded) (s : Seat) → reads_now (seat_shown terms p x s) ≡ is_reading s
reads_shown terms p x Idle = refl
reads_shown terms p x (Writing k r v o since) = refl
reads_shown terms p x (Patching t r o since) = refl
reads_shown terms p x (Reading root last) = refl
reads_shown terms p x (ReadingAll v last) = refl

begins : (b : Bool) (commit : ℕ) (pin : Option ℕ) (left : List (List ℕ)) → is_some pin ≡ false → is_some (cond b (Some commit) pin) ≡ reads_now (cond b (phase.Reading left) phase.Idle)
begins true commit pin left e = refl
begins false commit pin left e = e

ends : (b : Bool) (pin : Option ℕ) (left : List (List ℕ)) → is_some pin ≡ true → is_some (cond b None pin) ≡ reads_now (cond b phase.Idle (phase.Reading left))
ends true pin left e = refl
ends false pin left e = e

-- a pin begins and ends as a read does
pin_follows : (v : Totals) (commit : ℕ) (pin : Option ℕ) (p : SeatView) (action : Action) (a : Answer) → FitsSeat v p action a → is_some pin ≡ reads_now p → is_some (pin_after commit pin action a) ≡ reads_now (next_phase v p action a)
pin_follows v commit pin phase.Idle (Open k since) (Opened r) fits e = e
pin_follows v commit pin phase.Idle (OpenPatch t since) (Opened r) fits e = e
pin_follows v commit pin phase.Idle (Pin t) (Pinned s number) fits e = begins (nat_eq s 200) commit pin _ e
pin_follows v commit pin phase.Idle (Piece n) (Lines b end) fits e = absurd fits
pin_follows v commit pin phase.Idle Cancel Cancelled fits e = absurd fits
pin_follows v commit pin (phase.Writing k r g since) (Stage ts) Staged fits e = e
pin_follows v commit pin (phase.Writing k r g since) Commit (Status s name number) fits e = e
pin_follows v commit pin (phase.Writing k r g since) Cancel Cancelled fits e = refl
pin_follows v commit pin (phase.Writing k r g since) (Pin t) (Pinned s number) fits e = absurd fits
pin_follows v commit pin (phase.Writing k r g since) (Piece n) (Lines b end) fits e = absurd fits
pin_follows v commit pin (phase.Patching t r since) (CommitPatch ops) (Status s name number) fits e = e
pin_follows v commit pin (phase.Patching t r since) Cancel Cancelled fits e = refl
pin_follows v commit pin (phase.Patching t r since) (Pin u) (Pinned s number) fits e = absurd fits
pin_follows v commit pin (phase.Patching t r since) (Piece n) (Lines b end) fits e = absurd fits
pin_follows v commit pin (phase.Reading left) (Pin t) (Pinned s number) fits e = absurd fits
pin_follows v commit pin (phase.Reading left) (Piece n) (Lines b end) fits e = ends end pin _ e
pin_follows v commit pin (phase.Reading left) Cancel Cancelled fits e = refl
pin_follows v commit pin p action a fits e = e

-- after an action the seat has a pin exactly where it reads
pub pin_is : (v : Totals) (commit : ℕ) (pin : Option ℕ) (terms later : Terms) (p q : Nodes) (x y : Recorded) (was s : Seat) (action : Action) (a : Answer)
    → FitsSeat v (seat_shown terms p x was) action a → is_some pin ≡ is_reading was → seat_shown later q y s ≡ next_phase v (seat_shown terms p x was) action a
    → is_some (pin_after commit pin action a) ≡ is_reading s
pin_is v commit pin terms later p q x y was s action a fits flag next =
    pin_follows v commit pin (seat_shown terms p x was) action a fits (flag ∙ sym (reads_shown terms p x was))
    ∙ sym (ap (λ z. reads_now z) next)
    ∙ reads_shown later q y s
