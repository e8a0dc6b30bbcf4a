-- Marks of dead nodes, and a ledger whose parts stand in another order.
use Rattle.std.proofs.Common.{◌≡◌, ℕ, suc, ◌+◌, ◌<◌, ◌≤◌, List, [], ◌∷◌, ◌++◌, get_or, None, refl, sym, ap, subst, inl, inr, arith}
use Rattle.std.specs.List.{All, Contains}
use Rattle.gs_pool.specs.Pool.{Nodes, mark_at}
use Rattle.gs_tree.specs.Tree.{Tree, leaf, occurrences}
use Rattle.gs_tree.specs.Steps.{one, plain_mark}
use Rattle.gs_tree.proofs.TreeLemmas.{one_cases}
use Rattle.gs_versions.specs.Pins.{Pins}
use Rattle.gs_ledger.specs.Entries.{Dead, trees_have, entry_has, has_after, tops}
use Rattle.gs_ledger.specs.Ledger.{IsTreeOf, IsDead, IsLedger}
use Rattle.gs_ledger.specs.Changes.{AreSameTrees, AreSameDead, IsMarked, Buries}
use Rattle.gs_ledger.proofs.Sums.{zero_or, all_at, tops_cons, tops_append}
use Rattle.gs_ledger.proofs.Frames.{tree_leaf, read_map, marked_one}

-- a number that is a top is that of one of these
pub top_found : (ds : List Dead) (x : ℕ) → 0 < tops ds x → (d : Dead) × Contains ds d × (d.id ≡ x)
top_found [] x h = absurd (omega arith)
top_found (d ∷ ds) x h = elim (one_cases d.id x) [
  | inl here ↦ (d, (0, omega arith, refl), here.0)
  | inr ne ↦ let f = top_found ds x (omega (arith, tops_cons d ds x, ne.1)) in
      (f.0, (suc f.1.0, omega (arith, f.1.1), f.1.2), f.2)
]

-- after a burial the marks are those of all that are dead
pub buried_marks : (p q : Nodes) (es ds : List Dead) → Buries p q es → ((x : ℕ) → tops es x + tops ds x ≤ 1) → ((x : ℕ) → tops ds x + plain_mark (mark_at p x) ≡ 1) → (x : ℕ) → tops (es ++ ds) x + plain_mark (mark_at q x) ≡ 1
buried_marks p q es ds b apart h x = elim (zero_or (tops es x)) [
  | inl none ↦ omega (arith, tops_append es ds x, h x, ap plain_mark (b.others x none))
  | inr some ↦ let f = top_found es x some in
      let gone : plain_mark (mark_at q x) ≡ 0 = subst (λ y. plain_mark (mark_at q y) ≡ 0) f.2 (marked_one (mark_at q f.0.id) _ (all_at (IsMarked q) es f.0 b.marked f.1)) in
      omega (arith, tops_append es ds x, apart x, gone)
]

-- and those that were dead before keep theirs
pub buried_kept : (p q : Nodes) (es ds : List Dead) → Buries p q es → ((x : ℕ) → tops es x + tops ds x ≤ 1) → (x : ℕ) → 0 < tops ds x → mark_at q x ≡ mark_at p x
buried_kept p q es ds b apart x h = b.others x (omega (arith, apart x))

-- what holds of all trees, and of a leaf, holds of them in another order
pub all_same : (P : Tree → Type 0) (ts us : List Tree) → AreSameTrees ts us → P leaf → All P ts → All P us
all_same P ts us same none a = λ k d h. elim (same.each k d h) [
  | inl is ↦ subst P (sym is) none
  | inr was ↦ all_at P ts (get_or us k d) a was
]

pub trees_same : (ts us : List Tree) → AreSameTrees ts us → (x : ℕ) → trees_have us x ≡ trees_have ts x
trees_same ts us same x = same.sums (λ t. occurrences t x) refl

-- The order of graphs, uploads and dead nodes means nothing, and no more do leaves among graphs and uploads.
pub reorder_ledger : (p : Nodes) (v : Pins) (gs gs' us us' : List Tree) (rs : List (List Tree)) (ds ds' : List Dead) → AreSameTrees gs gs' → AreSameTrees us us' → AreSameDead ds ds' → IsLedger p v gs us rs ds → IsLedger p v gs' us' rs ds'
reorder_ledger p v gs gs' us us' rs ds ds' g u d l =
    let c = v.commit in
    record {
      once = λ x. omega (arith, l.once x, trees_same gs gs' g x, trees_same us us' u x, d.sums (λ e. entry_has e x));
      marks = λ x. omega (arith, l.marks x, d.sums (λ e. one e.id x));
      current = all_same (IsTreeOf p c) gs gs' g (tree_leaf p c) l.current;
      staged = all_same (IsTreeOf p (c + 1)) us us' u (tree_leaf p (c + 1)) l.staged;
      waste = λ k e h. all_at (IsDead p c) ds (get_or ds' k e) l.waste (d.each k e h);
      read = λ s. read_map p p c c gs gs' ds ds' (get_or v.seats s None) (get_or rs s []) (omega arith) (λ w t e r. record {
        pinned = r.pinned;
        tree = r.tree;
        within = λ x. omega (arith, r.within x, trees_same gs gs' g x, d.sums (λ m. has_after w m x));
      }) (l.read s);
    }
