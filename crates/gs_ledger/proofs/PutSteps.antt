-- How a PUT, a Delete and a Cancel carry the ledger: trees go from one part to another, and no node changes.
use Rattle.std.proofs.Common.{ℕ, ◌+◌, ◌≤◌, List, [], ◌∷◌, ◌++◌, get_or, None, ◌∙◌, arith}
use Rattle.std.proofs.lemmas.List.Elements.{All-append, All-cons, All-head, All-tail}
use Rattle.gs_pool.specs.Pool.{Nodes}
use Rattle.gs_tree.specs.Tree.{Tree, occurrences}
use Rattle.gs_versions.specs.Pins.{Pins, at_commit}
use Rattle.gs_ledger.specs.Entries.{Dead, trees_have, dead_have, tops, died_whole}
use Rattle.gs_ledger.specs.Ledger.{IsTreeOf, IsDead, IsLedger}
use Rattle.gs_ledger.specs.Changes.{Buries}
use Rattle.gs_ledger.proofs.Sums.{trees_cons, dead_append, after_append, tops_most, dead_whole, after_whole}
use Rattle.gs_ledger.proofs.Frames.{Keeps, used_same, used_most, tree_kept, trees_kept, trees_later, dead_kept, dead_later, dead_tree, read_map}
use Rattle.gs_ledger.proofs.Orders.{buried_marks, buried_kept}

-- A PUT: a graph becomes what was uploaded, and what it was is retired whole. A leaf in place of the upload makes it a Delete.
pub put_ledger : (p q : Nodes) (v : Pins) (old new : Tree) (gs us : List Tree) (rs : List (List Tree)) (ds : List Dead) → IsLedger p v (old ∷ gs) (new ∷ us) rs ds → Buries p q (died_whole (v.commit + 1) old) → IsLedger q (at_commit v (v.commit + 1)) (new ∷ gs) us rs (died_whole (v.commit + 1) old ++ ds)
put_ledger p q v old new gs us rs ds l b =
    let c = v.commit in
    let gone = died_whole (c + 1) old in
    let stay : (f : ℕ → ℕ) → Keeps p q f = λ f x n h e. b.nodes x ∙ e in
    let apart : (x : ℕ) → tops gone x + tops ds x ≤ 1 = λ x. omega (arith, l.once x, used_most p x, trees_cons old gs x, tops_most gone x, tops_most ds x, dead_whole (c + 1) old x) in
    record {
      once = λ x. omega (arith, l.once x, trees_cons old gs x, trees_cons new gs x, trees_cons new us x, dead_append gone ds x, dead_whole (c + 1) old x, used_same p q x (b.nodes x));
      marks = buried_marks p q gone ds b apart l.marks;
      current = All-cons (IsTreeOf q (c + 1)) new gs
          (tree_kept p q (c + 1) new (stay (occurrences new)) (All-head (IsTreeOf p (c + 1)) new us l.staged))
          (trees_later q c (c + 1) gs (omega arith) (trees_kept p q c gs (stay (trees_have gs)) (All-tail (IsTreeOf p c) old gs l.current)));
      staged = trees_later q (c + 1) (c + 1 + 1) us (omega arith) (trees_kept p q (c + 1) us (stay (trees_have us)) (All-tail (IsTreeOf p (c + 1)) new us l.staged));
      waste = All-append (IsDead q (c + 1)) gone ds
          (dead_tree q c (c + 1) (c + 1) old (omega arith) (tree_kept p q c old (stay (occurrences old)) (All-head (IsTreeOf p c) old gs l.current)) b.marked)
          (dead_later q c (c + 1) ds (omega arith) (dead_kept p q c ds (stay (dead_have ds)) (buried_kept p q gone ds b apart) l.waste));
      read = λ s. read_map p q c (c + 1) (old ∷ gs) (new ∷ gs) ds (gone ++ ds) (get_or v.seats s None) (get_or rs s []) (omega arith) (λ w t e r. record {
        pinned = omega (arith, r.pinned);
        tree = tree_kept p q w t (stay (occurrences t)) r.tree;
        within = λ x. omega (arith, r.within x, trees_cons old gs x, trees_cons new gs x, after_append w gone ds x, after_whole w (c + 1) old x (omega (arith, r.pinned)));
      }) (l.read s);
    }

-- An abandoned upload is retired whole with death 0, so that no version needs it.
pub cancel_ledger : (p q : Nodes) (v : Pins) (old : Tree) (gs us : List Tree) (rs : List (List Tree)) (ds : List Dead) → IsLedger p v gs (old ∷ us) rs ds → Buries p q (died_whole 0 old) → IsLedger q v gs us rs (died_whole 0 old ++ ds)
cancel_ledger p q v old gs us rs ds l b =
    let c = v.commit in
    let gone = died_whole 0 old in
    let stay : (f : ℕ → ℕ) → Keeps p q f = λ f x n h e. b.nodes x ∙ e in
    let apart : (x : ℕ) → tops gone x + tops ds x ≤ 1 = λ x. omega (arith, l.once x, used_most p x, trees_cons old us x, tops_most gone x, tops_most ds x, dead_whole 0 old x) in
    record {
      once = λ x. omega (arith, l.once x, trees_cons old us x, dead_append gone ds x, dead_whole 0 old x, used_same p q x (b.nodes x));
      marks = buried_marks p q gone ds b apart l.marks;
      current = trees_kept p q c gs (stay (trees_have gs)) l.current;
      staged = trees_kept p q (c + 1) us (stay (trees_have us)) (All-tail (IsTreeOf p (c + 1)) old us l.staged);
      waste = All-append (IsDead q c) gone ds
          (dead_tree q (c + 1) c 0 old (omega arith) (tree_kept p q (c + 1) old (stay (occurrences old)) (All-head (IsTreeOf p (c + 1)) old us l.staged)) b.marked)
          (dead_kept p q c ds (stay (dead_have ds)) (buried_kept p q gone ds b apart) l.waste);
      read = λ s. read_map p q c c gs gs ds (gone ++ ds) (get_or v.seats s None) (get_or rs s []) (omega arith) (λ w t e r. record {
        pinned = r.pinned;
        tree = tree_kept p q w t (stay (occurrences t)) r.tree;
        within = λ x. omega (arith, r.within x, after_append w gone ds x);
      }) (l.read s);
    }
