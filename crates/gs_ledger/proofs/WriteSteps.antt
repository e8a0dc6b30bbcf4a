-- How a commit that copies, and a Stage, carry the ledger: their trees change by steps.
use Rattle.std.proofs.Common.{◌≡◌, ℕ, ◌+◌, ◌<◌, ◌≤◌, false, cond, List, [], ◌∷◌, ◌++◌, length, get_or, Option, Some, None, refl, ap, ◌∙◌, inl, inr, arith}
use Rattle.std.proofs.lemmas.List.Elements.{All-append, All-cons, All-head, All-tail}
use Rattle.gs_pool.specs.declared.nodes.Node.{Node}
use Rattle.gs_pool.specs.Pool.{Nodes, NodeMark, plain, aside, retired, is_aside, node_at, mark_at, retired_mark}
use Rattle.gs_tree.specs.Tree.{Tree, occurrences}
use Rattle.gs_tree.specs.Steps.{plain_mark, Step}
use Rattle.gs_versions.specs.Pins.{Pins, at_commit}
use Rattle.gs_ledger.specs.Entries.{Dead, trees_have, dead_have, tops}
use Rattle.gs_ledger.specs.Marks.{used_count}
use Rattle.gs_ledger.specs.Ledger.{IsTreeOf, IsDead, IsLedger}
use Rattle.gs_ledger.specs.Changes.{RetiresAside, aside_dead}
use Rattle.gs_ledger.proofs.Sums.{zero_or, trees_cons, dead_append, after_append, after_most, tops_append, tops_most}
use Rattle.gs_ledger.proofs.Frames.{Keeps, used_some, used_same, used_most, used_found, tree_kept, tree_later, trees_kept, trees_later, born_by, dead_kept, dead_later, read_map}
use Rattle.gs_ledger.proofs.Balance.{aside_one, same_mark, step_balance}
use Rattle.gs_ledger.proofs.Alone.{set_aside, aside_have, alone_tops, alone_after, alone_dead}

-- a mark that counts is plain
mark_plain : (m : NodeMark) → plain_mark m ≡ 1 → m ≡ plain
mark_plain plain e = refl
mark_plain (aside death whole) e = absurd (omega arith)
mark_plain (retired death whole) e = absurd (omega arith)

-- a mark of no node that is set aside stays
mark_stays : (death : ℕ) (m : NodeMark) → is_aside m ≡ false → retired_mark death m ≡ m
mark_stays death plain e = refl
mark_stays death (aside d w) e = absurd (cc)
mark_stays death (retired d w) e = refl

aside_zero : (m : NodeMark) → is_aside m ≡ false → aside_one m ≡ 0
aside_zero m e = ap (λ b. cond {A = ℕ} b 1 0) e

-- a node counts as its mark does, where it is there
aside_there : (o : Option Node) (m : NodeMark) (n : Node) → o ≡ Some n → set_aside o (is_aside m) ≡ aside_one m
aside_there o m n e = ap (λ k. set_aside k (is_aside m)) e

module _ (p : Nodes) (v : Pins) (gs us : List Tree) (rs : List (List Tree)) (ds : List Dead) (l : IsLedger p v gs us rs ds) where
  -- what a current tree or an upload has is plain, and so is what is free
  pub tree_plain : (x : ℕ) → 0 < trees_have gs x + trees_have us x → mark_at p x ≡ plain
  tree_plain x h = mark_plain (mark_at p x) (omega (arith, l.once x, l.marks x, used_most p x, tops_most ds x))

  pub free_plain : (x : ℕ) → used_count p x ≡ 0 → mark_at p x ≡ plain
  free_plain x h = mark_plain (mark_at p x) (omega (arith, l.once x, l.marks x, tops_most ds x))

-- A commit that copies: a graph goes from one tree to another, and each node that was replaced is retired alone.
module _ (p q r : Nodes) (v : Pins) (birth : ℕ) (old new : Tree) (gs us : List Tree) (rs : List (List Tree)) (ds : List Dead) (l : IsLedger p v (old ∷ gs) us rs ds) (none : (x : ℕ) → is_aside (mark_at p x) ≡ false) (s : Step (v.commit + 1) birth p q (occurrences old) (occurrences new)) (tree : IsTreeOf q (v.commit + 1) new) (retires : RetiresAside q r (v.commit + 1)) where
  abbrev es : List Dead
  es = aside_dead (v.commit + 1) q

  was_used : (x : ℕ) → occurrences old x ≤ used_count p x
  was_used x = omega (arith, l.once x, trees_cons old gs x)

  balance : (x : ℕ) → occurrences new x + aside_one (mark_at q x) + used_count p x ≡ occurrences old x + used_count q x
  balance x = omega (arith, step_balance (v.commit + 1) birth p q (occurrences old) (occurrences new) s (λ y h. tree_plain p v (old ∷ gs) us rs ds l y (omega (arith, trees_cons old gs y))) was_used (free_plain p v (old ∷ gs) us rs ds l) x, aside_zero (mark_at p x) (none x))

  -- what is set aside has a node
  es_have : (x : ℕ) → dead_have es x ≡ aside_one (mark_at q x)
  es_have x = elim (zero_or (used_count q x)) [
    | inl free ↦ elim (s.marks x) [
      | inl same ↦ omega (arith, aside_have (v.commit + 1) q x, off x (node_at q x) (ap is_aside same ∙ none x), ap aside_one same, aside_zero (mark_at p x) (none x))
      | inr fresh ↦ absurd (let now = s.kept x fresh.0.0 fresh.0.1 (inr fresh.0.2) in omega (arith, used_some q x fresh.0.0 now))
    ]
    | inr some ↦ let n = used_found q x some in omega (arith, aside_have (v.commit + 1) q x, aside_there (node_at q x) (mark_at q x) n.0 n.1)
  ]
    where
      off : (x : ℕ) (o : Option Node) → is_aside (mark_at q x) ≡ false → set_aside o (is_aside (mark_at q x)) ≡ 0
      off x None e = refl
      off x (Some n) e = ap (λ b. cond {A = ℕ} b 1 0) e

  -- what is older than the commit stays
  by_birth : (w : ℕ) (t : Tree) → w ≤ v.commit → IsTreeOf p w t → IsTreeOf r w t
  by_birth w t le b = tree_kept p r w t (λ x n h e. retires.nodes x ∙ s.kept x n e (inr (omega (arith, born_by p w t x n b h e)))) b

  -- and so does what the changed graph did not have
  elsewhere : (f : ℕ → ℕ) → ((x : ℕ) → f x + occurrences old x ≤ 1) → Keeps p r f
  elsewhere f apart x n h e = retires.nodes x ∙ s.kept x n e (inl (omega (arith, apart x)))

  still : (x : ℕ) → occurrences old x ≤ occurrences new x + dead_have es x
  still x = elim (zero_or (occurrences old x)) [
    | inl off ↦ omega arith
    | inr some ↦
        let n = used_found p x (omega (arith, was_used x)) in
        let was : IsTreeOf p v.commit old = All-head (IsTreeOf p v.commit) old gs l.current in
        let now = s.kept x n.0 n.1 (inr (omega (arith, born_by p v.commit old x n.0 was some n.1))) in
        omega (arith, balance x, es_have x, used_some p x n.0 n.1, used_some q x n.0 now)
  ]

  -- dead nodes keep their marks, and the rest of the marks are those of what was replaced
  old_mark : (x : ℕ) → mark_at q x ≡ mark_at p x → mark_at r x ≡ mark_at p x
  old_mark x e = retires.marks x ∙ ap (retired_mark (v.commit + 1)) e ∙ mark_stays (v.commit + 1) (mark_at p x) (none x)

  es_tops : (x : ℕ) → tops es x ≡ aside_one (mark_at q x)
  es_tops x = alone_tops (v.commit + 1) (length q.nodes) q x ∙ es_have x

  marks_now : (x : ℕ) → tops (es ++ ds) x + plain_mark (mark_at r x) ≡ 1
  marks_now x = elim (s.marks x) [
    | inl same ↦ omega (arith, tops_append es ds x, es_tops x, ap aside_one same, aside_zero (mark_at p x) (none x), l.marks x, ap plain_mark (old_mark x same))
    | inr fresh ↦ omega (arith, tops_append es ds x, es_tops x, ap aside_one fresh.2, l.marks x, ap plain_mark fresh.1, ap plain_mark (retires.marks x ∙ ap (retired_mark (v.commit + 1)) fresh.2))
  ]

  marks_kept : (x : ℕ) → 0 < tops ds x → mark_at r x ≡ mark_at p x
  marks_kept x h = elim (s.marks x) [
    | inl same ↦ old_mark x same
    | inr fresh ↦ absurd (omega (arith, l.marks x, ap plain_mark fresh.1))
  ]

  pub post_ledger : IsLedger r (at_commit v (v.commit + 1)) (new ∷ gs) us rs (aside_dead (v.commit + 1) q ++ ds)
  post_ledger =
      let c = v.commit in
      record {
        once = λ x. omega (arith, l.once x, trees_cons old gs x, trees_cons new gs x, dead_append es ds x, es_have x, balance x, used_same q r x (retires.nodes x));
        marks = marks_now;
        current = All-cons (IsTreeOf r (c + 1)) new gs
            (tree_kept q r (c + 1) new (λ x n h e. retires.nodes x ∙ e) tree)
            (λ k d h. tree_later r c (c + 1) (get_or gs k d) (omega arith) (by_birth c (get_or gs k d) (omega arith) (All-tail (IsTreeOf p c) old gs l.current k d h)));
        staged = trees_later r (c + 1) (c + 1 + 1) us (omega arith) (trees_kept p r (c + 1) us (elsewhere (trees_have us) (λ x. omega (arith, l.once x, used_most p x, trees_cons old gs x))) l.staged);
        waste = All-append (IsDead r (c + 1)) es ds
            (alone_dead q r (c + 1) (c + 1) (length q.nodes) (omega arith) retires)
            (dead_later r c (c + 1) ds (omega arith) (dead_kept p r c ds (elsewhere (dead_have ds) (λ x. omega (arith, l.once x, used_most p x, trees_cons old gs x))) marks_kept l.waste));
        read = λ i. read_map p r c (c + 1) (old ∷ gs) (new ∷ gs) ds (es ++ ds) (get_or v.seats i None) (get_or rs i []) (omega arith) (λ w t e k. record {
          pinned = omega (arith, k.pinned);
          tree = by_birth w t k.pinned k.tree;
          within = λ x. omega (arith, k.within x, trees_cons old gs x, trees_cons new gs x, after_append w es ds x, alone_after w (c + 1) (length q.nodes) q x (omega (arith, k.pinned)), still x);
        }) (l.read i);
      }

-- A Stage: an upload's tree grows in place, since no version has it.
module _ (p q : Nodes) (v : Pins) (birth : ℕ) (old new : Tree) (gs us : List Tree) (rs : List (List Tree)) (ds : List Dead) (l : IsLedger p v gs (old ∷ us) rs ds) (s : Step 0 birth p q (occurrences old) (occurrences new)) (tree : IsTreeOf q (v.commit + 1) new) where
  marks_same : (x : ℕ) → mark_at q x ≡ mark_at p x
  marks_same x = elim (s.marks x) [ inl same ↦ same | inr fresh ↦ absurd (omega (arith, fresh.0.2)) ]

  grown : (x : ℕ) → occurrences new x + used_count p x ≡ occurrences old x + used_count q x
  grown x = same_mark 0 birth p q (occurrences old) (occurrences new) s (λ y h. tree_plain p v gs (old ∷ us) rs ds l y (omega (arith, trees_cons old us y))) (λ y. omega (arith, l.once y, trees_cons old us y)) (free_plain p v gs (old ∷ us) rs ds l) x (marks_same x)

  beside : (f : ℕ → ℕ) → ((x : ℕ) → 0 < f x → occurrences old x ≡ 0) → Keeps p q f
  beside f apart x n h e = s.kept x n e (inl (apart x h))

  pub stage_ledger : IsLedger q v gs (new ∷ us) rs ds
  stage_ledger =
      let c = v.commit in
      record {
        once = λ x. omega (arith, l.once x, grown x, trees_cons old us x, trees_cons new us x);
        marks = λ x. omega (arith, l.marks x, ap plain_mark (marks_same x));
        current = trees_kept p q c gs (beside (trees_have gs) (λ x h. omega (arith, l.once x, used_most p x, trees_cons old us x))) l.current;
        staged = All-cons (IsTreeOf q (c + 1)) new us tree (trees_kept p q (c + 1) us (beside (trees_have us) (λ x h. omega (arith, l.once x, used_most p x, trees_cons old us x))) (All-tail (IsTreeOf p (c + 1)) old us l.staged));
        waste = dead_kept p q c ds (beside (dead_have ds) (λ x h. omega (arith, l.once x, used_most p x, trees_cons old us x))) (λ x h. marks_same x) l.waste;
        read = λ i. read_map p q c c gs gs ds ds (get_or v.seats i None) (get_or rs i []) (omega arith) (λ w t e k. record {
          pinned = k.pinned;
          tree = tree_kept p q w t (beside (occurrences t) (λ x h. omega (arith, k.within x, after_most w ds x, l.once x, used_most p x, trees_cons old us x))) k.tree;
          within = k.within;
        }) (l.read i);
      }
