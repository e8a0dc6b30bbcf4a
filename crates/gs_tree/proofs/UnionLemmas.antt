-- One level of a union.
use Rattle.std.proofs.Common.{◌≡◌, ℕ, zero, suc, ◌+◌, ◌*◌, ◌<◌, ◌≤◌, ◌^◌, max, min, List, [], ◌∷◌, ◌++◌, length, Option, Some, None, is_some, IsSome, IfSome, OnSome, refl, sym, ap, subst, ◌∙◌, inl, inr, arith, length-append}
use Rattle.std.proofs.lemmas.Bool.{cases_lt}
use Rattle.std.specs.declared.cmp.Ordering.{Ordering}
use Rattle.std.specs.Cmp.{IsTotalOrder}
use Rattle.gs_pool.specs.declared.nodes.Key.{Key}
use Rattle.gs_pool.specs.declared.nodes.Node.{Node}
use Rattle.gs_pool.specs.Pool.{Nodes, plain, node_at, mark_at, room}
use Rattle.gs_tree.specs.Keys.{IsRising, merge_keys}
use Rattle.gs_tree.specs.Tree.{Tree, fork, height, keys, occurrences, Stands, IsBalanced, BirthAtMost, Descends, height_at, tree_at, older_birth, older_count}
use Rattle.gs_tree.specs.Sets.{IsSet, union_cost}
use Rattle.gs_tree.specs.Steps.{plain_count, one, Step, IsOlder, CopiesIfOlder}
use Rattle.gs_tree.specs.Joining.{CanJoin, Settled, copies, joins, IsHeightAfter, KeepsHeight}
use Rattle.gs_tree.specs.Merging.{Built, CanMerge, Merges, CutAtKey}
use Rattle.gs_tree.proofs.TreeLemmas.{one_same, plain_count_most, plain_found, Stands-step, Step-then, Step-beside, CopiesIfOlder-step, BirthAtMost-later}
use Rattle.gs_tree.proofs.Rotations.{height_in, tree_in}
use Rattle.gs_tree.proofs.Order.{rising_front, rising_back}
use Rattle.gs_tree.proofs.Costs.{copies_some, copies_add}
use Rattle.gs_tree.proofs.Levels.{Opened, opened, opened_older, older_counts}
use Rattle.gs_tree.proofs.Heights.{height_size, height_digits, size-keys}
use Rattle.gs_tree.proofs.Merging.{cut_length, cut_rising, merge_node, merge_none}
use Rattle.gs_tree.proofs.UnionCosts.{cost_side, cost_sides, cost_level, joins_grown}

-- a tree whose sides grew is no lower
both_grew : (l r l' r' n : ℕ) → l ≤ r + 1 → r ≤ l + 1 → l ≤ l' → r ≤ r' → IsHeightAfter l' r' n → max l r + 1 ≤ n
both_grew l r l' r' n a b c d h =
    let h0 : max l' r' ≤ n = h.0 in
    elim (cases_lt (max l r) (max l' r')) [
      | inl more ↦ omega arith
      | inr same ↦ let e = h.2 (omega arith, omega arith) in omega arith
    ]

-- a side is as high as it was, whether it gained n keys or none
side_kept : (was now n : ℕ) → (n ≡ 0 → now ≡ was) → (0 < n → now ≡ was) → now ≡ was
side_kept was now zero same grown = same refl
side_kept was now (suc n) same grown = grown (omega arith)

-- a tree of few keys is low
pub fits : (t : Tree) → IsBalanced t → length (keys t) < 2 ^ 65 → height t < 2 ^ 14
fits t b small = omega (arith, height_digits t 65 b (omega (arith, size-keys t)))

same_step : (since birth : ℕ) (p : Nodes) (f : ℕ → ℕ) → Step since birth p p f f
same_step since birth p f = record {
  kept = λ x n e h. e;
  balance = λ x. refl;
  older = λ x n e h. e;
  born = λ x n e. inl e;
  marks = λ x. inl refl;
}

-- nothing is added
pub merges_same : (cmp : Key → Key → Ordering) (since birth : ℕ) (p : Nodes) (root : Option ℕ) (t : Tree) (run : List Key) → IsSet cmp p root t → keys t ≡ merge_keys cmp run (keys t) → Merges cmp since birth p p root 0 t run t
merges_same cmp since birth p root t run s e = record {
  root = s.root_is;
  stands = s.stands;
  balanced = s.balanced;
  keys_are = e;
  births = λ d b. (d, b);
  not_lower = omega arith;
  growth = omega arith;
  step = same_step since birth p (occurrences t);
  total = omega arith;
  few = omega arith;
  copied = omega arith;
  exact = omega arith;
  counted = omega arith;
  at_most = omega arith;
  still = λ z. (refl, refl);
}

pub merges_none : (cmp : Key → Key → Ordering) (since birth : ℕ) (p : Nodes) (root : Option ℕ) (t : Tree) (run : List Key) → IsSet cmp p root t → length run ≡ 0 → Merges cmp since birth p p root 0 t run t
merges_none cmp since birth p root t [] s e = merges_same cmp since birth p root t [] s refl
merges_none cmp since birth p root t (x ∷ run) s e = absurd (omega arith)

-- the tree was empty
pub merges_built : (cmp : Key → Key → Ordering) → IsTotalOrder cmp → (since birth : ℕ) (p q : Nodes) (root result : Option ℕ) (run : List Key) (new : Tree) → since ≤ birth → root ≡ None → IsRising cmp run → 0 < length run → Built birth p q result run new → Merges cmp since birth p q result (length run) (tree_at p root) run new
merges_built cmp total since birth p q root result run new young none rising some b = subst (λ u. Merges cmp since birth p q result (length run) u run new) (sym (ap (tree_at p) none)) (record {
  root = b.root;
  stands = b.stands;
  balanced = b.balanced;
  keys_are = b.keys_are ∙ sym (merge_none cmp total run rising);
  births = λ d e. (b.descends, b.born);
  not_lower = omega arith;
  growth = omega (arith, height_size new, size-keys new, ap length b.keys_are);
  step = b.step since young;
  total = b.total;
  few = omega (arith, b.exact);
  copied = omega (arith, b.exact, b.none_older since young);
  exact = omega (arith, b.exact, b.replaced);
  counted = omega (arith, ap length b.keys_are);
  at_most = omega arith;
  still = λ z. absurd (omega arith);
})

module _ (cmp : Key → Key → Ordering) (total : IsTotalOrder cmp) (since birth : ℕ) (p : Nodes) (root : Option ℕ) (t : Tree) (run : List Key) (can : CanMerge cmp since p root t run) (id : ℕ) (node : Node) (is : root ≡ Some id) (found : node_at p id ≡ Some node) (low high : List Key) (cut : CutAtKey cmp node.key run low high) where
  o : Opened p id node t
  o = opened p root id node t can.set.root_is can.set.stands is found

  heights : height t ≡ max (height o.l) (height o.r) + 1
  heights = ap height o.is

  near : IsBalanced (fork id o.birth o.l node.key o.r)
  near = subst IsBalanced o.is can.set.balanced

  rises : IsRising cmp (keys o.l ++ node.key ∷ keys o.r)
  rises = subst (λ u. IsRising cmp (keys u)) o.is can.set.rising

  apart_in : (i : ℕ) → one id i + occurrences o.l i + occurrences o.r i ≤ plain_count p i
  apart_in i = omega (arith, can.set.apart i, ap (λ u. occurrences u i) o.is)

  within : (i : ℕ) → one id i + occurrences o.l i + occurrences o.r i ≤ plain_count p i
  within = apart_in

  counts : length (keys t) ≡ length (keys o.l) + length (keys o.r) + 1
  counts = omega (arith, ap (λ u. length (keys u)) o.is, length-append (keys o.l) (node.key ∷ keys o.r))

  few_in : length low + length high ≤ length run
  few_in = cut_length cmp node.key run low high cut

  both_cost : union_cost since (height o.l) (length low) + union_cost since (height o.r) (length high) ≤ union_cost since (height t) (length run)
  both_cost = cost_sides since (height o.l) (height o.r) (height t) (length low) (length high) (length run) (omega (arith, heights)) (omega (arith, heights)) few_in

  older : older_count since t ≡ older_birth since node.birth + older_count since o.l + older_count since o.r
  older = opened_older since p id node t o

  left_is : tree_at p node.left ≡ o.l
  left_is = tree_in p node.left o.l o.left_is o.sl

  run_parts : IsRising cmp low × IsRising cmp high
  run_parts = cut_rising cmp total node.key run low high cut can.run_rising

  pub left_falls : height_at p node.left < height_at p root
  left_falls = omega (arith, height_in p node.left o.l o.left_is o.sl, height_in p root t can.set.root_is can.set.stands, heights)

  pub left_can : CanMerge cmp since p node.left (tree_at p node.left) low
  left_can = subst (λ u. CanMerge cmp since p node.left u low) (sym left_is) (record {
    set = record { root_is = o.left_is; stands = o.sl; balanced = near.1; rising = rising_front cmp total _ _ rises; apart = λ i. omega (arith, apart_in i) };
    run_rising = run_parts.0;
    small = omega (arith, can.small, counts, few_in);
    has_room = omega (arith, can.has_room, both_cost, few_in, older);
  })

  module _ (p1 : Nodes) (left : Option ℕ) (c : ℕ) (i0 : Merges cmp since birth p p1 left c (tree_at p node.left) low (tree_at p1 left)) where
    i : Merges cmp since birth p p1 left c o.l low (tree_at p1 left)
    i = subst (λ u. Merges cmp since birth p p1 left c u low (tree_at p1 left)) left_is i0

    low_cost : union_cost since (height o.l) c ≤ union_cost since (height o.l) (length low)
    low_cost = cost_side since (height o.l) c (height o.l) (length low) (omega arith) i.at_most

    step1 : Step since birth p p1 (λ x. one id x + occurrences o.l x + occurrences o.r x) (λ x. one id x + occurrences (tree_at p1 left) x + occurrences o.r x)
    step1 = Step-beside since birth p p1 (occurrences o.l) (occurrences (tree_at p1 left)) _ _ i.step (λ x. omega arith) (λ x. omega arith)

    apart1 : (x : ℕ) → one id x + occurrences (tree_at p1 left) x + occurrences o.r x ≤ 1
    apart1 x = omega (arith, step1.balance x, within x, plain_count_most p1 x)

    right_there : Stands p1 o.r
    right_there = Stands-step since birth p p1 (occurrences o.l) (occurrences (tree_at p1 left)) o.r i.step (λ x h. omega (arith, apart_in x, plain_count_most p x)) o.sr

    right_is : tree_at p1 node.right ≡ o.r
    right_is = tree_in p1 node.right o.r o.right_is right_there

    pub right_falls : height_at p1 node.right < height_at p root
    right_falls = omega (arith, height_in p1 node.right o.r o.right_is right_there, height_in p root t can.set.root_is can.set.stands, heights)

    pub right_can : CanMerge cmp since p1 node.right (tree_at p1 node.right) high
    right_can = subst (λ u. CanMerge cmp since p1 node.right u high) (sym right_is) (record {
      set = record { root_is = o.right_is; stands = right_there; balanced = near.2; rising = rising_back cmp total _ _ _ rises; apart = λ x. omega (arith, step1.balance x, apart_in x) };
      run_rising = run_parts.1;
      small = omega (arith, can.small, counts, few_in);
      has_room = omega (arith, can.has_room, both_cost, few_in, older, i.total, i.few, low_cost, i.copied, i.at_most);
    })

    module _ (p2 : Nodes) (right : Option ℕ) (d : ℕ) (k0 : Merges cmp since birth p1 p2 right d (tree_at p1 node.right) high (tree_at p2 right)) where
      k : Merges cmp since birth p1 p2 right d o.r high (tree_at p2 right)
      k = subst (λ u. Merges cmp since birth p1 p2 right d u high (tree_at p2 right)) right_is k0

      step2 : Step since birth p p2 (λ x. one id x + occurrences o.l x + occurrences o.r x) (λ x. one id x + occurrences (tree_at p1 left) x + occurrences (tree_at p2 right) x)
      step2 = Step-then since birth p p1 p2 _ _ _ step1 (Step-beside since birth p1 p2 (occurrences o.r) (occurrences (tree_at p2 right)) _ _ k.step (λ x. omega arith) (λ x. omega arith))

      apart2 : (x : ℕ) → one id x + occurrences (tree_at p1 left) x + occurrences (tree_at p2 right) x ≤ 1
      apart2 x = omega (arith, step2.balance x, within x, plain_count_most p2 x)

      left_there : Stands p2 (tree_at p1 left)
      left_there = Stands-step since birth p1 p2 (occurrences o.r) (occurrences (tree_at p2 right)) (tree_at p1 left) k.step (λ x h. omega (arith, apart1 x)) i.stands

      merged : merge_keys cmp run (keys t) ≡ keys (tree_at p1 left) ++ node.key ∷ keys (tree_at p2 right)
      merged = ap (λ u. merge_keys cmp run (keys u)) o.is ∙ merge_node cmp total run low high node.key (keys o.l) (keys o.r) cut rises
          ∙ ap (λ ks. ks ++ node.key ∷ merge_keys cmp high (keys o.r)) (sym i.keys_are) ∙ ap (λ ks. keys (tree_at p1 left) ++ node.key ∷ ks) (sym k.keys_are)

      pub sum_fits : c + d ≤ length run
      sum_fits = omega (arith, i.at_most, k.at_most, few_in)

      pub same_done : c + d ≡ 0 → Merges cmp since birth p p2 root 0 t run (tree_at p2 root)
      same_done none =
          let a = i.still (omega arith) in
          let b = k.still (omega arith) in
          let pools : p2 ≡ p = b.0 ∙ a.0 in
          let e : keys t ≡ merge_keys cmp run (keys t) = ap keys o.is ∙ ap (λ u. keys u ++ node.key ∷ keys o.r) (sym a.1) ∙ ap (λ u. keys (tree_at p1 left) ++ node.key ∷ keys u) (sym b.1) ∙ sym merged in
          let m = merges_same cmp since birth p root t run can.set e in
          subst (λ q. Merges cmp since birth p q root 0 t run (tree_at q root)) (sym pools) (subst (Merges cmp since birth p p root 0 t run) (sym (tree_in p root t can.set.root_is can.set.stands)) m)

      top_there : node_at p2 id ≡ Some node
      top_there =
          let at1 = i.step.kept id node found (inl (omega (arith, apart_in id, one_same id, plain_count_most p id))) in
          k.step.kept id node at1 (inl (omega (arith, apart1 id, one_same id)))

      pub top_used : IsSome (node_at p2 id)
      top_used = ap is_some top_there

      pub union_plain : mark_at p2 id ≡ plain
      union_plain = (plain_found p2 id (omega (arith, step2.balance id, within id, one_same id))).1

      module _ (grew : 0 < c + d) where
        cost : union_cost since (height o.l) c + union_cost since (height o.r) d + copies since 1 + copies since (3 * (c + d)) ≤ union_cost since (height t) (c + d)
        cost = cost_level since (height o.l) (height o.r) (height t) c d (c + d) (omega (arith, heights)) (omega (arith, heights)) (omega arith) grew

        whole_cost : union_cost since (height t) (c + d) ≤ union_cost since (height t) (length run)
        whole_cost = cost_side since (height t) (c + d) (height t) (length run) (omega arith) sum_fits

        join_cost : copies since (joins (height (tree_at p1 left)) (height (tree_at p2 right))) ≤ copies since (3 * (c + d))
        join_cost = joins_grown since (height o.l) (height o.r) (height (tree_at p1 left)) (height (tree_at p2 right)) c d near.0.0 near.0.1 i.not_lower i.growth k.not_lower k.growth grew

        left_over : min (copies since 1 + copies since (joins (height (tree_at p1 left)) (height (tree_at p2 right)) + 2)) (older_birth since node.birth + older_count since (tree_at p1 left) + older_count since (tree_at p2 right)) ≤ room p2
        left_over = omega (arith, can.has_room, cost, whole_cost, join_cost, few_in, older, i.total, i.few, i.copied, i.at_most, k.total, k.few, k.copied, k.at_most, copies_add since (joins (height (tree_at p1 left)) (height (tree_at p2 right))) 2)

        pub top_room : IsOlder since p2 id → 0 < room p2
        top_room h = let c = older_counts since p2 id node top_there h in omega (arith, left_over, c.0, copies_some since 1 c.1)

        module _ (p3 : Nodes) (top : ℕ) (w : CopiesIfOlder since birth p2 p3 id top) where
          copied : Step since birth p2 p3 (one id) (one top)
          copied = CopiesIfOlder-step since birth p2 p3 id top w

          step3 : Step since birth p p3 (λ x. one id x + occurrences o.l x + occurrences o.r x) (λ x. one top x + occurrences (tree_at p1 left) x + occurrences (tree_at p2 right) x)
          step3 = Step-then since birth p p2 p3 _ _ _ step2 (Step-beside since birth p2 p3 (one id) (one top) _ _ copied (λ x. omega arith) (λ x. omega arith))

          left_stays : Stands p3 (tree_at p1 left)
          left_stays = Stands-step since birth p2 p3 (one id) (one top) (tree_at p1 left) copied (λ x h. omega (arith, apart2 x)) left_there

          right_stays : Stands p3 (tree_at p2 right)
          right_stays = Stands-step since birth p2 p3 (one id) (one top) (tree_at p2 right) copied (λ x h. omega (arith, apart2 x)) k.stands

          left_now : tree_at p3 left ≡ tree_at p1 left
          left_now = tree_in p3 left (tree_at p1 left) i.root left_stays

          right_now : tree_at p3 right ≡ tree_at p2 right
          right_now = tree_in p3 right (tree_at p2 right) k.root right_stays

          pub join_can : CanJoin since p3 top left (tree_at p3 left) right (tree_at p3 right)
          join_can =
              let j : CanJoin since p3 top left (tree_at p1 left) right (tree_at p2 right) = record {
                can = record {
                  left_root = i.root;
                  right_root = k.root;
                  left_stands = left_stays;
                  right_stands = right_stays;
                  left_balanced = i.balanced;
                  right_balanced = k.balanced;
                  apart = λ x. omega (arith, step3.balance x, within x);
                  writable = record { used = w.used; recent = w.recent };
                  left_fits = fits (tree_at p1 left) i.balanced (omega (arith, i.counted, i.at_most, can.small, counts, few_in));
                  right_fits = fits (tree_at p2 right) k.balanced (omega (arith, k.counted, k.at_most, can.small, counts, few_in));
                  has_room = omega (arith, left_over, w.total, w.few, w.copied node top_there, copies_add since (joins (height (tree_at p1 left)) (height (tree_at p2 right))) 2);
                };
                enough = omega (arith, left_over, w.total, w.few, w.copied node top_there);
              } in
              subst (λ u. CanJoin since p3 top left (tree_at p3 left) right u) (sym right_now) (subst (λ u. CanJoin since p3 top left u right (tree_at p2 right)) (sym left_now) j)

          -- a side that gained nothing, or whose height was read, is as high as it was
          pub kept_can : (a b : ℕ) (kept : Option ℕ) → a ≡ height_at p node.left → b ≡ height_at p node.right → IfSome kept (λ h. h ≡ node.height) → OnSome kept (0 < c → height_at p3 left ≡ a) → OnSome kept (0 < d → height_at p3 right ≡ b) → IfSome kept (KeepsHeight p3 left right)
          kept_can a b None ha hb e ca db = tt
          kept_can a b (Some h) ha hb e ca db =
              let hl = side_kept (height o.l) (height_at p3 left) c (λ z. height_in p3 left (tree_at p1 left) i.root left_stays ∙ ap height (i.still z).1) (λ some. ca some ∙ ha ∙ height_in p node.left o.l o.left_is o.sl) in
              let hr = side_kept (height o.r) (height_at p3 right) d (λ z. height_in p3 right (tree_at p2 right) k.root right_stays ∙ ap height (k.still z).1) (λ some. db some ∙ hb ∙ height_in p node.right o.r o.right_is o.sr) in
              ((omega (arith, hl, hr, near.0.0), omega (arith, hl, hr, near.0.1)), omega (arith, e, hl, hr, o.height_is))

          pub join_done : (p4 : Nodes) (result : ℕ) (new : Tree) → Settled since birth p3 p4 top result node.key (tree_at p3 left) (tree_at p3 right) new → Merges cmp since birth p p4 (Some result) (c + d) t run new
          join_done p4 result new s0 =
              let s : Settled since birth p3 p4 top result node.key (tree_at p1 left) (tree_at p2 right) new =
              subst (λ u. Settled since birth p3 p4 top result node.key (tree_at p1 left) u new) right_now (subst (λ u. Settled since birth p3 p4 top result node.key u (tree_at p3 right) new) left_now s0) in
              let h1 : height new ≤ max (height (tree_at p1 left)) (height (tree_at p2 right)) + 1 = s.height_is.1 in
              record {
                root = sym s.root;
                stands = s.stands;
                balanced = s.balanced;
                keys_are = s.keys_are ∙ sym merged;
                births = λ dt bt. let e : Descends (fork id o.birth o.l node.key o.r) = subst Descends o.is dt in let f : o.birth ≤ birth = subst (BirthAtMost birth) o.is bt in
                    let a = i.births e.2 (BirthAtMost-later o.birth birth o.l f e.0) in let b = k.births e.3 (BirthAtMost-later o.birth birth o.r f e.1) in s.births a.0 b.0 a.1 b.1;
                not_lower = omega (arith, heights, both_grew (height o.l) (height o.r) (height (tree_at p1 left)) (height (tree_at p2 right)) (height new) near.0.0 near.0.1 i.not_lower k.not_lower s.height_is);
                growth = omega (arith, heights, h1, i.growth, k.growth, grew);
                step = Step-beside since birth p p4 _ _ _ _ (Step-then since birth p p3 p4 _ _ _ step3 s.step) (λ x. omega (arith, ap (λ u. occurrences u x) o.is)) (λ x. omega (arith, ap (λ u. occurrences u x) o.is));
                total = omega (arith, i.total, k.total, w.total, s.total);
                few = omega (arith, i.few, k.few, w.few, s.few, cost, join_cost);
                copied = omega (arith, older, i.copied, k.copied, w.copied node top_there, s.copied);
                exact = omega (arith, i.exact, k.exact, w.exact, s.exact);
                counted = omega (arith, ap length s.keys_are, length-append (keys (tree_at p1 left)) (node.key ∷ keys (tree_at p2 right)), i.counted, k.counted, counts);
                at_most = sum_fits;
                still = λ z. absurd (omega arith);
              }
