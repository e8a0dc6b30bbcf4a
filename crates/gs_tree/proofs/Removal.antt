-- One level of a removal.
use Rattle.std.proofs.Common.{◌≡◌, ℕ, ◌+◌, ◌*◌, ◌<◌, ◌≤◌, max, min, List, [], ◌∷◌, ◌++◌, Option, Some, None, IsSome, refl, sym, ap, subst, ◌∙◌, arith}
use Rattle.std.specs.declared.cmp.Ordering.{Ordering}
use Rattle.std.specs.declared.cmp.Ordering.TheVariants.{Less, Equal, Greater}
use Rattle.std.specs.Cmp.{IsTotalOrder}
use Rattle.gs_tree.specs.Keys.{IsRising, HasKey, remove_key}
use Rattle.gs_tree.proofs.Order.{rising_front, rising_back}
use Rattle.gs_tree.proofs.RemovalOrder.{remove_left, remove_right, remove_here, has_left, has_right}
use Rattle.gs_pool.specs.declared.nodes.Key.{Key}
use Rattle.gs_pool.specs.declared.nodes.Node.{Node}
use Rattle.gs_pool.specs.Pool.{Nodes, plain, node_at, mark_at, room}
use Rattle.gs_tree.specs.Tree.{Tree, leaf, fork, root_of, height, keys, occurrences, Stands, IsBalanced, BirthAtMost, Descends, height_at, tree_at, DifferByAtMost, older_birth, older_count}
use Rattle.gs_tree.specs.Steps.{plain_count, one, IsOlder, CopiesIfOlder}
use Rattle.gs_tree.specs.Joining.{CanSettle, Settled, copies}
use Rattle.gs_tree.specs.Shrinking.{CanShrink, Shrinks, Discards, remove_cost}
use Rattle.gs_tree.proofs.TreeLemmas.{plain_count_most, Stands-step, Step-then, Step-beside, BirthAtMost-later, no_root_leaf}
use Rattle.gs_tree.proofs.Rotations.{height_in, tree_in}
use Rattle.gs_tree.proofs.Levels.{Opened, opened, ChildDone, child_done, side_off, top_stays, top_same, top_plain, root_plain, opened_older, older_counts}
use Rattle.gs_tree.proofs.Costs.{copies_some, copies_add, copies_mono, joins_near}
use Rattle.gs_tree.proofs.Heights.{shrunk}

module _ (since birth : ℕ) (p : Nodes) (root : Option ℕ) (t : Tree) (can : CanShrink since p root t) (id : ℕ) (node : Node) (is : root ≡ Some id) (found : node_at p id ≡ Some node) where
  pub o : Opened p id node t
  o = opened p root id node t can.root_is can.stands is found

  apart_in : (i : ℕ) → one id i + occurrences o.l i + occurrences o.r i ≤ plain_count p i
  apart_in i = omega (arith, can.apart i, ap (λ u. occurrences u i) o.is)

  heights : height t ≡ max (height o.l) (height o.r) + 1
  heights = ap height o.is

  near : IsBalanced (fork id o.birth o.l node.key o.r)
  near = subst IsBalanced o.is can.balanced

  pub left_is : tree_at p node.left ≡ o.l
  left_is = tree_in p node.left o.l o.left_is o.sl

  pub right_is : tree_at p node.right ≡ o.r
  right_is = tree_in p node.right o.r o.right_is o.sr

  older : older_count since t ≡ older_birth since node.birth + older_count since o.l + older_count since o.r
  older = opened_older since p id node t o

  side_room : (h : ℕ) → h + 1 ≤ height t → min (remove_cost since h + copies since 3) (older_count since t) ≤ room p
  side_room h le =
      let add : copies since (3 * h + 3) ≡ copies since (3 * h) + copies since 3 = copies_add since (3 * h) 3 in
      let mono : copies since (3 * h + 3) ≤ copies since (3 * height t) = copies_mono since _ _ (omega arith) in
      omega (arith, can.has_room, add, mono)

  side_cost : (h : ℕ) → h + 1 ≤ height t → copies since (3 * h) + copies since 1 + copies since 2 ≤ copies since (3 * height t)
  side_cost h le = omega (arith, copies_add since (3 * h) 3, copies_add since 1 2, copies_mono since (3 * h + 3) (3 * height t) (omega arith))

  pub left_can : CanShrink since p node.left (tree_at p node.left)
  left_can = subst (CanShrink since p node.left) (sym left_is) (record { root_is = o.left_is; stands = o.sl; balanced = near.1; apart = λ i. omega (arith, apart_in i); fits = omega (arith, heights, can.fits); has_room = omega (arith, older, side_room (height o.l) (omega (arith, heights))) })

  pub right_can : CanShrink since p node.right (tree_at p node.right)
  right_can = subst (CanShrink since p node.right) (sym right_is) (record { root_is = o.right_is; stands = o.sr; balanced = near.2; apart = λ i. omega (arith, apart_in i); fits = omega (arith, heights, can.fits); has_room = omega (arith, older, side_room (height o.r) (omega (arith, heights))) })

  pub left_falls : height_at p node.left < height_at p root
  left_falls = omega (arith, height_in p node.left o.l o.left_is o.sl, height_in p root t can.root_is can.stands, heights)

  pub right_falls : height_at p node.right < height_at p root
  right_falls = omega (arith, height_in p node.right o.r o.right_is o.sr, height_in p root t can.root_is can.stands, heights)

  pub here_plain : mark_at p id ≡ plain
  here_plain = root_plain p root id node t can.root_is can.stands is found can.apart

  -- the top goes, and one side is empty
  top_goes : (q : Nodes) (side : Option ℕ) (a : Tree) → older_count since t ≡ older_birth since node.birth + older_count since a → Discards since p q id → side ≡ root_of a → Stands p a → IsBalanced a → ((x : ℕ) → occurrences t x ≡ one id x + occurrences a x) → height t ≡ height a + 1 → (Descends t → BirthAtMost birth t → Descends a × BirthAtMost birth a) → Shrinks since birth p q side t (tree_at q side)
  top_goes q side a counts d side_is sa ba has high births =
      let stands = Stands-step since birth p q (one id) (λ x. 0) a (d.step birth) (λ x h. omega (arith, can.apart x, has x, plain_count_most p x)) sa in
      subst (Shrinks since birth p q side t) (sym (tree_in q side a side_is stands)) (record {
        root = side_is;
        stands = stands;
        balanced = ba;
        births = births;
        not_higher = omega (arith, high);
        one_lower = omega (arith, high);
        step = Step-beside since birth p q (one id) (λ x. 0) (occurrences t) (occurrences a) (d.step birth) (λ x. omega (arith, has x)) (λ x. omega (arith, has x));
        total = d.total;
        few = omega (arith, d.few);
        copied = omega (arith, d.copied node found, counts);
        exact = d.exact;
      })

  pub no_left : (q : Nodes) → Discards since p q id → node.left ≡ None → (Shrinks since birth p q node.right t (tree_at q node.right)) × (keys t ≡ node.key ∷ keys (tree_at q node.right))
  no_left q d none =
      let empty : o.l ≡ leaf = no_root_leaf o.l (sym o.left_is ∙ none) in (
        top_goes q node.right o.r (omega (arith, older, ap (older_count since) empty)) d o.right_is o.sr near.2
            (λ x. omega (arith, ap (λ u. occurrences u x) o.is, ap (λ u. occurrences u x) empty))
            (omega (arith, heights, ap height empty))
            (λ e b. let f : Descends (fork id o.birth o.l node.key o.r) = subst Descends o.is e in let g : o.birth ≤ birth = subst (BirthAtMost birth) o.is b in (f.3, BirthAtMost-later o.birth birth o.r g f.1)),
        ap keys o.is ∙ ap (λ u. keys u ++ node.key ∷ keys o.r) empty ∙ ap (λ u. node.key ∷ keys u) (sym (tree_in q node.right o.r o.right_is (Stands-step since birth p q (one id) (λ x. 0) o.r (d.step birth) (λ x h. omega (arith, apart_in x, plain_count_most p x)) o.sr))),
      )

  pub no_right : (q : Nodes) → Discards since p q id → node.right ≡ None → (Shrinks since birth p q node.left t (tree_at q node.left)) × (o.r ≡ leaf)
  no_right q d none =
      let empty : o.r ≡ leaf = no_root_leaf o.r (sym o.right_is ∙ none) in (
        top_goes q node.left o.l (omega (arith, older, ap (older_count since) empty)) d o.left_is o.sl near.1
            (λ x. omega (arith, ap (λ u. occurrences u x) o.is, ap (λ u. occurrences u x) empty))
            (omega (arith, heights, ap height empty))
            (λ e b. let f : Descends (fork id o.birth o.l node.key o.r) = subst Descends o.is e in let g : o.birth ≤ birth = subst (BirthAtMost birth) o.is b in (f.2, BirthAtMost-later o.birth birth o.l g f.0)),
        empty,
      )

  module _ (p1 : Nodes) (left : Option ℕ) (i0 : Shrinks since birth p p1 left (tree_at p node.left) (tree_at p1 left)) where
    i : Shrinks since birth p p1 left o.l (tree_at p1 left)
    i = subst (λ u. Shrinks since birth p p1 left u (tree_at p1 left)) left_is i0

    pub left_used : IsSome (node_at p1 id)
    left_used = top_stays since birth p p1 id node (occurrences o.l) (occurrences (tree_at p1 left)) found (side_off p id node t o can.apart).0 i.step

    pub left_plain : mark_at p1 id ≡ plain
    left_plain = top_plain since birth p p1 id (occurrences o.l) (occurrences (tree_at p1 left)) (occurrences o.r) i.step (λ x. omega (arith, apart_in x))

    left_there : node_at p1 id ≡ Some node
    left_there = top_same since birth p p1 id node (occurrences o.l) (occurrences (tree_at p1 left)) found (side_off p id node t o can.apart).0 i.step

    left_over : min (copies since 1 + copies since 2) (older_birth since node.birth + older_count since (tree_at p1 left) + older_count since o.r) ≤ room p1
    left_over = omega (arith, side_room (height o.l) (omega (arith, heights)), copies_add since 1 2, older, i.total, i.few, i.copied)

    pub left_room : IsOlder since p1 id → 0 < room p1
    left_room h = let c = older_counts since p1 id node left_there h in omega (arith, left_over, c.0, copies_some since 1 c.1)

    module _ (p2 : Nodes) (top : ℕ) (w : CopiesIfOlder since birth p1 p2 id top) where
      after : ChildDone since birth p p2 id top (occurrences o.l) (tree_at p1 left) o.r
      after = child_done since birth p p1 p2 id top (occurrences o.l) (tree_at p1 left) o.r o.sr (λ j. apart_in j) i.stands i.step w

      left_now : tree_at p2 left ≡ tree_at p1 left
      left_now = tree_in p2 left (tree_at p1 left) i.root after.child

      right_now : tree_at p2 node.right ≡ o.r
      right_now = tree_in p2 node.right o.r o.right_is after.other

      pub left_settle : CanSettle since p2 top left (tree_at p2 left) node.right (tree_at p2 node.right)
      left_settle =
          let c : CanSettle since p2 top left (tree_at p1 left) node.right o.r = record {
            left_root = i.root;
            right_root = o.right_is;
            left_stands = after.child;
            right_stands = after.other;
            left_balanced = i.balanced;
            right_balanced = near.2;
            apart = after.apart;
            writable = after.writable;
            left_fits = omega (arith, heights, can.fits, i.not_higher);
            right_fits = omega (arith, heights, can.fits);
            has_room = omega (arith, left_over, w.total, w.few, w.copied node left_there);
          } in
          subst (λ u. CanSettle since p2 top left (tree_at p2 left) node.right u) (sym right_now) (subst (λ u. CanSettle since p2 top left u node.right o.r) (sym left_now) c)

      pub left_near : DifferByAtMost 2 (height (tree_at p2 left)) (height (tree_at p2 node.right))
      left_near =
          let n0 : height o.l ≤ height o.r + 1 = near.0.0 in
          let n1 : height o.r ≤ height o.l + 1 = near.0.1 in
          (omega (arith, ap height left_now, ap height right_now, i.not_higher, i.one_lower), omega (arith, ap height left_now, ap height right_now, i.not_higher, i.one_lower))

      pub left_done : (p3 : Nodes) (result : ℕ) (key : Key) (new : Tree) → Settled since birth p2 p3 top result key (tree_at p2 left) (tree_at p2 node.right) new → (Shrinks since birth p p3 (Some result) t new) × (keys new ≡ keys (tree_at p1 left) ++ key ∷ keys o.r)
      left_done p3 result key new s0 =
          let s : Settled since birth p2 p3 top result key (tree_at p1 left) o.r new =
          subst (λ u. Settled since birth p2 p3 top result key (tree_at p1 left) u new) right_now (subst (λ u. Settled since birth p2 p3 top result key u (tree_at p2 node.right) new) left_now s0) in
          let low = shrunk (height o.l) (height (tree_at p1 left)) (height o.r) (height new) near.0.0 near.0.1 i.not_higher i.one_lower s.height_is in (
            record {
              root = sym s.root;
              stands = s.stands;
              balanced = s.balanced;
              births = λ e b. let f : Descends (fork id o.birth o.l node.key o.r) = subst Descends o.is e in let g : o.birth ≤ birth = subst (BirthAtMost birth) o.is b in
                  let ch = i.births f.2 (BirthAtMost-later o.birth birth o.l g f.0) in s.births ch.0 f.3 ch.1 (BirthAtMost-later o.birth birth o.r g f.1);
              not_higher = omega (arith, heights, low.0);
              one_lower = omega (arith, heights, low.1);
              step = Step-beside since birth p p3 _ _ _ _ (Step-then since birth p p2 p3 _ _ _ after.step s.step) (λ j. omega (arith, ap (λ u. occurrences u j) o.is)) (λ j. omega (arith, ap (λ u. occurrences u j) o.is));
              total = omega (arith, i.total, w.total, s.total);
              copied = omega (arith, older, i.copied, w.copied node left_there, s.copied);
              exact = omega (arith, i.exact, w.exact, s.exact);
              few = omega (arith, i.few, w.few, s.few, side_cost (height o.l) (omega (arith, heights)), joins_near since (height (tree_at p1 left)) (height o.r) (omega (arith, near.0.0, near.0.1, i.not_higher, i.one_lower), omega (arith, near.0.0, near.0.1, i.not_higher, i.one_lower)));
            },
            s.keys_are,
          )

  module _ (p1 : Nodes) (right : Option ℕ) (i0 : Shrinks since birth p p1 right (tree_at p node.right) (tree_at p1 right)) where
    k : Shrinks since birth p p1 right o.r (tree_at p1 right)
    k = subst (λ u. Shrinks since birth p p1 right u (tree_at p1 right)) right_is i0

    pub right_used : IsSome (node_at p1 id)
    right_used = top_stays since birth p p1 id node (occurrences o.r) (occurrences (tree_at p1 right)) found (side_off p id node t o can.apart).1 k.step

    pub right_plain : mark_at p1 id ≡ plain
    right_plain = top_plain since birth p p1 id (occurrences o.r) (occurrences (tree_at p1 right)) (occurrences o.l) k.step (λ x. omega (arith, apart_in x))

    right_there : node_at p1 id ≡ Some node
    right_there = top_same since birth p p1 id node (occurrences o.r) (occurrences (tree_at p1 right)) found (side_off p id node t o can.apart).1 k.step

    right_over : min (copies since 1 + copies since 2) (older_birth since node.birth + older_count since o.l + older_count since (tree_at p1 right)) ≤ room p1
    right_over = omega (arith, side_room (height o.r) (omega (arith, heights)), copies_add since 1 2, older, k.total, k.few, k.copied)

    pub right_room : IsOlder since p1 id → 0 < room p1
    right_room h = let c = older_counts since p1 id node right_there h in omega (arith, right_over, c.0, copies_some since 1 c.1)

    module _ (p2 : Nodes) (top : ℕ) (w : CopiesIfOlder since birth p1 p2 id top) where
      after_right : ChildDone since birth p p2 id top (occurrences o.r) (tree_at p1 right) o.l
      after_right = child_done since birth p p1 p2 id top (occurrences o.r) (tree_at p1 right) o.l o.sl (λ j. omega (arith, apart_in j)) k.stands k.step w

      fallen_now : tree_at p2 right ≡ tree_at p1 right
      fallen_now = tree_in p2 right (tree_at p1 right) k.root after_right.child

      other_now : tree_at p2 node.left ≡ o.l
      other_now = tree_in p2 node.left o.l o.left_is after_right.other

      pub right_settle : CanSettle since p2 top node.left (tree_at p2 node.left) right (tree_at p2 right)
      right_settle =
          let c : CanSettle since p2 top node.left o.l right (tree_at p1 right) = record {
            left_root = o.left_is;
            right_root = k.root;
            left_stands = after_right.other;
            right_stands = after_right.child;
            left_balanced = near.1;
            right_balanced = k.balanced;
            apart = λ j. omega (arith, after_right.apart j);
            writable = after_right.writable;
            left_fits = omega (arith, heights, can.fits);
            right_fits = omega (arith, heights, can.fits, k.not_higher);
            has_room = omega (arith, right_over, w.total, w.few, w.copied node right_there);
          } in
          subst (λ u. CanSettle since p2 top node.left u right (tree_at p2 right)) (sym other_now) (subst (λ u. CanSettle since p2 top node.left o.l right u) (sym fallen_now) c)

      pub right_near : DifferByAtMost 2 (height (tree_at p2 node.left)) (height (tree_at p2 right))
      right_near =
          let n0 : height o.l ≤ height o.r + 1 = near.0.0 in
          let n1 : height o.r ≤ height o.l + 1 = near.0.1 in
          (omega (arith, ap height fallen_now, ap height other_now, k.not_higher, k.one_lower), omega (arith, ap height fallen_now, ap height other_now, k.not_higher, k.one_lower))

      pub right_done : (p3 : Nodes) (result : ℕ) (key : Key) (new : Tree) → Settled since birth p2 p3 top result key (tree_at p2 node.left) (tree_at p2 right) new → (Shrinks since birth p p3 (Some result) t new) × (keys new ≡ keys o.l ++ key ∷ keys (tree_at p1 right))
      right_done p3 result key new s0 =
          let s : Settled since birth p2 p3 top result key o.l (tree_at p1 right) new =
          subst (λ u. Settled since birth p2 p3 top result key o.l u new) fallen_now (subst (λ u. Settled since birth p2 p3 top result key u (tree_at p2 right) new) other_now s0) in
          let h0 : max (height o.l) (height (tree_at p1 right)) ≤ height new = s.height_is.0 in
          let h1 : height new ≤ max (height o.l) (height (tree_at p1 right)) + 1 = s.height_is.1 in
          let low = shrunk (height o.r) (height (tree_at p1 right)) (height o.l) (height new) near.0.1 near.0.0 k.not_higher k.one_lower (omega arith, omega arith, λ e. omega (arith, s.height_is.2 (e.1, e.0))) in (
            record {
              root = sym s.root;
              stands = s.stands;
              balanced = s.balanced;
              births = λ e b. let f : Descends (fork id o.birth o.l node.key o.r) = subst Descends o.is e in let g : o.birth ≤ birth = subst (BirthAtMost birth) o.is b in
                  let ch = k.births f.3 (BirthAtMost-later o.birth birth o.r g f.1) in s.births f.2 ch.0 (BirthAtMost-later o.birth birth o.l g f.0) ch.1;
              not_higher = omega (arith, heights, low.0);
              one_lower = omega (arith, heights, low.1);
              step = Step-beside since birth p p3 _ _ _ _ (Step-then since birth p p2 p3 _ _ _ after_right.step (Step-beside since birth p2 p3 (λ j. one top j + occurrences o.l j + occurrences (tree_at p1 right) j) (occurrences new) (λ j. one top j + occurrences (tree_at p1 right) j + occurrences o.l j) (occurrences new) s.step (λ j. omega arith) (λ j. omega arith))) (λ j. omega (arith, ap (λ u. occurrences u j) o.is)) (λ j. omega (arith, ap (λ u. occurrences u j) o.is));
              total = omega (arith, k.total, w.total, s.total);
              copied = omega (arith, older, k.copied, w.copied node right_there, s.copied);
              exact = omega (arith, k.exact, w.exact, s.exact);
              few = omega (arith, k.few, w.few, s.few, side_cost (height o.r) (omega (arith, heights)), joins_near since (height o.l) (height (tree_at p1 right)) (omega (arith, near.0.0, near.0.1, k.not_higher, k.one_lower), omega (arith, near.0.0, near.0.1, k.not_higher, k.one_lower)));
            },
            s.keys_are,
          )

  -- the keys, by the answer of the comparison
  module _ (cmp : Key → Key → Ordering) (total : IsTotalOrder cmp) (key : Key) (rising : IsRising cmp (keys t)) (has : HasKey cmp key (keys t)) where
    rises : IsRising cmp (keys o.l ++ node.key ∷ keys o.r)
    rises = subst (λ u. IsRising cmp (keys u)) o.is rising

    in_keys : HasKey cmp key (keys o.l ++ node.key ∷ keys o.r)
    in_keys = subst (λ u. HasKey cmp key (keys u)) o.is has

    pub less_can : cmp key node.key ≡ Less → IsRising cmp (keys (tree_at p node.left)) × HasKey cmp key (keys (tree_at p node.left))
    less_can h = (subst (λ u. IsRising cmp (keys u)) (sym left_is) (rising_front cmp total _ _ rises), subst (λ u. HasKey cmp key (keys u)) (sym left_is) (has_left cmp total key node.key (keys o.l) (keys o.r) h rises in_keys))

    pub greater_can : cmp key node.key ≡ Greater → IsRising cmp (keys (tree_at p node.right)) × HasKey cmp key (keys (tree_at p node.right))
    greater_can h = (subst (λ u. IsRising cmp (keys u)) (sym right_is) (rising_back cmp total _ _ _ rises), subst (λ u. HasKey cmp key (keys u)) (sym right_is) (has_right cmp total key node.key (keys o.l) (keys o.r) h rises in_keys))

    pub less_keys : (ks new : List Key) → cmp key node.key ≡ Less → ks ≡ remove_key cmp key (keys (tree_at p node.left)) → new ≡ ks ++ node.key ∷ keys o.r → new ≡ remove_key cmp key (keys t)
    less_keys ks new h e f = f ∙ ap (λ xs. xs ++ node.key ∷ keys o.r) (e ∙ ap (λ u. remove_key cmp key (keys u)) left_is) ∙ sym (remove_left cmp total key node.key (keys o.l) (keys o.r) h) ∙ ap (λ u. remove_key cmp key (keys u)) (sym o.is)

    pub greater_keys : (ks new : List Key) → cmp key node.key ≡ Greater → ks ≡ remove_key cmp key (keys (tree_at p node.right)) → new ≡ keys o.l ++ node.key ∷ ks → new ≡ remove_key cmp key (keys t)
    greater_keys ks new h e f = f ∙ ap (λ xs. keys o.l ++ node.key ∷ xs) (e ∙ ap (λ u. remove_key cmp key (keys u)) right_is) ∙ sym (remove_right cmp total key node.key (keys o.l) (keys o.r) h rises) ∙ ap (λ u. remove_key cmp key (keys u)) (sym o.is)

    pub equal_keys : (least : Key) (ks new : List Key) → cmp key node.key ≡ Equal → keys (tree_at p node.right) ≡ least ∷ ks → new ≡ keys o.l ++ least ∷ ks → new ≡ remove_key cmp key (keys t)
    equal_keys least ks new h e f = f ∙ ap (λ xs. keys o.l ++ xs) (sym e ∙ ap keys right_is) ∙ sym (remove_here cmp total key node.key (keys o.l) (keys o.r) h rises) ∙ ap (λ u. remove_key cmp key (keys u)) (sym o.is)

    pub last_keys : (q : Nodes) → Discards since p q id → node.right ≡ None → cmp key node.key ≡ Equal → keys (tree_at q node.left) ≡ remove_key cmp key (keys t)
    last_keys q d none h =
        let empty = (no_right q d none).1 in
        ap keys (tree_in q node.left o.l o.left_is (Stands-step since birth p q (one id) (λ x. 0) o.l (d.step birth) (λ x g. omega (arith, apart_in x, plain_count_most p x)) o.sl))
        ∙ sym (append_nil (keys o.l)) ∙ ap (λ u. keys o.l ++ keys u) (sym empty)
        ∙ sym (remove_here cmp total key node.key (keys o.l) (keys o.r) h rises) ∙ ap (λ u. remove_key cmp key (keys u)) (sym o.is)
      where
        append_nil : (xs : List Key) → xs ++ [] ≡ xs
        append_nil [] = refl
        append_nil (x ∷ xs) = ap (λ ys. x ∷ ys) (append_nil xs)
