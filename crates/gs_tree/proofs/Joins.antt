-- One level of a join.
use Rattle.std.proofs.Common.{◌≡◌, ℕ, ◌+◌, ◌-◌, ◌<◌, ◌≤◌, max, min, ◌∷◌, ◌++◌, Option, Some, IsSome, sym, ap, subst, ◌∙◌, arith}
use Rattle.gs_pool.specs.declared.nodes.Key.{Key}
use Rattle.gs_pool.specs.declared.nodes.Node.{Node}
use Rattle.gs_pool.specs.Pool.{Nodes, plain, node_at, mark_at}
use Rattle.gs_tree.specs.Tree.{Tree, fork, height, keys, occurrences, IsBalanced, BirthAtMost, Descends, height_at, tree_at, DifferByAtMost, older_birth, older_count}
use Rattle.gs_tree.specs.Steps.{plain_count, one, IsOlder, CopiesIfOlder}
use Rattle.gs_tree.specs.Joining.{CanSettle, CanJoin, Settled, copies, joins}
use Rattle.gs_pool.specs.Pool.{room}
use Rattle.gs_tree.proofs.TreeLemmas.{one_same, plain_count_most, Step-then, Step-beside, BirthAtMost-later}
use Rattle.gs_tree.proofs.Rotations.{height_in, tree_in, regroup}
use Rattle.gs_tree.proofs.Costs.{copies_some, copies_add, copies_mono, joins_near, joins_level, joins_flip}
use Rattle.gs_tree.proofs.Levels.{Opened, opened, ChildDone, child_done, settled_low, top_stays, top_same, top_plain, opened_older, older_counts}

-- the left tree is the higher one
module _ (since birth : ℕ) (p : Nodes) (top : ℕ) (key : Key) (left : Option ℕ) (l : Tree) (right : Option ℕ) (r : Tree) (can : CanJoin since p top left l right r) (id : ℕ) (node : Node) (is : left ≡ Some id) (found : node_at p id ≡ Some node) (high : height r + 2 < height l) where
  o : Opened p id node l
  o = opened p left id node l can.can.left_root can.can.left_stands is found

  heights : height l ≡ max (height o.l) (height o.r) + 1
  heights = ap height o.is

  near : IsBalanced (fork id o.birth o.l node.key o.r)
  near = subst IsBalanced o.is can.can.left_balanced

  apart_in : (i : ℕ) → one top i + one id i + occurrences o.l i + occurrences o.r i + occurrences r i ≤ plain_count p i
  apart_in i = omega (arith, can.can.apart i, ap (λ u. occurrences u i) o.is)

  inner_is : tree_at p node.right ≡ o.r
  inner_is = tree_in p node.right o.r o.right_is o.sr

  low : (height o.r + 1 ≤ height l) × (height l ≤ height o.r + 2)
  low = let n0 : height o.l ≤ height o.r + 1 = near.0.0 in (omega (arith, heights), omega (arith, heights))

  cost : copies since (joins (height o.r) (height r)) + copies since 1 + copies since 2 ≤ copies since (joins (height l) (height r))
  cost = joins_level since (height l) (height o.r) (height r) high low.0 low.1

  older : older_count since l ≡ older_birth since node.birth + older_count since o.l + older_count since o.r
  older = opened_older since p id node l o

  spare : min (copies since (joins (height o.r) (height r) + 2) + copies since 1 + copies since 2) (older_count since l + older_count since r) ≤ room p
  spare = omega (arith, can.enough, cost, copies_add since (joins (height o.r) (height r)) 2, copies_add since (joins (height l) (height r)) 2)

  pub right_falls : (height_at p node.right - height_at p right) + (height_at p right - height_at p node.right) < (height_at p left - height_at p right) + (height_at p right - height_at p left)
  right_falls = omega (arith, height_in p node.right o.r o.right_is o.sr, height_in p left l can.can.left_root can.can.left_stands, height_in p right r can.can.right_root can.can.right_stands, low.0, low.1)

  pub right_can : CanJoin since p top node.right (tree_at p node.right) right r
  right_can = subst (λ u. CanJoin since p top node.right u right r) (sym inner_is) (record {
    can = record {
      left_root = o.right_is;
      right_root = can.can.right_root;
      left_stands = o.sr;
      right_stands = can.can.right_stands;
      left_balanced = near.2;
      right_balanced = can.can.right_balanced;
      apart = λ i. omega (arith, apart_in i);
      writable = can.can.writable;
      left_fits = omega (arith, heights, can.can.left_fits);
      right_fits = can.can.right_fits;
      has_room = omega (arith, can.can.has_room, older);
    };
    enough = omega (arith, spare, older);
  })

  module _ (p1 : Nodes) (inner : ℕ) (i0 : Settled since birth p p1 top inner key (tree_at p node.right) r (tree_at p1 (Some inner))) where
    i : Settled since birth p p1 top inner key o.r r (tree_at p1 (Some inner))
    i = subst (λ u. Settled since birth p p1 top inner key u r (tree_at p1 (Some inner))) inner_is i0

    pub right_used : IsSome (node_at p1 id)
    right_used = top_stays since birth p p1 id node (λ x. one top x + occurrences o.r x + occurrences r x) (occurrences (tree_at p1 (Some inner))) found (omega (arith, apart_in id, one_same id, plain_count_most p id)) i.step

    pub right_plain : mark_at p1 id ≡ plain
    right_plain = top_plain since birth p p1 id (λ x. one top x + occurrences o.r x + occurrences r x) (occurrences (tree_at p1 (Some inner))) (occurrences o.l) i.step (λ x. omega (arith, apart_in x))

    right_left : min (copies since 1 + copies since 2) (older_birth since node.birth + older_count since o.l + older_count since (tree_at p1 (Some inner))) ≤ room p1
    right_left = omega (arith, spare, older, i.total, i.few, i.copied, copies_mono since (joins (height o.r) (height r)) (joins (height o.r) (height r) + 2) (omega arith))

    right_there : node_at p1 id ≡ Some node
    right_there = top_same since birth p p1 id node (λ x. one top x + occurrences o.r x + occurrences r x) (occurrences (tree_at p1 (Some inner))) found (omega (arith, apart_in id, one_same id, plain_count_most p id)) i.step

    pub right_room : IsOlder since p1 id → 0 < room p1
    right_room h = let c = older_counts since p1 id node right_there h in omega (arith, right_left, c.0, copies_some since 1 c.1)

    module _ (p2 : Nodes) (turned : ℕ) (w : CopiesIfOlder since birth p1 p2 id turned) where
      after : ChildDone since birth p p2 id turned (λ x. one top x + occurrences o.r x + occurrences r x) (tree_at p1 (Some inner)) o.l
      after = child_done since birth p p1 p2 id turned (λ x. one top x + occurrences o.r x + occurrences r x) (tree_at p1 (Some inner)) o.l o.sl
          (λ x. omega (arith, apart_in x))
          i.stands i.step w

      inner_now : tree_at p2 (Some inner) ≡ tree_at p1 (Some inner)
      inner_now = tree_in p2 (Some inner) (tree_at p1 (Some inner)) (sym i.root) after.child

      other_now : tree_at p2 node.left ≡ o.l
      other_now = tree_in p2 node.left o.l o.left_is after.other

      within : DifferByAtMost 2 (height o.l) (height (tree_at p1 (Some inner)))
      within =
          let n0 : height o.l ≤ height o.r + 1 = near.0.0 in
          let n1 : height o.r ≤ height o.l + 1 = near.0.1 in
          let h0 : max (height o.r) (height r) ≤ height (tree_at p1 (Some inner)) = i.height_is.0 in
          let h1 : height (tree_at p1 (Some inner)) ≤ max (height o.r) (height r) + 1 = i.height_is.1 in
          (omega arith, omega (arith, low.1))

      pub right_settle : CanSettle since p2 turned node.left (tree_at p2 node.left) (Some inner) (tree_at p2 (Some inner))
      right_settle =
          let c : CanSettle since p2 turned node.left o.l (Some inner) (tree_at p1 (Some inner)) = record {
            left_root = o.left_is;
            right_root = sym i.root;
            left_stands = after.other;
            right_stands = after.child;
            left_balanced = near.1;
            right_balanced = i.balanced;
            apart = λ j. omega (arith, after.apart j);
            writable = after.writable;
            left_fits = omega (arith, heights, can.can.left_fits);
            right_fits = omega (arith, heights, can.can.left_fits, i.height_is.1, low.0, high);
            has_room = omega (arith, right_left, w.total, w.few, w.copied node right_there);
          } in
          subst (λ u. CanSettle since p2 turned node.left u (Some inner) (tree_at p2 (Some inner))) (sym other_now)
          (subst (λ u. CanSettle since p2 turned node.left o.l (Some inner) u) (sym inner_now) c)

      pub right_near : DifferByAtMost 2 (height (tree_at p2 node.left)) (height (tree_at p2 (Some inner)))
      right_near = subst (λ u. DifferByAtMost 2 (height u) (height (tree_at p2 (Some inner)))) (sym other_now) (subst (λ u. DifferByAtMost 2 (height o.l) (height u)) (sym inner_now) within)

      pub right_done : (p3 : Nodes) (result : ℕ) (new : Tree) → Settled since birth p2 p3 turned result node.key (tree_at p2 node.left) (tree_at p2 (Some inner)) new → Settled since birth p p3 top result key l r new
      right_done p3 result new s0 =
          let j = tree_at p1 (Some inner) in
          let s : Settled since birth p2 p3 turned result node.key o.l j new =
          subst (λ u. Settled since birth p2 p3 turned result node.key u j new) other_now (subst (λ u. Settled since birth p2 p3 turned result node.key (tree_at p2 node.left) u new) inner_now s0) in
          let n0 : height o.l ≤ height o.r + 1 = near.0.0 in
          let n1 : height o.r ≤ height o.l + 1 = near.0.1 in
          let h0 : max (height o.r) (height r) ≤ height j = i.height_is.0 in
          let h1 : height j ≤ max (height o.r) (height r) + 1 = i.height_is.1 in
          let s0 : max (height o.l) (height j) ≤ height new = s.height_is.0 in
          let s1 : height new ≤ max (height o.l) (height j) + 1 = s.height_is.1 in
          let up = settled_low (height o.r) (height j) (height o.l) (height new) n1 n0 (omega arith) (omega (arith, low.1)) (omega arith, omega arith, λ e. omega (arith, s.height_is.2 (e.1, e.0))) in
          record {
            root = s.root;
            stands = s.stands;
            balanced = s.balanced;
            keys_are = s.keys_are ∙ ap (λ ks. keys o.l ++ node.key ∷ ks) i.keys_are ∙ regroup (keys o.l) (keys o.r) (keys r) node.key key ∙ ap (λ u. keys u ++ key ∷ keys r) (sym o.is);
            births = λ dl dr bl br. let e : Descends (fork id o.birth o.l node.key o.r) = subst Descends o.is dl in let f : o.birth ≤ birth = subst (BirthAtMost birth) o.is bl in
                let ch = i.births e.3 dr (BirthAtMost-later o.birth birth o.r f e.1) br in s.births e.2 ch.0 (BirthAtMost-later o.birth birth o.l f e.0) ch.1;
            height_is = (omega (arith, heights, up), omega (arith, heights, low.1), λ e. absurd (let g : height l ≤ height r + 1 = e.0 in omega arith));
            step = Step-beside since birth p p3 _ _ _ _ (Step-then since birth p p2 p3 _ _ _ after.step (Step-beside since birth p2 p3 (λ x. one turned x + occurrences o.l x + occurrences j x) (occurrences new) (λ x. one turned x + occurrences j x + occurrences o.l x) (occurrences new) s.step (λ x. omega arith) (λ x. omega arith))) (λ x. omega (arith, ap (λ u. occurrences u x) o.is)) (λ x. omega (arith, ap (λ u. occurrences u x) o.is));
            total = omega (arith, i.total, w.total, s.total);
            few = omega (arith, i.few, w.few, s.few, cost, joins_near since (height o.l) (height j) within);
            copied = omega (arith, older, i.copied, w.copied node right_there, s.copied);
            exact = omega (arith, i.exact, w.exact, s.exact);
          }

-- the right tree is the higher one
module _ (since birth : ℕ) (p : Nodes) (top : ℕ) (key : Key) (left : Option ℕ) (l : Tree) (right : Option ℕ) (r : Tree) (can : CanJoin since p top left l right r) (id : ℕ) (node : Node) (is : right ≡ Some id) (found : node_at p id ≡ Some node) (high : height l + 2 < height r) where
  ro : Opened p id node r
  ro = opened p right id node r can.can.right_root can.can.right_stands is found

  r_heights : height r ≡ max (height ro.l) (height ro.r) + 1
  r_heights = ap height ro.is

  r_near : IsBalanced (fork id ro.birth ro.l node.key ro.r)
  r_near = subst IsBalanced ro.is can.can.right_balanced

  r_apart_in : (i : ℕ) → one top i + one id i + occurrences ro.l i + occurrences ro.r i + occurrences l i ≤ plain_count p i
  r_apart_in i = omega (arith, can.can.apart i, ap (λ u. occurrences u i) ro.is)

  r_inner_is : tree_at p node.left ≡ ro.l
  r_inner_is = tree_in p node.left ro.l ro.left_is ro.sl

  r_low : (height ro.l + 1 ≤ height r) × (height r ≤ height ro.l + 2)
  r_low = let n0 : height ro.r ≤ height ro.l + 1 = r_near.0.1 in (omega (arith, r_heights), omega (arith, r_heights))

  r_cost : copies since (joins (height l) (height ro.l)) + copies since 1 + copies since 2 ≤ copies since (joins (height l) (height r))
  r_cost = omega (arith, joins_level since (height r) (height ro.l) (height l) high r_low.0 r_low.1, ap (copies since) (joins_flip (height l) (height ro.l)), ap (copies since) (joins_flip (height l) (height r)))

  r_older : older_count since r ≡ older_birth since node.birth + older_count since ro.l + older_count since ro.r
  r_older = opened_older since p id node r ro

  r_spare : min (copies since (joins (height l) (height ro.l) + 2) + copies since 1 + copies since 2) (older_count since l + older_count since r) ≤ room p
  r_spare = omega (arith, can.enough, r_cost, copies_add since (joins (height l) (height ro.l)) 2, copies_add since (joins (height l) (height r)) 2)

  pub left_falls : (height_at p left - height_at p node.left) + (height_at p node.left - height_at p left) < (height_at p left - height_at p right) + (height_at p right - height_at p left)
  left_falls = omega (arith, height_in p node.left ro.l ro.left_is ro.sl, height_in p left l can.can.left_root can.can.left_stands, height_in p right r can.can.right_root can.can.right_stands, r_low.0, r_low.1)

  pub left_can : CanJoin since p top left l node.left (tree_at p node.left)
  left_can = subst (λ u. CanJoin since p top left l node.left u) (sym r_inner_is) (record {
    can = record {
      left_root = can.can.left_root;
      right_root = ro.left_is;
      left_stands = can.can.left_stands;
      right_stands = ro.sl;
      left_balanced = can.can.left_balanced;
      right_balanced = r_near.1;
      apart = λ i. omega (arith, r_apart_in i);
      writable = can.can.writable;
      left_fits = can.can.left_fits;
      right_fits = omega (arith, r_heights, can.can.right_fits);
      has_room = omega (arith, can.can.has_room, r_older);
    };
    enough = omega (arith, r_spare, r_older);
  })

  module _ (p1 : Nodes) (inner : ℕ) (i0 : Settled since birth p p1 top inner key l (tree_at p node.left) (tree_at p1 (Some inner))) where
    k : Settled since birth p p1 top inner key l ro.l (tree_at p1 (Some inner))
    k = subst (λ u. Settled since birth p p1 top inner key l u (tree_at p1 (Some inner))) r_inner_is i0

    pub left_used : IsSome (node_at p1 id)
    left_used = top_stays since birth p p1 id node (λ x. one top x + occurrences l x + occurrences ro.l x) (occurrences (tree_at p1 (Some inner))) found (omega (arith, r_apart_in id, one_same id, plain_count_most p id)) k.step

    pub left_plain : mark_at p1 id ≡ plain
    left_plain = top_plain since birth p p1 id (λ x. one top x + occurrences l x + occurrences ro.l x) (occurrences (tree_at p1 (Some inner))) (occurrences ro.r) k.step (λ x. omega (arith, r_apart_in x))

    left_left : min (copies since 1 + copies since 2) (older_birth since node.birth + older_count since ro.r + older_count since (tree_at p1 (Some inner))) ≤ room p1
    left_left = omega (arith, r_spare, r_older, k.total, k.few, k.copied, copies_mono since (joins (height l) (height ro.l)) (joins (height l) (height ro.l) + 2) (omega arith))

    left_there : node_at p1 id ≡ Some node
    left_there = top_same since birth p p1 id node (λ x. one top x + occurrences l x + occurrences ro.l x) (occurrences (tree_at p1 (Some inner))) found (omega (arith, r_apart_in id, one_same id, plain_count_most p id)) k.step

    pub left_room : IsOlder since p1 id → 0 < room p1
    left_room h = let c = older_counts since p1 id node left_there h in omega (arith, left_left, c.0, copies_some since 1 c.1)

    module _ (p2 : Nodes) (turned : ℕ) (w : CopiesIfOlder since birth p1 p2 id turned) where
      r_after : ChildDone since birth p p2 id turned (λ x. one top x + occurrences l x + occurrences ro.l x) (tree_at p1 (Some inner)) ro.r
      r_after = child_done since birth p p1 p2 id turned (λ x. one top x + occurrences l x + occurrences ro.l x) (tree_at p1 (Some inner)) ro.r ro.sr
          (λ x. omega (arith, r_apart_in x))
          k.stands k.step w

      r_inner_now : tree_at p2 (Some inner) ≡ tree_at p1 (Some inner)
      r_inner_now = tree_in p2 (Some inner) (tree_at p1 (Some inner)) (sym k.root) r_after.child

      r_other_now : tree_at p2 node.right ≡ ro.r
      r_other_now = tree_in p2 node.right ro.r ro.right_is r_after.other

      r_within : DifferByAtMost 2 (height (tree_at p1 (Some inner))) (height ro.r)
      r_within =
          let n0 : height ro.l ≤ height ro.r + 1 = r_near.0.0 in
          let n1 : height ro.r ≤ height ro.l + 1 = r_near.0.1 in
          let h0 : max (height l) (height ro.l) ≤ height (tree_at p1 (Some inner)) = k.height_is.0 in
          let h1 : height (tree_at p1 (Some inner)) ≤ max (height l) (height ro.l) + 1 = k.height_is.1 in
          (omega (arith, r_low.1), omega arith)

      pub left_settle : CanSettle since p2 turned (Some inner) (tree_at p2 (Some inner)) node.right (tree_at p2 node.right)
      left_settle =
          let c : CanSettle since p2 turned (Some inner) (tree_at p1 (Some inner)) node.right ro.r = record {
            left_root = sym k.root;
            right_root = ro.right_is;
            left_stands = r_after.child;
            right_stands = r_after.other;
            left_balanced = k.balanced;
            right_balanced = r_near.2;
            apart = r_after.apart;
            writable = r_after.writable;
            left_fits = omega (arith, r_heights, can.can.right_fits, k.height_is.1, r_low.0, high);
            right_fits = omega (arith, r_heights, can.can.right_fits);
            has_room = omega (arith, left_left, w.total, w.few, w.copied node left_there);
          } in
          subst (λ u. CanSettle since p2 turned (Some inner) (tree_at p2 (Some inner)) node.right u) (sym r_other_now)
          (subst (λ u. CanSettle since p2 turned (Some inner) u node.right ro.r) (sym r_inner_now) c)

      pub left_near : DifferByAtMost 2 (height (tree_at p2 (Some inner))) (height (tree_at p2 node.right))
      left_near = subst (λ u. DifferByAtMost 2 (height (tree_at p2 (Some inner))) (height u)) (sym r_other_now) (subst (λ u. DifferByAtMost 2 (height u) (height ro.r)) (sym r_inner_now) r_within)

      pub left_done : (p3 : Nodes) (result : ℕ) (new : Tree) → Settled since birth p2 p3 turned result node.key (tree_at p2 (Some inner)) (tree_at p2 node.right) new → Settled since birth p p3 top result key l r new
      left_done p3 result new s0 =
          let j = tree_at p1 (Some inner) in
          let s : Settled since birth p2 p3 turned result node.key j ro.r new =
          subst (λ u. Settled since birth p2 p3 turned result node.key j u new) r_other_now (subst (λ u. Settled since birth p2 p3 turned result node.key u (tree_at p2 node.right) new) r_inner_now s0) in
          let n0 : height ro.l ≤ height ro.r + 1 = r_near.0.0 in
          let n1 : height ro.r ≤ height ro.l + 1 = r_near.0.1 in
          let h0 : max (height l) (height ro.l) ≤ height j = k.height_is.0 in
          let h1 : height j ≤ max (height l) (height ro.l) + 1 = k.height_is.1 in
          let s0 : max (height j) (height ro.r) ≤ height new = s.height_is.0 in
          let s1 : height new ≤ max (height j) (height ro.r) + 1 = s.height_is.1 in
          let up = settled_low (height ro.l) (height j) (height ro.r) (height new) n0 n1 (omega arith) (omega (arith, r_low.1)) s.height_is in
          record {
            root = s.root;
            stands = s.stands;
            balanced = s.balanced;
            keys_are = s.keys_are ∙ ap (λ ks. ks ++ node.key ∷ keys ro.r) k.keys_are ∙ sym (regroup (keys l) (keys ro.l) (keys ro.r) key node.key) ∙ ap (λ u. keys l ++ key ∷ keys u) (sym ro.is);
            births = λ dl dr bl br. let e : Descends (fork id ro.birth ro.l node.key ro.r) = subst Descends ro.is dr in let f : ro.birth ≤ birth = subst (BirthAtMost birth) ro.is br in
                let ch = k.births dl e.2 bl (BirthAtMost-later ro.birth birth ro.l f e.0) in s.births ch.0 e.3 ch.1 (BirthAtMost-later ro.birth birth ro.r f e.1);
            height_is = (omega (arith, r_heights, up), omega (arith, r_heights, r_low.1), λ e. absurd (let g : height r ≤ height l + 1 = e.1 in omega arith));
            step = Step-beside since birth p p3 _ _ _ _ (Step-then since birth p p2 p3 _ _ _ r_after.step s.step) (λ x. omega (arith, ap (λ u. occurrences u x) ro.is)) (λ x. omega (arith, ap (λ u. occurrences u x) ro.is));
            total = omega (arith, k.total, w.total, s.total);
            few = omega (arith, k.few, w.few, s.few, r_cost, joins_near since (height j) (height ro.r) r_within);
            copied = omega (arith, r_older, k.copied, w.copied node left_there, s.copied);
            exact = omega (arith, k.exact, w.exact, s.exact);
          }

-- the heights are near
pub join_near : (since : ℕ) (p : Nodes) (top : ℕ) (left : Option ℕ) (l : Tree) (right : Option ℕ) (r : Tree) → CanJoin since p top left l right r → height_at p left ≤ height_at p right + 2 → height_at p right ≤ height_at p left + 2 → DifferByAtMost 2 (height l) (height r)
join_near since p top left l right r can a b =
    let hl = height_in p left l can.can.left_root can.can.left_stands in
    let hr = height_in p right r can.can.right_root can.can.right_stands in
    (omega arith, omega arith)
