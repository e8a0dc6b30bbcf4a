-- What rotations do.
use Rattle.std.proofs.Common.{true≢false, ◌≡◌, ℕ, ◌+◌, ◌<◌, ◌≤◌, max, min, true, false, cond, ltb, List, ◌∷◌, ◌++◌, Option, Some, None, is_some, IsSome, refl, sym, ap, subst, ◌∙◌, inl, arith, append_assoc}
use Rattle.gs_pool.specs.declared.nodes.Key.{Key}
use Rattle.gs_pool.specs.declared.nodes.Node.{Node}
use Rattle.gs_pool.specs.Pool.{Nodes, node_at, in_use, aside_count}
use Rattle.gs_tree.specs.Tree.{Tree, leaf, fork, root_of, height, keys, occurrences, top_node, Stands, IsBalanced, BirthAtMost, Descends, height_at, IsRoot, tree_at, older_birth, older_count}
use Rattle.gs_tree.specs.Steps.{plain_count, one, SameTotal, Step, IsWritable, CopiesIfOlder, Links}
use Rattle.gs_tree.specs.Joining.{CanSettle, Settled, copies}
use Rattle.gs_pool.specs.Pool.{room}
use Rattle.gs_tree.proofs.Costs.{joins_two, copies_add}
use Rattle.gs_tree.proofs.TreeLemmas.{one_same, plain_count_most, Stands-step, height_at-is, IsRoot-is, tree_at-is, Step-then, Step-beside, CopiesIfOlder-step, Linked, linked, BirthAtMost-later, young_birth}

pub root_in : (p : Nodes) (root : Option ℕ) (t : Tree) → root ≡ root_of t → Stands p t → IsRoot p root
root_in p root t e s = subst (IsRoot p) (sym e) (IsRoot-is p t s)

pub height_in : (p : Nodes) (root : Option ℕ) (t : Tree) → root ≡ root_of t → Stands p t → height_at p root ≡ height t
height_in p root t e s = ap (height_at p) e ∙ height_at-is p t s

pub tree_in : (p : Nodes) (root : Option ℕ) (t : Tree) → root ≡ root_of t → Stands p t → tree_at p root ≡ t
tree_in p root t e s = ap (tree_at p) e ∙ tree_at-is p t s

pub linked_in : (since : ℕ) (p q : Nodes) (id birth : ℕ) (l : Tree) (k : Key) (r : Tree) (left right : Option ℕ) → Links p q id left k right birth → left ≡ root_of l → right ≡ root_of r → IsWritable since p id → since ≤ birth → Stands p l → Stands p r → ((x : ℕ) → one id x + occurrences l x + occurrences r x ≤ 1) → Linked since p q id birth l k r
linked_in since p q id birth l k r left right link el er writable young sl sr apart =
    linked since p q id birth l k r (subst (λ o. Links p q id o k (root_of r) birth) el (subst (λ o. Links p q id left k o birth) er link)) writable.used writable.recent young sl sr (omega (arith, apart id, one_same id)) (omega (arith, apart id, one_same id))

some_node : (o : Option Node) → IsSome o → (n : Node) × (o ≡ Some n)
some_node None h = absurd (true≢false (sym h))
some_node (Some n) h = (n, refl)

-- a node that may be written, and that is in none of the trees that change, may be written after the step
pub writable_kept : (since birth : ℕ) (p q : Nodes) (a b : ℕ → ℕ) (id : ℕ) → Step since birth p q a b → a id ≡ 0 → IsWritable since p id → IsWritable since q id
writable_kept since birth p q a b id s off m =
    let found = some_node (node_at p id) m.used in
    let now = s.kept id found.0 found.1 (inl off) in
    record { used = ap is_some now; recent = λ n e. let same : Some found.0 ≡ Some n = sym now ∙ e in let one : found.0 ≡ n = cc in omega (arith, m.recent found.0 found.1, ap (λ (m : Node). m.birth) one) }

-- the left tree, taken apart, with a top that may be written
pub record Turned (since birth : ℕ) (p q : Nodes) (top left turned : ℕ) (below : Node) (l r : Tree) (right : Option ℕ) : Type 0 where
  pub bl : ℕ
  pub x : Tree
  pub y : Tree
  pub is : l ≡ fork left bl x below.key y
  pub left_is : below.left ≡ root_of x
  pub right_is : below.right ≡ root_of y
  pub far_is : right ≡ root_of r
  pub sx : Stands q x
  pub sy : Stands q y
  pub sr : Stands q r
  pub top_writable : IsWritable since q top
  pub turned_writable : IsWritable since q turned
  pub apart : (i : ℕ) → one top i + one turned i + occurrences x i + occurrences y i + occurrences r i ≤ plain_count q i
  pub step : Step since birth p q (λ i. one top i + occurrences l i + occurrences r i) (λ i. one top i + one turned i + occurrences x i + occurrences y i + occurrences r i)
  pub total : SameTotal p q
  pub few : in_use q ≤ in_use p + copies since 1
  pub copied : in_use q + (older_count since x + older_count since y) ≡ in_use p + older_count since l
  pub exact : in_use q + aside_count p ≡ in_use p + aside_count q
  pub has_room : min (copies since 1) (older_count since x + older_count since y + older_count since r) ≤ room q

module _ (since birth : ℕ) (p q : Nodes) (top left turned : ℕ) (below : Node) (l r : Tree) (right : Option ℕ) where
  pub turn : CanSettle since p top (Some left) l right r → node_at p left ≡ Some below → CopiesIfOlder since birth p q left turned → Turned since birth p q top left turned below l r right
  turn can found o = by_tree l can.left_root can.left_stands can.apart can.has_room
    where
      by_tree : (t : Tree) → Some left ≡ root_of t → Stands p t → ((i : ℕ) → one top i + occurrences t i + occurrences r i ≤ plain_count p i) → min (copies since 2) (older_count since t + older_count since r) ≤ room p → Turned since birth p q top left turned below t r right
      by_tree leaf e s apart room_for = absurd (cc)
      by_tree (fork id bl x j y) e s apart room_for =
          let same : id ≡ left = cc in
          let here : node_at p left ≡ Some (top_node bl x j y) = subst (λ i. node_at p i ≡ Some (top_node bl x j y)) same s.0 in
          let is : top_node bl x j y ≡ below = cc in
          let spent : in_use q ≡ in_use p + older_birth since bl = o.copied below found ∙ ap (λ (n : Node). in_use p + older_birth since n.birth) (sym is) in
          let copied = CopiesIfOlder-step since birth p q left turned o in
          let at : (i : ℕ) → one top i + one left i + occurrences x i + occurrences y i + occurrences r i ≤ 1 = λ i. omega (arith, apart i, plain_count_most p i, ap (λ a. one a i) same) in
          let big : Step since birth p q (λ i. one top i + one id i + occurrences x i + occurrences y i + occurrences r i) (λ i. one top i + one turned i + occurrences x i + occurrences y i + occurrences r i) =
          Step-beside since birth p q (one left) (one turned) _ _ copied (λ i. omega (arith, ap (λ a. one a i) same)) (λ i. omega (arith, ap (λ a. one a i) same)) in
          record {
            bl = bl;
            x = x;
            y = y;
            is = ap (λ a. fork a bl x j y) same ∙ ap (λ (n : Node). fork left bl x n.key y) is;
            left_is = sym (ap (λ (n : Node). n.left) is);
            right_is = sym (ap (λ (n : Node). n.right) is);
            far_is = can.right_root;
            sx = Stands-step since birth p q _ _ x copied (λ i h. omega (arith, at i)) s.1;
            sy = Stands-step since birth p q _ _ y copied (λ i h. omega (arith, at i)) s.2;
            sr = Stands-step since birth p q _ _ r copied (λ i h. omega (arith, at i)) can.right_stands;
            top_writable = writable_kept since birth p q _ _ top copied (omega (arith, at top, one_same top)) can.writable;
            turned_writable = record { used = o.used; recent = o.recent };
            apart = λ i. omega (arith, big.balance i, apart i);
            step = Step-beside since birth p q _ _ _ _ big (λ i. omega arith) (λ i. omega arith);
            total = o.total;
            few = o.few;
            copied = omega (arith, spent);
            exact = o.exact;
            has_room = omega (arith, room_for, o.total, o.few, spent, copies_add since 1 1);
          }

-- the key list of a single rotation
pub regroup : (xs ys zs : List Key) (j k : Key) → xs ++ j ∷ (ys ++ k ∷ zs) ≡ (xs ++ j ∷ ys) ++ k ∷ zs
regroup xs ys zs j k = sym (append_assoc xs (j ∷ ys) (k ∷ zs))

-- after the first link of a single rotation
pub record Low (since birth : ℕ) (p q : Nodes) (id turned : ℕ) (x t : Tree) : Type 0 where
  pub low : Stands q t
  pub high : Stands q x
  pub id_writable : IsWritable since q id
  pub turned_writable : IsWritable since q turned
  pub step : Step since birth p q (one id) (one id)
  pub total : SameTotal p q
  pub same : in_use q ≡ in_use p

module _ (since birth : ℕ) (p p1 : Nodes) (top left turned : ℕ) (below : Node) (key : Key) (l r : Tree) (right : Option ℕ) (young : since ≤ birth) (can : CanSettle since p top (Some left) l right r) (higher : height l ≡ height r + 2) (a : Turned since birth p p1 top left turned below l r right) where
  pub single_low : (p2 : Nodes) → Links p1 p2 top below.right key right birth → Low since birth p1 p2 top turned a.x (fork top birth a.y key r)
  single_low p2 link =
      let k = linked_in since p1 p2 top birth a.y key r below.right right link a.right_is a.far_is a.top_writable young a.sy a.sr (λ i. omega (arith, a.apart i, plain_count_most p1 i)) in
      record {
        low = k.stands;
        high = Stands-step since birth p1 p2 _ _ a.x k.step (λ i h. omega (arith, a.apart i, plain_count_most p1 i)) a.sx;
        id_writable = record { used = ap is_some k.stands.0; recent = k.recent };
        turned_writable = writable_kept since birth p1 p2 _ _ turned k.step (omega (arith, a.apart turned, plain_count_most p1 turned, one_same turned)) a.turned_writable;
        step = k.step;
        total = omega (arith, link.total, link.same);
        same = link.same;
      }

  pub single : (p2 p3 : Nodes) → Links p1 p2 top below.right key right birth → height a.y ≤ height a.x → Links p2 p3 turned below.left below.key (Some top) birth → Settled since birth p p3 top turned key l r (fork turned birth a.x below.key (fork top birth a.y key r))
  single p2 p3 link lower link2 =
      let b = single_low p2 link in
      let t = fork top birth a.y key r in
      let k = linked_in since p2 p3 turned birth a.x below.key t below.left (Some top) link2 a.left_is refl b.turned_writable young b.high b.low (λ i. omega (arith, a.apart i, plain_count_most p1 i)) in
      let lb : IsBalanced (fork left a.bl a.x below.key a.y) = subst IsBalanced a.is can.left_balanced in
      let hl : height l ≡ max (height a.x) (height a.y) + 1 = ap height a.is in
      let rb = can.right_balanced in
      let near : (height a.x ≤ height a.y + 1) × (height a.y ≤ height a.x + 1) = lb.0 in
      let n0 = near.0 in let n1 = near.1 in
      record {
        root = refl;
        stands = k.stands;
        balanced = ((omega arith, omega arith), lb.1, ((omega arith, omega arith), lb.2, rb));
        keys_are = regroup (keys a.x) (keys a.y) (keys r) below.key key ∙ ap (λ s. keys s ++ key ∷ keys r) (sym a.is);
        births = λ dl dr bl br. let il : Descends (fork left a.bl a.x below.key a.y) = subst Descends a.is dl in let jl : a.bl ≤ birth = subst (BirthAtMost birth) a.is bl in
            ((BirthAtMost-later a.bl birth a.x jl il.0, omega arith, il.2, (BirthAtMost-later a.bl birth a.y jl il.1, br, il.3, dr)), omega arith);
        height_is = (omega arith, omega arith, λ d. omega (arith, d.0, d.1));
        step = Step-then since birth p p1 p3 _ _ _ a.step (Step-beside since birth p1 p3 _ _ _ _ (Step-then since birth p1 p2 p3 _ _ _ (Step-beside since birth p1 p2 _ _ (λ i. one top i + one turned i) (λ i. one top i + one turned i) b.step (λ i. omega arith) (λ i. omega arith)) (Step-beside since birth p2 p3 _ _ (λ i. one top i + one turned i) (λ i. one top i + one turned i) k.step (λ i. omega arith) (λ i. omega arith))) (λ i. omega arith) (λ i. omega arith));
        total = omega (arith, a.total, b.total, link2.total, link2.same);
        few = omega (arith, a.few, b.same, link2.same, more_copies since, joins_two since (height l) (height r) (inl higher));
        copied = omega (arith, a.copied, link.same, link2.same, young_birth since birth young);
        exact = omega (arith, a.exact, link.same, ap (Rattle.std.specs.Prelude.count_by Rattle.gs_pool.specs.Pool.is_aside) link.marks, link2.same, ap (Rattle.std.specs.Prelude.count_by Rattle.gs_pool.specs.Pool.is_aside) link2.marks);
      }
    where
      more_copies : (n : ℕ) → copies n 1 ≤ copies n 2
      more_copies n = elim (ltb 0 n) as (λ b. cond b 1 0 ≤ cond b 2 0) [ true ↦ omega arith | false ↦ omega arith ]

-- the inner tree, taken apart, with a top that may be written
pub record Turned2 (since birth : ℕ) (p q : Nodes) (top turned inner middle : ℕ) (node : Node) (x y r : Tree) : Type 0 where
  pub bm : ℕ
  pub u : Tree
  pub v : Tree
  pub is : y ≡ fork inner bm u node.key v
  pub left_is : node.left ≡ root_of u
  pub right_is : node.right ≡ root_of v
  pub sx : Stands q x
  pub su : Stands q u
  pub sv : Stands q v
  pub sr : Stands q r
  pub top_writable : IsWritable since q top
  pub turned_writable : IsWritable since q turned
  pub middle_writable : IsWritable since q middle
  pub apart : (i : ℕ) → one top i + one turned i + one middle i + occurrences x i + occurrences u i + occurrences v i + occurrences r i ≤ plain_count q i
  pub step : Step since birth p q (λ i. one top i + one turned i + occurrences x i + occurrences y i + occurrences r i) (λ i. one top i + one turned i + one middle i + occurrences x i + occurrences u i + occurrences v i + occurrences r i)
  pub total : SameTotal p q
  pub few : in_use q ≤ in_use p + copies since 1
  pub copied : in_use q + (older_count since u + older_count since v) ≡ in_use p + older_count since y
  pub exact : in_use q + aside_count p ≡ in_use p + aside_count q

module _ (since birth : ℕ) (p p1 : Nodes) (top left turned : ℕ) (below : Node) (key : Key) (l r : Tree) (right : Option ℕ) (young : since ≤ birth) (can : CanSettle since p top (Some left) l right r) (higher : height l ≡ height r + 2) (a : Turned since birth p p1 top left turned below l r right) where
  pub turn2 : (p2 : Nodes) (inner middle : ℕ) (node : Node) → below.right ≡ Some inner → node_at p1 inner ≡ Some node → CopiesIfOlder since birth p1 p2 inner middle → Turned2 since birth p1 p2 top turned inner middle node a.x a.y r
  turn2 p2 inner middle node is found o = by_tree a.y (sym is ∙ a.right_is) a.sy a.apart
    where
      by_tree : (t : Tree) → Some inner ≡ root_of t → Stands p1 t → ((i : ℕ) → one top i + one turned i + occurrences a.x i + occurrences t i + occurrences r i ≤ plain_count p1 i) → Turned2 since birth p1 p2 top turned inner middle node a.x t r
      by_tree leaf e s apart = absurd (cc)
      by_tree (fork id bm u j v) e s apart =
          let same : id ≡ inner = cc in
          let here : node_at p1 inner ≡ Some (top_node bm u j v) = subst (λ i. node_at p1 i ≡ Some (top_node bm u j v)) same s.0 in
          let is : top_node bm u j v ≡ node = cc in
          let spent : in_use p2 ≡ in_use p1 + older_birth since bm = o.copied node found ∙ ap (λ (n : Node). in_use p1 + older_birth since n.birth) (sym is) in
          let copied = CopiesIfOlder-step since birth p1 p2 inner middle o in
          let at : (i : ℕ) → one top i + one turned i + one inner i + occurrences a.x i + occurrences u i + occurrences v i + occurrences r i ≤ 1 = λ i. omega (arith, apart i, plain_count_most p1 i, ap (λ a. one a i) same) in
          let big : Step since birth p1 p2 (λ i. one top i + one turned i + occurrences a.x i + occurrences (fork id bm u j v) i + occurrences r i) (λ i. one top i + one turned i + one middle i + occurrences a.x i + occurrences u i + occurrences v i + occurrences r i) =
          Step-beside since birth p1 p2 (one inner) (one middle) _ _ copied (λ i. omega (arith, ap (λ a. one a i) same)) (λ i. omega (arith, ap (λ a. one a i) same)) in
          record {
            bm = bm;
            u = u;
            v = v;
            is = ap (λ a. fork a bm u j v) same ∙ ap (λ (n : Node). fork inner bm u n.key v) is;
            left_is = sym (ap (λ (n : Node). n.left) is);
            right_is = sym (ap (λ (n : Node). n.right) is);
            sx = Stands-step since birth p1 p2 _ _ a.x copied (λ i h. omega (arith, at i)) a.sx;
            su = Stands-step since birth p1 p2 _ _ u copied (λ i h. omega (arith, at i)) s.1;
            sv = Stands-step since birth p1 p2 _ _ v copied (λ i h. omega (arith, at i)) s.2;
            sr = Stands-step since birth p1 p2 _ _ r copied (λ i h. omega (arith, at i)) a.sr;
            top_writable = writable_kept since birth p1 p2 _ _ top copied (omega (arith, at top, one_same top)) a.top_writable;
            turned_writable = writable_kept since birth p1 p2 _ _ turned copied (omega (arith, at turned, one_same turned)) a.turned_writable;
            middle_writable = record { used = o.used; recent = o.recent };
            apart = λ i. omega (arith, big.balance i, apart i);
            step = big;
            total = o.total;
            few = o.few;
            copied = omega (arith, spent);
            exact = o.exact;
          }

  module _ (p2 : Nodes) (inner middle : ℕ) (node : Node) (b : Turned2 since birth p1 p2 top turned inner middle node a.x a.y r) where
    pub double_low : (p3 : Nodes) → Links p2 p3 turned below.left below.key node.left birth → Linked since p2 p3 turned birth a.x below.key b.u
    double_low p3 link = linked_in since p2 p3 turned birth a.x below.key b.u below.left node.left link a.left_is b.left_is b.turned_writable young b.sx b.su (λ i. omega (arith, b.apart i, plain_count_most p2 i))

    pub double_far : (p3 : Nodes) → Links p2 p3 turned below.left below.key node.left birth → Stands p3 b.v × Stands p3 r × IsWritable since p3 top × IsWritable since p3 middle
    double_far p3 link =
        let k = double_low p3 link in (
          Stands-step since birth p2 p3 _ _ b.v k.step (λ i h. omega (arith, b.apart i, plain_count_most p2 i)) b.sv,
          Stands-step since birth p2 p3 _ _ r k.step (λ i h. omega (arith, b.apart i, plain_count_most p2 i)) b.sr,
          writable_kept since birth p2 p3 _ _ top k.step (omega (arith, b.apart top, plain_count_most p2 top, one_same top)) b.top_writable,
          writable_kept since birth p2 p3 _ _ middle k.step (omega (arith, b.apart middle, plain_count_most p2 middle, one_same middle)) b.middle_writable,
        )

    pub double_high : (p3 p4 : Nodes) → Links p2 p3 turned below.left below.key node.left birth → Links p3 p4 top node.right key right birth → Linked since p3 p4 top birth b.v key r
    double_high p3 p4 link link2 =
        let f = double_far p3 link in
        linked_in since p3 p4 top birth b.v key r node.right right link2 b.right_is a.far_is f.2 young f.0 f.1 (λ i. omega (arith, b.apart i, plain_count_most p2 i))

    pub double_sides : (p3 p4 : Nodes) → Links p2 p3 turned below.left below.key node.left birth → Links p3 p4 top node.right key right birth → Stands p4 (fork turned birth a.x below.key b.u) × IsWritable since p4 middle
    double_sides p3 p4 link link2 =
        let f = double_far p3 link in
        let k = double_low p3 link in
        let h = double_high p3 p4 link link2 in (
          Stands-step since birth p3 p4 _ _ (fork turned birth a.x below.key b.u) h.step (λ i here. omega (arith, b.apart i, plain_count_most p2 i)) k.stands,
          writable_kept since birth p3 p4 _ _ middle h.step (omega (arith, b.apart middle, plain_count_most p2 middle, one_same middle)) f.3,
        )

    pub double : (p3 p4 p5 : Nodes) → Links p2 p3 turned below.left below.key node.left birth → Links p3 p4 top node.right key right birth → height a.x < height a.y → Links p4 p5 middle (Some turned) node.key (Some top) birth → Settled since birth p p5 top middle key l r (fork middle birth (fork turned birth a.x below.key b.u) node.key (fork top birth b.v key r))
    double p3 p4 p5 link link2 lower link3 =
        let k = double_low p3 link in let h = double_high p3 p4 link link2 in
        let s = double_sides p3 p4 link link2 in
        let m = linked_in since p4 p5 middle birth (fork turned birth a.x below.key b.u) node.key (fork top birth b.v key r) (Some turned) (Some top) link3 refl refl s.1 young s.0 h.stands (λ i. omega (arith, b.apart i, plain_count_most p2 i)) in
        let lb : IsBalanced (fork left a.bl a.x below.key a.y) = subst IsBalanced a.is can.left_balanced in
        let yb : IsBalanced (fork inner b.bm b.u node.key b.v) = subst IsBalanced b.is lb.2 in
        let hl : height l ≡ max (height a.x) (height a.y) + 1 = ap height a.is in
        let hy : height a.y ≡ max (height b.u) (height b.v) + 1 = ap height b.is in
        let rb = can.right_balanced in
        let n0 : height a.x ≤ height a.y + 1 = lb.0.0 in let n1 : height a.y ≤ height a.x + 1 = lb.0.1 in
        let m0 : height b.u ≤ height b.v + 1 = yb.0.0 in let m1 : height b.v ≤ height b.u + 1 = yb.0.1 in
        record {
          root = refl;
          stands = m.stands;
          balanced = ((omega arith, omega arith), ((omega arith, omega arith), lb.1, yb.1), ((omega arith, omega arith), yb.2, rb));
          keys_are =
              regroup3 (keys a.x) below.key (keys b.u) node.key (keys b.v) key (keys r)
              ∙ ap (λ s. (keys a.x ++ below.key ∷ keys s) ++ key ∷ keys r) (sym b.is)
              ∙ ap (λ s. keys s ++ key ∷ keys r) (sym a.is);
          births = λ dl dr bl br. let il : Descends (fork left a.bl a.x below.key a.y) = subst Descends a.is dl in let jl : a.bl ≤ birth = subst (BirthAtMost birth) a.is bl in
              let ir : Descends (fork inner b.bm b.u node.key b.v) = subst Descends b.is il.3 in let jr : b.bm ≤ a.bl = subst (BirthAtMost a.bl) b.is il.1 in let kr : b.bm ≤ birth = omega arith in
              ((omega arith, omega arith, (BirthAtMost-later a.bl birth a.x jl il.0, BirthAtMost-later b.bm birth b.u kr ir.0, il.2, ir.2), (BirthAtMost-later b.bm birth b.v kr ir.1, br, ir.3, dr)), omega arith);
          height_is = (omega arith, omega arith, λ d. omega (arith, d.0, d.1));
          step = Step-then since birth p p1 p5 _ _ _ a.step (Step-then since birth p1 p2 p5 _ _ _ b.step
              (Step-then since birth p2 p3 p5 _ (λ i. one top i + one turned i + one middle i + occurrences a.x i + occurrences b.u i + occurrences b.v i + occurrences r i) _ (Step-beside since birth p2 p3 _ _ _ _ k.step (λ i. omega arith) (λ i. omega arith))
              (Step-then since birth p3 p4 p5 _ (λ i. one top i + one turned i + one middle i + occurrences a.x i + occurrences b.u i + occurrences b.v i + occurrences r i) _ (Step-beside since birth p3 p4 _ _ _ _ h.step (λ i. omega arith) (λ i. omega arith))
              (Step-beside since birth p4 p5 _ _ _ _ m.step (λ i. omega arith) (λ i. omega arith)))));
          total = omega (arith, a.total, b.total, link.total, link.same, link2.total, link2.same, link3.total, link3.same);
          few = omega (arith, a.few, b.few, link.same, link2.same, link3.same, twice since, joins_two since (height l) (height r) (inl higher));
          copied = omega (arith, a.copied, b.copied, link.same, link2.same, link3.same, young_birth since birth young);
          exact = omega (arith, a.exact, b.exact, link.same, ap (Rattle.std.specs.Prelude.count_by Rattle.gs_pool.specs.Pool.is_aside) link.marks, link2.same, ap (Rattle.std.specs.Prelude.count_by Rattle.gs_pool.specs.Pool.is_aside) link2.marks, link3.same, ap (Rattle.std.specs.Prelude.count_by Rattle.gs_pool.specs.Pool.is_aside) link3.marks);
        }
      where
        twice : (n : ℕ) → copies n 1 + copies n 1 ≤ copies n 2
        twice n = elim (ltb 0 n) as (λ b. cond b 1 0 + cond b 1 0 ≤ cond b 2 0) [ true ↦ omega arith | false ↦ omega arith ]

        regroup3 : (xs : List Key) (j : Key) (us : List Key) (i : Key) (vs : List Key) (k : Key) (rs : List Key) → (xs ++ j ∷ us) ++ i ∷ (vs ++ k ∷ rs) ≡ (xs ++ j ∷ (us ++ i ∷ vs)) ++ k ∷ rs
        regroup3 xs j us i vs k rs = regroup (xs ++ j ∷ us) vs rs i k ∙ ap (λ s. s ++ k ∷ rs) (append_assoc xs (j ∷ us) (i ∷ vs))

-- what is settled is what the result means
pub settled_at : {since birth : ℕ} {p q : Nodes} {top result : ℕ} {key : Key} {l r t : Tree} → Settled since birth p q top result key l r t → Settled since birth p q top result key l r (tree_at q (Some result))
settled_at {since} {birth} {p} {q} {top} {result} {key} {l} {r} {t} s = subst (λ u. Settled since birth p q top result key l r u) (sym (tree_in q (Some result) t (sym s.root) s.stands)) s

-- with no rotation
pub plain : (since birth : ℕ) (p q : Nodes) (top : ℕ) (left : Option ℕ) (key : Key) (right : Option ℕ) (l r : Tree) → since ≤ birth → CanSettle since p top left l right r → Rattle.gs_tree.specs.Tree.DifferByAtMost 1 (height l) (height r) → Links p q top left key right birth → Settled since birth p q top top key l r (fork top birth l key r)
plain since birth p q top left key right l r young can near link =
    let k = linked_in since p q top birth l key r left right link can.left_root can.right_root can.writable young can.left_stands can.right_stands (λ i. omega (arith, can.apart i, plain_count_most p i)) in
    record {
      root = refl;
      stands = k.stands;
      balanced = (near, can.left_balanced, can.right_balanced);
      keys_are = refl;
      births = λ dl dr bl br. ((bl, br, dl, dr), omega arith);
      height_is = (omega arith, omega arith, λ d. refl);
      step = Step-beside since birth p q _ _ _ _ k.step (λ i. omega arith) (λ i. omega arith);
      total = omega (arith, link.total, link.same);
      few = omega (arith, link.same);
      copied = omega (arith, link.same, young_birth since birth young);
      exact = omega (arith, link.same, ap (Rattle.std.specs.Prelude.count_by Rattle.gs_pool.specs.Pool.is_aside) link.marks);
    }
