-- What the calls of a pool that change marks mean to a ledger.
use Rattle.std.proofs.Common.{◌≡◌, ℕ, zero, suc, ◌+◌, ◌<◌, ◌≤◌, Bool, true, false, cond, List, [], ◌∷◌, ◌++◌, length, get_or, Some, None, refl, sym, ap, subst, ◌∙◌, inl, inr, arith}
use Rattle.std.proofs.lemmas.Bool.{cases_lt}
use Rattle.std.proofs.lemmas.List.{get_or_past}
use Rattle.std.proofs.lemmas.List.Elements.{All-append, All-cons, All-nil, All-head, All-tail, Contains-get_or}
use Rattle.std.proofs.lemmas.List.Sums.{sum_by-cons}
use Rattle.std.specs.List.{All, Contains}
use Rattle.gs_pool.specs.declared.nodes.Node.{Node}
use Rattle.gs_pool.specs.Pool.{Nodes, NodeMark, plain, aside, retired, is_aside, node_at, mark_at, aside_count, KeepsNodes, KeepsMarks, Marks, Updates}
use Rattle.gs_tree.specs.Tree.{Tree, leaf, fork, root_of, occurrences}
use Rattle.gs_tree.specs.Steps.{one, plain_mark}
use Rattle.gs_tree.proofs.TreeLemmas.{one_same}
use Rattle.gs_versions.specs.Pins.{Pins}
use Rattle.gs_ledger.specs.Entries.{Dead, trees_have, tops, died_whole, sides_of}
use Rattle.gs_ledger.specs.Marks.{death_of}
use Rattle.gs_ledger.specs.Ledger.{HasSides, IsDead, IsLedger}
use Rattle.gs_ledger.specs.Changes.{AreSameDead, IsMarked, Buries, RetiresRoot, RetiresSides, FreesTop}
use Rattle.gs_ledger.proofs.Sums.{sum_at, all_at, dead_cons, dead_whole, dead_sides, tops_cons, tops_append, tops_most}
use Rattle.gs_ledger.proofs.Frames.{Keeps, used_same, used_most, trees_kept, tree_kept, read_map, marked_one}
use Rattle.gs_ledger.proofs.Orders.{top_found, reorder_ledger}
use Rattle.gs_ledger.proofs.Marked.{same_trees}

-- where no node is set aside, no mark says so
pub none_aside : (p : Nodes) → aside_count p ≡ 0 → (x : ℕ) → is_aside (mark_at p x) ≡ false
none_aside p h x = elim (cases_lt x (length p.marks)) [
  | inl within ↦ off (is_aside (mark_at p x)) (omega (arith, sum_at (λ m. cond {A = ℕ} (is_aside m) 1 0) p.marks x plain within))
  | inr past ↦ ap is_aside (get_or_past p.marks x plain past)
]
  where
    off : (b : Bool) → cond {A = ℕ} b 1 0 ≤ 0 → b ≡ false
    off true h = absurd (omega arith)
    off false h = refl

-- a pool whose nodes are the same list has the same nodes
pub marks_nodes : (p q : Nodes) (id : ℕ) (m : NodeMark) → Marks p q id m → KeepsNodes p q
marks_nodes p q id m h x = ap (λ ns. get_or ns x None) h.nodes

-- to retire what a root means buries its tree
pub root_buries : (p q : Nodes) (death : ℕ) (t : Tree) → RetiresRoot p q (root_of t) death → Buries p q (died_whole death t)
root_buries p q death leaf h = record {
  nodes = λ x. ap (λ (r : Nodes). node_at r x) h;
  marked = All-nil (IsMarked q);
  others = λ x off. ap (λ (r : Nodes). mark_at r x) h;
}
root_buries p q death (fork id birth l k r) h =
    let d : Dead = record { id = id; birth = birth; death = death; whole = true; left = l; right = r } in
    record {
      nodes = marks_nodes p q id (retired death true) h;
      marked = All-cons (IsMarked q) d [] (ap death_of h.changed) (All-nil (IsMarked q));
      others = λ x off. h.others x (λ e. let z : tops (d ∷ []) id ≡ 0 = subst (λ y. tops (d ∷ []) y ≡ 0) e off in absurd (omega (arith, tops_cons d [] id, one_same id)));
    }

-- one burial after another, of nodes apart from each other
pub buries_then : (p m q : Nodes) (cs es : List Dead) → Buries p m cs → Buries m q es → ((x : ℕ) → tops cs x + tops es x ≤ 1) → Buries p q (cs ++ es)
buries_then p m q cs es a b apart = record {
  nodes = λ x. b.nodes x ∙ a.nodes x;
  marked = All-append (IsMarked q) cs es (λ k d h. let e = get_or cs k d in
      let off : tops es e.id ≡ 0 = omega (arith, apart e.id, sum_at (λ n. one n.id e.id) cs k d h, one_same e.id) in
      ap death_of (b.others e.id off) ∙ a.marked k d h) b.marked;
  others = λ x off. let both = tops_append cs es x in b.others x (omega arith) ∙ a.others x (omega arith);
}

-- to retire a node's sides buries those of the dead node
pub sides_bury : (p q : Nodes) (n : Node) (d : Dead) → RetiresSides d.whole p q n d.death → HasSides d.whole n d.left d.right → ((x : ℕ) → occurrences d.left x + occurrences d.right x ≤ 1) → Buries p q (sides_of d)
sides_bury p q n d h sides apart = by_whole d.whole h sides
  where
    apart_tops : (x : ℕ) → tops (died_whole d.death d.left) x + tops (died_whole d.death d.right) x ≤ 1
    apart_tops x = omega (arith, apart x, tops_most (died_whole d.death d.left) x, tops_most (died_whole d.death d.right) x, dead_whole d.death d.left x, dead_whole d.death d.right x)

    no_sides : q ≡ p → d.left ≡ leaf → d.right ≡ leaf → Buries p q (sides_of d)
    no_sides e el er =
        let none : sides_of d ≡ [] = ap (λ t. died_whole d.death t ++ died_whole d.death d.right) el ∙ ap (λ t. died_whole d.death t) er in
        subst (Buries p q) (sym none) (record { nodes = λ x. ap (λ (r : Nodes). node_at r x) e; marked = All-nil (IsMarked q); others = λ x off. ap (λ (r : Nodes). mark_at r x) e })

    by_whole : (w : Bool) → RetiresSides w p q n d.death → HasSides w n d.left d.right → Buries p q (sides_of d)
    by_whole true h s = buries_then p h.0 q (died_whole d.death d.left) (died_whole d.death d.right)
        (root_buries p h.0 d.death d.left (subst (λ o. RetiresRoot p h.0 o d.death) s.0 h.1))
        (root_buries h.0 q d.death d.right (subst (λ o. RetiresRoot h.0 q o d.death) s.1 h.2))
        apart_tops
    by_whole false h s = no_sides h s.0 s.1

-- a dead node before the others
pub pulled : (ds : List Dead) (d : Dead) (k : ℕ) → k < length ds → get_or ds k d ≡ d → (rest : List Dead) × AreSameDead ds (d ∷ rest)
pulled [] d k h e = absurd (omega arith)
pulled (a ∷ ds) d zero h e = (
  ds,
  record {
    sums = λ f. omega (arith, sum_by-cons f d ds, sum_by-cons f a ds, ap f (let same : a ≡ d = e in same));
    each = All-cons (λ m. Contains (a ∷ ds) m) d ds (0, omega arith, e) (λ i m g. let c = Contains-get_or ds i m g in (suc c.0, omega (arith, c.1), c.2));
  },
)
pulled (a ∷ ds) d (suc k) h e =
    let below = pulled ds d k (omega arith) e in
    let rest = below.0 in
    let further : (m : Dead) → Contains ds m → Contains (a ∷ ds) m = λ m c. (suc c.0, omega (arith, c.1), c.2) in
    let each : All (λ m. Contains (a ∷ ds) m) (d ∷ rest) = λ i m g. further (get_or (d ∷ rest) i m) (below.1.each i m g) in (
      a ∷ rest,
      record {
        sums = λ f. omega (arith, sum_by-cons f d (a ∷ rest), sum_by-cons f a rest, sum_by-cons f a ds, sum_by-cons f d rest, below.1.sums f);
        each = All-cons (λ m. Contains (a ∷ ds) m) d (a ∷ rest) (All-head (λ m. Contains (a ∷ ds) m) d rest each)
            (All-cons (λ m. Contains (a ∷ ds) m) a rest (0, omega arith, refl) (All-tail (λ m. Contains (a ∷ ds) m) d rest each));
      },
    )

-- a ledger that begins with the dead node of a number
pub record BeginsWith (p : Nodes) (v : Pins) (gs us : List Tree) (rs : List (List Tree)) (ds : List Dead) (id death : ℕ) (whole : Bool) : Type 0 where
  pub first : Dead
  pub rest : List Dead
  pub id_is : first.id ≡ id
  pub death_is : first.death ≡ death
  pub whole_is : first.whole ≡ whole
  pub ledger : IsLedger p v gs us rs (first ∷ rest)

-- a marked number is that of a dead node, which the ledger may begin with
pub first_ledger : (p : Nodes) (v : Pins) (gs us : List Tree) (rs : List (List Tree)) (ds : List Dead) (id death : ℕ) (whole : Bool) → IsLedger p v gs us rs ds → death_of (mark_at p id) ≡ Some (death, whole) → BeginsWith p v gs us rs ds id death whole
first_ledger p v gs us rs ds id death whole l mark =
    let found = top_found ds id (omega (arith, l.marks id, marked_one (mark_at p id) (death, whole) mark)) in
    let d = found.0 in
    let here = found.1 in
    let split = pulled ds d here.0 here.1 here.2 in
    let dead : IsDead p v.commit d = all_at (IsDead p v.commit) ds d l.waste here in
    let both : Some (d.death, d.whole) ≡ Some (death, whole) = sym dead.marked ∙ ap (λ x. death_of (mark_at p x)) found.2 ∙ mark in
    let pair = some_same (d.death, d.whole) (death, whole) both in
    record {
      first = d;
      rest = split.0;
      id_is = found.2;
      death_is = ap (λ (m : ℕ × Bool). m.0) pair;
      whole_is = ap (λ (m : ℕ × Bool). m.1) pair;
      ledger = reorder_ledger p v gs gs us us rs ds (d ∷ split.0) (same_trees gs) (same_trees us) split.1 l;
    }
  where
    some_same : (a b : ℕ × Bool) → Some a ≡ Some b → a ≡ b
    some_same a b e = cc

-- a ledger does not tell nodes that are set aside from retired ones
pub remark_ledger : (p q : Nodes) (v : Pins) (gs us : List Tree) (rs : List (List Tree)) (ds : List Dead) → KeepsNodes p q → ((x : ℕ) → death_of (mark_at q x) ≡ death_of (mark_at p x)) → IsLedger p v gs us rs ds → IsLedger q v gs us rs ds
remark_ledger p q v gs us rs ds nodes marks l =
    let stay : (f : ℕ → ℕ) → Keeps p q f = λ f x n h e. nodes x ∙ e in
    record {
      once = λ x. omega (arith, l.once x, used_same p q x (nodes x));
      marks = λ x. omega (arith, l.marks x, plain_by_death (mark_at p x) (mark_at q x) (marks x));
      current = trees_kept p q v.commit gs (stay (trees_have gs)) l.current;
      staged = trees_kept p q (v.commit + 1) us (stay (trees_have us)) l.staged;
      waste = λ k d h. let e = l.waste k d h in record {
        top = e.top;
        found = nodes (get_or ds k d).id ∙ e.found;
        birth_is = e.birth_is;
        marked = marks (get_or ds k d).id ∙ e.marked;
        sides = e.sides;
        left_tree = tree_kept p q (get_or ds k d).birth (get_or ds k d).left (stay (occurrences (get_or ds k d).left)) e.left_tree;
        right_tree = tree_kept p q (get_or ds k d).birth (get_or ds k d).right (stay (occurrences (get_or ds k d).right)) e.right_tree;
        died = e.died;
      };
      read = λ s. read_map p q v.commit v.commit gs gs ds ds (get_or v.seats s None) (get_or rs s []) (omega arith) (λ w t e r. record {
        pinned = r.pinned;
        tree = tree_kept p q w t (stay (occurrences t)) r.tree;
        within = r.within;
      }) (l.read s);
    }
  where
    plain_by_death : (m n : NodeMark) → death_of n ≡ death_of m → plain_mark n ≡ plain_mark m
    plain_by_death plain plain e = refl
    plain_by_death plain (aside d w) e = absurd (cc)
    plain_by_death plain (retired d w) e = absurd (cc)
    plain_by_death (aside d w) plain e = absurd (cc)
    plain_by_death (aside d w) (aside a b) e = refl
    plain_by_death (aside d w) (retired a b) e = refl
    plain_by_death (retired d w) plain e = absurd (cc)
    plain_by_death (retired d w) (aside a b) e = refl
    plain_by_death (retired d w) (retired a b) e = refl

-- a dead node's number is free: it was made plain, its sides were retired, and it was freed
pub frees_top : (p p1 m q : Nodes) (v : Pins) (gs us : List Tree) (rs : List (List Tree)) (d : Dead) (ds : List Dead) (n : Node) → IsLedger p v gs us rs (d ∷ ds) → Marks p p1 d.id plain → node_at p d.id ≡ Some n → RetiresSides d.whole p1 m n d.death → Updates m q d.id None → KeepsMarks m q → FreesTop p q d
frees_top p p1 m q v gs us rs d ds n l taken found sides up keep =
    let entry : IsDead p v.commit d = All-head (IsDead p v.commit) d ds l.waste in
    let same : entry.top ≡ n = some_same entry.top n (sym entry.found ∙ found) in
    let has : HasSides d.whole n d.left d.right = subst (λ k. HasSides d.whole k d.left d.right) same entry.sides in
    let most : (x : ℕ) → one d.id x + occurrences d.left x + occurrences d.right x ≤ 1 = λ x. omega (arith, l.once x, used_most p x, dead_cons d ds x) in
    let b = sides_bury p1 m n d sides has (λ x. omega (arith, most x)) in
    let clear : tops (sides_of d) d.id ≡ 0 = omega (arith, most d.id, one_same d.id, tops_most (sides_of d) d.id, dead_sides d d.id) in
    record {
      freed = up.changed;
      others = λ x ne. up.others x ne ∙ b.nodes x ∙ marks_nodes p p1 d.id plain taken x;
      plain_now = keep d.id ∙ b.others d.id clear ∙ taken.changed;
      marked = λ k e h. ap death_of (keep (get_or (sides_of d) k e).id) ∙ b.marked k e h;
      marks = λ x off. let both = tops_cons d (sides_of d) x in
          keep x ∙ b.others x (omega arith) ∙ taken.others x (λ e. let z : one d.id x ≡ 1 = subst (λ y. one y x ≡ 1) e (one_same x) in absurd (omega arith));
    }
  where
    some_same : (a b : Node) → Some a ≡ Some b → a ≡ b
    some_same a b e = cc
