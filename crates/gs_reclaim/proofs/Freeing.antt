-- A retired node that was taken off the list: it can be freed, and what stays of the pool then.
use Rattle.std.proofs.Common.{◌≡◌, ◌≢◌, ℕ, suc, ◌+◌, ◌<◌, ◌≤◌, Bool, true, false, cond, count_by, List, [], ◌∷◌, get_or, Option, Some, None, is_some, refl, sym, ap, subst, ◌∙◌, inl, inr, arith}
use Rattle.std.proofs.lemmas.Bool.{cases_eq}
use Rattle.std.proofs.lemmas.List.Elements.{All-head}
use Rattle.std.proofs.lemmas.List.Sums.{sum_by-cons}
use Rattle.std.specs.List.{sum_by}
use Rattle.gs_pool.specs.declared.nodes.Node.{Node}
use Rattle.gs_pool.specs.declared.nodes.Retired.{Retired}
use Rattle.gs_pool.specs.Pool.{Nodes, NodeMark, plain, aside, retired, node_at, mark_at, IsPlain, KeepsMarks, KeepsNodes, Marks, Unlists}
use Rattle.gs_tree.specs.Tree.{Tree, leaf, fork, root_of, occurrences, Stands}
use Rattle.gs_tree.specs.Steps.{one, plain_mark}
use Rattle.gs_tree.proofs.TreeLemmas.{one_same}
use Rattle.gs_versions.specs.Pins.{Pins, IsNeeded}
use Rattle.gs_event.specs.Waste.{Lifetime, is_needed}
use Rattle.gs_ledger.specs.Entries.{Dead, tops}
use Rattle.gs_ledger.specs.Marks.{death_of, dead_at, waste_at}
use Rattle.gs_ledger.specs.Ledger.{HasSides, IsDead, IsLedger}
use Rattle.gs_ledger.specs.Changes.{RetiresRoot, RetiresSides, FreesTop}
use Rattle.gs_ledger.proofs.Sums.{dead_cons, tops_cons, tops_most}
use Rattle.gs_ledger.proofs.Frames.{used_most}
use Rattle.gs_ledger.proofs.Marked.{ledger_of_marks}
use Rattle.gs_ledger.proofs.Retiring.{first_ledger, frees_top, marks_nodes}
use Rattle.gs_ledger.proofs.Staying.{may_go}
use Rattle.gs_ledger.proofs.Needing.{not_needed}
use Rattle.gs_reclaim.specs.Reclaims.{HasMarkedLedger, CanRetireRoot, IsSide, AreApart, AreSides, CanFree, SettlesNode}

mark_plain : (m : NodeMark) → plain_mark m ≡ 1 → m ≡ plain
mark_plain plain e = refl
mark_plain (aside death whole) e = absurd (omega arith)
mark_plain (retired death whole) e = absurd (omega arith)

some_node : (a b : Node) → Some a ≡ Some b → a ≡ b
some_node a b e = cc

some_number : (a b : ℕ) → Some a ≡ Some b → a ≡ b
some_number a b e = cc

-- the root of a tree of plain nodes can be retired
side_ok : (p p1 : Nodes) (id : ℕ) (t : Tree) → Stands p t → KeepsNodes p p1 → ((x : ℕ) → 0 < occurrences t x → (x ≢ id) × (mark_at p1 x ≡ plain)) → IsSide p1 id (root_of t)
side_ok p p1 id leaf s nodes h = tt
side_ok p p1 id (fork i birth l k r) s nodes h = let f = h i (omega (arith, one_same i)) in ((ap is_some (nodes i ∙ s.0), f.1), f.0)

-- two trees that share no number have different roots
roots_apart : (l r : Tree) → ((x : ℕ) → occurrences l x + occurrences r x ≤ 1) → AreApart (root_of l) (root_of r)
roots_apart leaf r h = tt
roots_apart (fork i birth a k b) leaf h = tt
roots_apart (fork i birth a k b) (fork j later c m d) h = λ e. let two = subst (λ y. occurrences (fork i birth a k b) i + occurrences (fork y later c m d) i ≤ 1) (sym e) (h i) in absurd (omega (arith, one_same i))

-- what is taken off the list of retired nodes can be freed
pub can_free : (p p1 : Nodes) (v : Pins) (r : Retired) → HasMarkedLedger p v → Unlists p p1 r.id (retired r.death r.whole) → CanFree p1 r.id r.whole
can_free p p1 v r h u =
    let b = first_ledger p v h.graphs h.uploads h.reads (dead_at p) r.id r.death r.whole h.ledger (ap death_of u.was) in
    let d = b.first in
    let l = b.ledger in
    let nodes = marks_nodes p p1 r.id plain u.marks in
    let entry : IsDead p v.commit d = All-head (IsDead p v.commit) d b.rest l.waste in
    let same : entry.top ≡ u.used.0 = some_node entry.top u.used.0 (sym entry.found ∙ ap (node_at p) b.id_is ∙ u.used.1) in
    let most : (x : ℕ) → one d.id x + occurrences d.left x + occurrences d.right x + tops b.rest x ≤ 1 = λ x. omega (arith, l.once x, used_most p x, dead_cons d b.rest x, tops_most b.rest x) in
    let below : (x : ℕ) → 0 < occurrences d.left x + occurrences d.right x → (x ≢ r.id) × (mark_at p1 x ≡ plain) = λ x g.
    let ne : x ≢ r.id = λ e. let z : one d.id x ≡ 1 = subst (λ y. one d.id y ≡ 1) (b.id_is ∙ sym e) (one_same d.id) in absurd (omega (arith, most x)) in
    (ne, u.marks.others x ne ∙ mark_plain (mark_at p x) (omega (arith, l.marks x, tops_cons d b.rest x, most x))) in
    record {
      node = u.used.0;
      found = nodes r.id ∙ u.used.1;
      plain_mark = u.marks.changed;
      sides = by_whole p1 r.id u.used.0 d r.whole
          (subst (λ w. HasSides w u.used.0 d.left d.right) b.whole_is (subst (λ k. HasSides d.whole k d.left d.right) same entry.sides))
          (side_ok p p1 r.id d.left entry.left_tree.stands nodes (λ x g. below x (omega arith)))
          (side_ok p p1 r.id d.right entry.right_tree.stands nodes (λ x g. below x (omega arith)))
          (roots_apart d.left d.right (λ x. omega (arith, most x)));
    }
  where
    by_whole : (q : Nodes) (id : ℕ) (n : Node) (d : Dead) (w : Bool) → HasSides w n d.left d.right → IsSide q id (root_of d.left) → IsSide q id (root_of d.right) → AreApart (root_of d.left) (root_of d.right) → AreSides w q id n
    by_whole q id n d true s a b c = (subst (IsSide q id) (sym s.0) a, subst (IsSide q id) (sym s.1) b, subst (λ o. AreApart o n.right) (sym s.0) (subst (AreApart (root_of d.left)) (sym s.1) c))
    by_whole q id n d false s a b c = tt

-- a side can be retired
pub side_root : (p : Nodes) (id : ℕ) (o : Option ℕ) → IsSide p id o → CanRetireRoot p o
side_root p id None s = tt
side_root p id (Some x) s = s.0

-- to retire a root changes no node
pub root_nodes : (p q : Nodes) (o : Option ℕ) (death : ℕ) → RetiresRoot p q o death → KeepsNodes p q
root_nodes p q None death h x = ap (λ (r : Nodes). node_at r x) h
root_nodes p q (Some id) death h x = marks_nodes p q id (retired death true) h x

-- and no mark but that of the root
root_marks : (p q : Nodes) (o : Option ℕ) (death : ℕ) (x : ℕ) → RetiresRoot p q o death → ((i : ℕ) → o ≡ Some i → x ≢ i) → mark_at q x ≡ mark_at p x
root_marks p q None death x h ne = ap (λ (r : Nodes). mark_at r x) h
root_marks p q (Some i) death x h ne = h.others x (ne i refl)

-- after one side is retired the other can be
pub other_side : (p m : Nodes) (id : ℕ) (left right : Option ℕ) (death : ℕ) → RetiresRoot p m left death → IsSide p id right → AreApart left right → CanRetireRoot m right
other_side p m id left None death h s a = tt
other_side p m id left (Some x) death h s a = (ap is_some (root_nodes p m left death h x) ∙ s.0.0, root_marks p m left death x h (apart left a) ∙ s.0.1)
  where
    apart : (o : Option ℕ) → AreApart o (Some x) → (i : ℕ) → o ≡ Some i → x ≢ i
    apart None a i e = absurd (cc)
    apart (Some j) a i e = λ f. a (some_number j i e ∙ sym f)

-- the node itself keeps its mark
side_not : (p : Nodes) (id : ℕ) (o : Option ℕ) → IsSide p id o → (i : ℕ) → o ≡ Some i → id ≢ i
side_not p id None s i e = absurd (cc)
side_not p id (Some x) s i e = λ f. s.1 (some_number x i e ∙ sym f)

pub top_stays : (p m : Nodes) (id : ℕ) (n : Node) (death : ℕ) (w : Bool) → AreSides w p id n → RetiresSides w p m n death → mark_at m id ≡ mark_at p id
top_stays p m id n death true s h = root_marks h.0 m n.right death id h.2 (side_not p id n.right s.1) ∙ root_marks p h.0 n.left death id h.1 (side_not p id n.left s.0)
top_stays p m id n death false s h = ap (λ (r : Nodes). mark_at r id) h

-- what is set aside was, before roots were retired
root_aside : (p q : Nodes) (o : Option ℕ) (death x a : ℕ) (w : Bool) → RetiresRoot p q o death → mark_at q x ≡ aside a w → mark_at p x ≡ aside a w
root_aside p q None death x a w h e = sym (ap (λ (r : Nodes). mark_at r x) h) ∙ e
root_aside p q (Some i) death x a w h e = elim (cases_eq x i) [
  | inl here ↦ absurd (let now : mark_at q x ≡ retired death true = subst (λ y. mark_at q y ≡ retired death true) (sym here) h.changed in let bad : retired death true ≡ aside a w = sym now ∙ e in cc)
  | inr ne ↦ sym (h.others x ne) ∙ e
]

sides_aside : (p q : Nodes) (n : Node) (death x a : ℕ) (w whole : Bool) → RetiresSides whole p q n death → mark_at q x ≡ aside a w → mark_at p x ≡ aside a w
sides_aside p q n death x a w true h e = root_aside p h.0 n.left death x a w h.1 (root_aside h.0 q n.right death x a w h.2 e)
sides_aside p q n death x a w false h e = sym (ap (λ (r : Nodes). mark_at r x) h) ∙ e

-- one node fewer: its lifetime, which no pin needs, is out of the waste, and what is set aside was before
pub record FreesOne (v : Pins) (p q : Nodes) (gs us : List Tree) (rs : List (List Tree)) : Type 0 where
  pub ledger : IsLedger q v gs us rs (dead_at q)
  pub gone : Lifetime
  pub waste : (f : Lifetime → ℕ) → sum_by f (waste_at q) + f gone ≡ sum_by f (waste_at p)
  pub not_needed : is_needed v.seats gone ≡ false
  pub asides : (x a : ℕ) (w : Bool) (n : Node) → mark_at q x ≡ aside a w → node_at q x ≡ Some n → (mark_at p x ≡ aside a w) × (node_at p x ≡ Some n)

pub frees_one : (p p1 q : Nodes) (v : Pins) (gs us : List Tree) (rs : List (List Tree)) (r : Retired) → IsLedger p v gs us rs (dead_at p) → Unlists p p1 r.id (retired r.death r.whole) → SettlesNode v p1 q r true → FreesOne v p q gs us rs
frees_one p p1 q v gs us rs r l0 u s =
    let b = first_ledger p v gs us rs (dead_at p) r.id r.death r.whole l0 (ap death_of u.was) in
    let d = b.first in
    let l = b.ledger in
    let roll = s.3 in
    let nodes = marks_nodes p p1 r.id plain u.marks in
    let entry : IsDead p v.commit d = All-head (IsDead p v.commit) d b.rest l.waste in
    let found : node_at p d.id ≡ Some roll.node = ap (node_at p) b.id_is ∙ sym (nodes r.id) ∙ roll.found in
    let top_is : s.0 ≡ entry.top = some_node s.0 entry.top (sym s.1 ∙ nodes r.id ∙ ap (node_at p) (sym b.id_is) ∙ entry.found) in
    let never : IsNeeded v d.birth d.death → ⊥ = λ need. s.2 (subst (λ y. IsNeeded v y r.death) (sym (ap (λ (n : Node). n.birth) top_is ∙ entry.birth_is)) (subst (IsNeeded v d.birth) b.death_is need)) in
    let frees : FreesTop p q d = frees_top p p1 roll.between q v gs us rs d b.rest roll.node l
    (subst (λ i. Marks p p1 i plain) (sym b.id_is) u.marks)
    found
    (subst (λ w. RetiresSides w p1 roll.between roll.node d.death) (sym b.whole_is) (subst (RetiresSides r.whole p1 roll.between roll.node) (sym b.death_is) roll.sides))
    (subst (λ i. Rattle.gs_pool.specs.Pool.Updates roll.between q i None) (sym b.id_is) roll.updates)
    roll.marks in
    let go = may_go p q v gs us rs d b.rest l frees never in
    record {
      ledger = ledger_of_marks q v gs us rs _ go.ledger;
      gone = record { birth = d.birth; death = d.death };
      waste = go.waste;
      not_needed = not_needed v (record { birth = d.birth; death = d.death }) never;
      asides = λ x a w n e f.
          let apart : x ≢ d.id = λ g. let free : node_at q x ≡ None = subst (λ y. node_at q y ≡ None) (sym g) frees.freed in let bad : None ≡ Some n = sym free ∙ f in cc in
          let was : mark_at p1 x ≡ aside a w = sides_aside p1 roll.between roll.node r.death x a w r.whole roll.sides (sym (roll.marks x) ∙ e) in
          (sym (u.marks.others x (λ g. apart (g ∙ sym b.id_is))) ∙ was, sym (frees.others x apart) ∙ f);
    }

-- lists that have the same mark at each place have as many of a kind that is not plain
pub same_count : (test : NodeMark → Bool) → test plain ≡ false → (a b : List NodeMark) → ((x : ℕ) → get_or a x plain ≡ get_or b x plain) → count_by test a ≡ count_by test b
same_count test off [] [] h = refl
same_count test off [] (m ∷ b) h = omega (arith, sum_by-cons (λ o. cond {A = ℕ} (test o) 1 0) m b, ap (λ o. cond {A = ℕ} (test o) 1 0) (h 0), ap (λ t. cond {A = ℕ} t 1 0) off, same_count test off [] b (λ x. h (suc x)))
same_count test off (m ∷ a) [] h = omega (arith, sum_by-cons (λ o. cond {A = ℕ} (test o) 1 0) m a, ap (λ o. cond {A = ℕ} (test o) 1 0) (h 0), ap (λ t. cond {A = ℕ} t 1 0) off, same_count test off a [] (λ x. h (suc x)))
same_count test off (m ∷ a) (n ∷ b) h = omega (arith, sum_by-cons (λ o. cond {A = ℕ} (test o) 1 0) m a, sum_by-cons (λ o. cond {A = ℕ} (test o) 1 0) n b, ap (λ o. cond {A = ℕ} (test o) 1 0) (h 0), same_count test off a b (λ x. h (suc x)))
