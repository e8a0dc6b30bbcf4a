-- What a root means, and which nodes are dead, depends on the nodes and marks of the numbers alone.
use Rattle.std.proofs.Common.{◌≡◌, ◌⊎◌, ℕ, zero, suc, ◌+◌, ◌<◌, ◌≤◌, Bool, true, false, List, [], ◌∷◌, ◌++◌, length, Option, Some, None, refl, sym, ap, subst, ◌∙◌, inl, inr, arith}
use Rattle.std.proofs.lemmas.Bool.{cases_lt}
use Rattle.std.proofs.lemmas.List.{get_or_past}
use Rattle.std.proofs.lemmas.List.Elements.{All-append, All-cons, All-nil}
use Rattle.std.specs.List.{All, Contains}
use Rattle.gs_pool.specs.declared.nodes.Node.{Node}
use Rattle.gs_pool.specs.Pool.{Nodes, node_at, mark_at, KeepsNodes, KeepsMarks}
use Rattle.gs_tree.specs.Tree.{Tree, fork, node_height, height_at, grow, grow_node, tree_at}
use Rattle.gs_tree.specs.Steps.{one}
use Rattle.gs_tree.proofs.TreeLemmas.{one_same}
use Rattle.gs_versions.specs.Pins.{Pins}
use Rattle.gs_ledger.specs.Entries.{Dead, tops}
use Rattle.gs_ledger.specs.Marks.{death_of, side_at, dead_entry_at, dead_below, dead_at}
use Rattle.gs_ledger.specs.Ledger.{IsLedger}
use Rattle.gs_ledger.specs.Changes.{AreSameDead}
use Rattle.gs_ledger.proofs.Sums.{zero_or, all_at, tops_cons, tops_append}
use Rattle.gs_ledger.proofs.Orders.{top_found}
use Rattle.gs_ledger.proofs.Marked.{said_by_marks}

-- a number as a dead node, where it has a node and a death
abbrev here : Nodes → ℕ → List Dead
here p x = dead_entry_at p x (node_at p x) (death_of (mark_at p x))

-- pools with the same nodes
module _ (p q : Nodes) (nodes : KeepsNodes p q) where
  node_same : (n id : ℕ) → ((root : Option ℕ) → grow n q root ≡ grow n p root) → (o : Option Node) → grow_node (grow n q) id o ≡ grow_node (grow n p) id o
  node_same n id below None = refl
  node_same n id below (Some m) = ap (λ l. fork id m.birth l m.key (grow n q m.right)) (below m.left) ∙ ap (λ r. fork id m.birth (grow n p m.left) m.key r) (below m.right)

  grow_same : (n : ℕ) (root : Option ℕ) → grow n q root ≡ grow n p root
  grow_same zero root = refl
  grow_same (suc n) None = refl
  grow_same (suc n) (Some id) = ap (grow_node (grow n q) id) (nodes id) ∙ node_same n id (grow_same n) (node_at p id)

  height_same : (root : Option ℕ) → height_at q root ≡ height_at p root
  height_same None = refl
  height_same (Some id) = ap node_height (nodes id)

  -- each root means the same
  pub tree_at_same : (root : Option ℕ) → tree_at q root ≡ tree_at p root
  tree_at_same root = ap (λ h. grow h q root) (height_same root) ∙ grow_same (height_at p root) root

  side_same : (whole : Bool) (root : Option ℕ) → side_at q whole root ≡ side_at p whole root
  side_same true root = tree_at_same root
  side_same false root = refl

  entry_same : (x : ℕ) (o : Option Node) (d : Option (ℕ × Bool)) → dead_entry_at q x o d ≡ dead_entry_at p x o d
  entry_same x None d = refl
  entry_same x (Some n) None = refl
  entry_same x (Some n) (Some d) =
      let l = side_same d.1 n.left in
      let r = side_same d.1 n.right in
      λ i. record { id = x; birth = n.birth; death = d.0; whole = d.1; left = l i; right = r i } ∷ []

  here_same : KeepsMarks p q → (x : ℕ) → here q x ≡ here p x
  here_same marks x = ap (λ o. dead_entry_at q x o (death_of (mark_at q x))) (nodes x) ∙ ap (λ m. dead_entry_at q x (node_at p x) (death_of m)) (marks x) ∙ entry_same x (node_at p x) (death_of (mark_at p x))

-- past its numbers a pool has no dead node
here_past : (p : Nodes) (x : ℕ) → length p.nodes ≤ x → here p x ≡ []
here_past p x past = ap (λ o. dead_entry_at p x o (death_of (mark_at p x))) (get_or_past p.nodes x None past)

below_past : (p : Nodes) (n : ℕ) → length p.nodes ≤ n → dead_below n p ≡ dead_at p
below_past p zero h = let all : 0 ≡ length p.nodes = omega arith in ap (λ k. dead_below k p) all
below_past p (suc n) h = elim (cases_lt n (length p.nodes)) [
  | inl inside ↦ let all : suc n ≡ length p.nodes = omega arith in ap (λ k. dead_below k p) all
  | inr past ↦ ap (λ ds. ds ++ dead_below n p) (here_past p n past) ∙ below_past p n past
]

below_same : (p q : Nodes) → ((x : ℕ) → here q x ≡ here p x) → (n : ℕ) → dead_below n q ≡ dead_below n p
below_same p q h zero = refl
below_same p q h (suc n) = ap (λ ds. ds ++ dead_below n q) (h n) ∙ ap (λ ds. here p n ++ ds) (below_same p q h n)

-- pools whose numbers are the same dead nodes have the same dead nodes
dead_by_number : (p q : Nodes) → ((x : ℕ) → here q x ≡ here p x) → dead_at q ≡ dead_at p
dead_by_number p q h =
    let n = length p.nodes + length q.nodes in
    sym (below_past q n (omega arith)) ∙ below_same p q h n ∙ below_past p n (omega arith)

pub dead_at_same : (p q : Nodes) → KeepsNodes p q → KeepsMarks p q → dead_at q ≡ dead_at p
dead_at_same p q nodes marks = dead_by_number p q (here_same p q nodes marks)

-- each dead node is that of its number
abbrev IsHere : Nodes → Dead → Type 0
IsHere p d = here p d.id ≡ d ∷ []

entry_here : (p : Nodes) (x : ℕ) (o : Option Node) (d : Option (ℕ × Bool)) → node_at p x ≡ o → death_of (mark_at p x) ≡ d → All (IsHere p) (dead_entry_at p x o d)
entry_here p x None d e f = All-nil (IsHere p)
entry_here p x (Some n) None e f = All-nil (IsHere p)
entry_here p x (Some n) (Some d) e f = All-cons (IsHere p) _ [] (ap (λ o. dead_entry_at p x o (death_of (mark_at p x))) e ∙ ap (dead_entry_at p x (Some n)) f) (All-nil (IsHere p))

below_here : (p : Nodes) (n : ℕ) → All (IsHere p) (dead_below n p)
below_here p zero = All-nil (IsHere p)
below_here p (suc n) = All-append (IsHere p) (here p n) (dead_below n p) (entry_here p n (node_at p n) (death_of (mark_at p n)) refl refl) (below_here p n)

tops_below : (p : Nodes) (n x : ℕ) → x < n → tops (here p x) x ≤ tops (dead_below n p) x
tops_below p zero x h = absurd (omega arith)
tops_below p (suc n) x h = elim (cases_lt x n) [
  | inl less ↦ omega (arith, tops_append (here p n) (dead_below n p) x, tops_below p n x less)
  | inr last ↦
      let same : x ≡ n = omega arith in
      let tops_are : tops (here p x) x ≡ tops (here p n) x = ap (λ y. tops (here p y) x) same in
      omega (arith, tops_append (here p n) (dead_below n p) x, tops_are)
]

no_top : (p : Nodes) (x : ℕ) (o : Option Node) (d : Option (ℕ × Bool)) → tops (dead_entry_at p x o d) x ≡ 0 → dead_entry_at p x o d ≡ []
no_top p x None d h = refl
no_top p x (Some n) None h = refl
no_top p x (Some n) (Some d) h =
    let e : Dead = record { id = x; birth = n.birth; death = d.0; whole = d.1; left = side_at p d.1 n.left; right = side_at p d.1 n.right } in
    absurd (omega (arith, h, tops_cons e [] x, one_same x))

-- a number is that of one of the dead nodes, or of none
at_number : (p : Nodes) (x : ℕ) → ((tops (dead_at p) x ≡ 0) × (here p x ≡ [])) ⊎ ((d : Dead) × Contains (dead_at p) d × (d.id ≡ x) × (0 < tops (dead_at p) x))
at_number p x = elim (zero_or (tops (dead_at p) x)) [
  | inl none ↦ inl (
    none,
    elim (cases_lt x (length p.nodes)) [
      | inl inside ↦ no_top p x (node_at p x) (death_of (mark_at p x)) (omega (arith, none, tops_below p (length p.nodes) x inside))
      | inr past ↦ here_past p x past
    ],
  )
  | inr some ↦ let found = top_found (dead_at p) x some in inr (found.0, found.1, found.2, some)
]

-- a dead node of the pool is that of its number
found_here : (p : Nodes) (d : Dead) (x : ℕ) → Contains (dead_at p) d → d.id ≡ x → here p x ≡ d ∷ []
found_here p d x c is = subst (λ y. here p y ≡ d ∷ []) is (all_at (IsHere p) (dead_at p) d (below_here p (length p.nodes)) c)

-- the dead nodes that the marks say stand in one order
dead_in_order : (p q : Nodes) → AreSameDead (dead_at p) (dead_at q) → dead_at q ≡ dead_at p
dead_in_order p q same = dead_by_number p q by_number
  where
    few : (x : ℕ) → tops (dead_at q) x ≡ tops (dead_at p) x
    few x = same.sums (λ d. one d.id x)

    by_number : (x : ℕ) → here q x ≡ here p x
    by_number x = elim (at_number q x) [
      | inr found ↦ found_here q found.0 x found.1 found.2 ∙ sym (found_here p found.0 x (all_at (Contains (dead_at p)) (dead_at q) found.0 same.each found.1) found.2)
      | inl none ↦ elim (at_number p x) [
        | inl none' ↦ none.1 ∙ sym none'.1
        | inr found ↦ absurd (omega (arith, few x, none.0, found.3))
      ]
    ]

-- so a pool with a ledger over the dead nodes of another has the same
pub dead_at_said : (p q : Nodes) (v : Pins) (gs us : List Tree) (rs : List (List Tree)) → IsLedger q v gs us rs (dead_at p) → dead_at q ≡ dead_at p
dead_at_said p q v gs us rs l = dead_in_order p q (said_by_marks q v gs us rs (dead_at p) l)
