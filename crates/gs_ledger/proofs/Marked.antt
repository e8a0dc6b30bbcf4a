-- The dead nodes of a ledger are those that the marks of the pool say.
use Rattle.std.proofs.Common.{◌≡◌, ◌≢◌, ◌⊎◌, ℕ, zero, suc, ◌+◌, ◌<◌, ◌≤◌, Bool, true, false, cond, eqb, List, [], ◌∷◌, length, get_or, Option, Some, None, is_some, refl, sym, ap, subst, ◌∙◌, inl, inr, arith}
use Rattle.std.proofs.lemmas.Bool.{cases_eq, cases_lt, eq-eqb, ne_eqb}
use Rattle.std.proofs.lemmas.List.{get_or_past}
use Rattle.std.proofs.lemmas.List.Elements.{All-append, All-cons, All-nil, Contains-get_or}
use Rattle.std.proofs.lemmas.List.Sums.{sum_by-cons, sum_by-append}
use Rattle.std.specs.List.{All, Contains, sum_by}
use Rattle.gs_pool.specs.declared.nodes.Node.{Node}
use Rattle.gs_pool.specs.Pool.{Nodes, NodeMark, plain, aside, retired, node_at, mark_at}
use Rattle.gs_tree.specs.Tree.{Tree, Stands, tree_at}
use Rattle.gs_tree.specs.Steps.{one, plain_mark}
use Rattle.gs_tree.proofs.TreeLemmas.{tree_at-is, one_same}
use Rattle.gs_tree.proofs.Counting.{below, below_add, below_same, below_none}
use Rattle.gs_versions.specs.Pins.{Pins}
use Rattle.gs_ledger.specs.Entries.{Dead, tops}
use Rattle.gs_ledger.specs.Marks.{death_of, side_at, dead_entry_at, dead_below, dead_at, used_count}
use Rattle.gs_ledger.specs.Ledger.{HasSides, IsDead, IsLedger}
use Rattle.gs_ledger.specs.Changes.{AreSameTrees, AreSameDead}
use Rattle.gs_ledger.proofs.Sums.{zero_or, all_at, sum_contained, tops_cons, tops_most}
use Rattle.gs_ledger.proofs.Orders.{top_found, reorder_ledger}

-- the sides of a dead node are those that the pool has
side_is : (p : Nodes) (w : Bool) (n : Node) (l r : Tree) → HasSides w n l r → Stands p l → Stands p r → (side_at p w n.left ≡ l) × (side_at p w n.right ≡ r)
side_is p true n l r s sl sr = (ap (tree_at p) s.0 ∙ tree_at-is p l sl, ap (tree_at p) s.1 ∙ tree_at-is p r sr)
side_is p false n l r s sl sr = (sym s.0, sym s.1)

-- a dead node is what its mark says
entry_is : (p : Nodes) (c : ℕ) (d : Dead) → IsDead p c d → dead_entry_at p d.id (node_at p d.id) (death_of (mark_at p d.id)) ≡ d ∷ []
entry_is p c d s =
    let both = side_is p d.whole s.top d.left d.right s.sides s.left_tree.stands s.right_tree.stands in
    let b = s.birth_is in
    let l = both.0 in
    let r = both.1 in
    let same : dead_entry_at p d.id (Some s.top) (Some (d.death, d.whole)) ≡ d ∷ [] =
    λ i. record { id = d.id; birth = b i; death = d.death; whole = d.whole; left = l i; right = r i } ∷ [] in
    ap (λ o. dead_entry_at p d.id o (death_of (mark_at p d.id))) s.found ∙ ap (dead_entry_at p d.id (Some s.top)) s.marked ∙ same

plain_none : (m : NodeMark) → plain_mark m ≡ 1 → death_of m ≡ None
plain_none plain e = refl
plain_none (aside death whole) e = absurd (omega arith)
plain_none (retired death whole) e = absurd (omega arith)

entry_none : (p : Nodes) (x : ℕ) (o : Option Node) → dead_entry_at p x o None ≡ []
entry_none p x None = refl
entry_none p x (Some n) = refl

-- what f gives of a dead node, where it has this number
abbrev part : (Dead → ℕ) → ℕ → Dead → ℕ
part f x d = cond {A = ℕ} (eqb d.id x) (f d) 0

part_cases : (f : Dead → ℕ) (x : ℕ) (d : Dead) → ((d.id ≡ x) × (one d.id x ≡ 1) × (part f x d ≡ f d)) ⊎ ((d.id ≢ x) × (one d.id x ≡ 0) × (part f x d ≡ 0))
part_cases f x d = elim (cases_eq d.id x) [
  | inl e ↦ inl (e, rw (eq-eqb d.id x e), rw (eq-eqb d.id x e))
  | inr ne ↦ inr (ne, rw (ne_eqb d.id x ne), rw (ne_eqb d.id x ne))
]

abbrev parts : (Dead → ℕ) → List Dead → ℕ → ℕ
parts f ds x = sum_by (part f x) ds

parts_none : (f : Dead → ℕ) (ds : List Dead) (x : ℕ) → tops ds x ≡ 0 → parts f ds x ≡ 0
parts_none f [] x h = refl
parts_none f (d ∷ ds) x h = elim (part_cases f x d) [
  | inl here ↦ absurd (omega (arith, here.1, tops_cons d ds x))
  | inr ne ↦ omega (arith, ne.2, sum_by-cons (part f x) d ds, parts_none f ds x (omega (arith, tops_cons d ds x)))
]

parts_one : (f : Dead → ℕ) (ds : List Dead) (x : ℕ) (d : Dead) (k : ℕ) → k < length ds → get_or ds k d ≡ d → d.id ≡ x → tops ds x ≤ 1 → parts f ds x ≡ f d
parts_one f [] x d k h e at few = absurd (omega arith)
parts_one f (a ∷ ds) x d zero h e at few = elim (part_cases f x a) [
  | inl here ↦ let same : a ≡ d = e in omega (arith, here.2, ap f same, sum_by-cons (part f x) a ds, parts_none f ds x (omega (arith, here.1, tops_cons a ds x)))
  | inr ne ↦ let same : a ≡ d = e in absurd (ne.0 (ap (λ (m : Dead). m.id) same ∙ at))
]
parts_one f (a ∷ ds) x d (suc k) h e at few =
    let mine : one d.id x ≡ 1 = subst (λ y. one d.id y ≡ 1) at (one_same d.id) in
    let more : one d.id x ≤ tops ds x = sum_contained (λ m. one m.id x) ds d (k, omega arith, e) in
    elim (part_cases f x a) [
      | inl here ↦ absurd (omega (arith, here.1, tops_cons a ds x))
      | inr ne ↦ omega (arith, ne.2, sum_by-cons (part f x) a ds, parts_one f ds x d k (omega arith) e at (omega (arith, tops_cons a ds x)))
    ]

-- the sum of one part over the numbers
below_part_past : (f : Dead → ℕ) (d : Dead) (n : ℕ) → n ≤ d.id → below (λ x. part f x d) n ≡ 0
below_part_past f d zero h = refl
below_part_past f d (suc n) h = elim (part_cases f n d) [
  | inl here ↦ absurd (let e : d.id ≡ n = here.0 in omega arith)
  | inr ne ↦ omega (arith, ne.2, below_part_past f d n (omega arith))
]

below_part : (f : Dead → ℕ) (d : Dead) (n : ℕ) → d.id < n → below (λ x. part f x d) n ≡ f d
below_part f d zero h = absurd (omega arith)
below_part f d (suc n) h = elim (part_cases f n d) [
  | inl here ↦ let e : d.id ≡ n = here.0 in omega (arith, here.2, below_part_past f d n (omega arith))
  | inr ne ↦ omega (arith, ne.2, below_part f d n (lower ne.0))
]
  where
    lower : d.id ≢ n → d.id < n
    lower ne = omega arith

-- a sum over dead nodes, by their numbers
below_parts : (f : Dead → ℕ) (ds : List Dead) (n : ℕ) → ((x : ℕ) → 0 < tops ds x → x < n) → below (parts f ds) n ≡ sum_by f ds
below_parts f [] n h = below_none n
below_parts f (d ∷ ds) n h = omega (
  arith,
  below_same (parts f (d ∷ ds)) (λ x. part f x d + parts f ds x) n (λ x l. sum_by-cons (part f x) d ds),
  below_add (λ x. part f x d) (parts f ds) n,
  below_part f d n (h d.id (omega (arith, tops_cons d ds d.id, one_same d.id))),
  below_parts f ds n (λ x g. h x (omega (arith, tops_cons d ds x))),
  sum_by-cons f d ds,
)

below_dead : (f : Dead → ℕ) (p : Nodes) (n : ℕ) → sum_by f (dead_below n p) ≡ below (λ x. sum_by f (dead_entry_at p x (node_at p x) (death_of (mark_at p x)))) n
below_dead f p zero = refl
below_dead f p (suc n) = omega (arith, sum_by-append f (dead_entry_at p n (node_at p n) (death_of (mark_at p n))) (dead_below n p), below_dead f p n)

module _ (p : Nodes) (v : Pins) (gs us : List Tree) (rs : List (List Tree)) (ds : List Dead) (l : IsLedger p v gs us rs ds) where
  few : (x : ℕ) → tops ds x ≤ 1
  few x = omega (arith, l.marks x)

  -- a number is that of one dead node, or its mark says none
  said : (x : ℕ) → ((tops ds x ≡ 0) × (dead_entry_at p x (node_at p x) (death_of (mark_at p x)) ≡ [])) ⊎ ((d : Dead) × Contains ds d × (d.id ≡ x) × (dead_entry_at p x (node_at p x) (death_of (mark_at p x)) ≡ d ∷ []))
  said x = elim (zero_or (tops ds x)) [
    | inl none ↦ inl (none, ap (dead_entry_at p x (node_at p x)) (plain_none (mark_at p x) (omega (arith, l.marks x, none))) ∙ entry_none p x (node_at p x))
    | inr some ↦ let found = top_found ds x some in
        inr (found.0, found.1, found.2, subst (λ y. dead_entry_at p y (node_at p y) (death_of (mark_at p y)) ≡ found.0 ∷ []) found.2 (entry_is p v.commit found.0 (all_at (IsDead p v.commit) ds found.0 l.waste found.1)))
  ]

  -- a dead node has a place in the pool
  within : (x : ℕ) → 0 < tops ds x → x < length p.nodes
  within x h = elim (cases_lt x (length p.nodes)) [
    | inl inside ↦ inside
    | inr past ↦ absurd (let free : used_count p x ≡ 0 = ap (λ o. cond {A = ℕ} (is_some o) 1 0) (get_or_past p.nodes x None past) in omega (arith, l.once x, tops_most ds x))
  ]

  each_part : (f : Dead → ℕ) (x : ℕ) → sum_by f (dead_entry_at p x (node_at p x) (death_of (mark_at p x))) ≡ parts f ds x
  each_part f x = elim (said x) [
    | inl none ↦ ap (sum_by f) none.1 ∙ sym (parts_none f ds x none.0)
    | inr found ↦ omega (arith, ap (sum_by f) found.3, sum_by-cons f found.0 [], parts_one f ds x found.0 found.1.0 found.1.1 found.1.2 found.2 (few x))
  ]

  contained : (n : ℕ) → All (λ d. Contains ds d) (dead_below n p)
  contained zero = All-nil (λ d. Contains ds d)
  contained (suc n) = All-append (λ d. Contains ds d) (dead_entry_at p n (node_at p n) (death_of (mark_at p n))) (dead_below n p)
      (elim (said n) [
        | inl none ↦ subst (All (λ d. Contains ds d)) (sym none.1) (All-nil (λ d. Contains ds d))
        | inr found ↦ subst (All (λ d. Contains ds d)) (sym found.3) (All-cons (λ d. Contains ds d) found.0 [] found.1 (All-nil (λ d. Contains ds d)))
      ])
      (contained n)

  -- The dead nodes of a ledger are those that the marks say.
  pub said_by_marks : AreSameDead ds (dead_at p)
  said_by_marks = record {
    sums = λ f. below_dead f p (length p.nodes) ∙ below_same (λ x. sum_by f (dead_entry_at p x (node_at p x) (death_of (mark_at p x)))) (parts f ds) (length p.nodes) (λ x h. each_part f x) ∙ below_parts f ds (length p.nodes) within;
    each = contained (length p.nodes);
  }

-- trees are the same as themselves
pub same_trees : (ts : List Tree) → AreSameTrees ts ts
same_trees ts = record { sums = λ f none. refl; each = λ k d h. inr (Contains-get_or ts k d h) }

-- So a ledger may as well speak of the dead nodes that the marks say.
pub ledger_of_marks : (p : Nodes) (v : Pins) (gs us : List Tree) (rs : List (List Tree)) (ds : List Dead) → IsLedger p v gs us rs ds → IsLedger p v gs us rs (dead_at p)
ledger_of_marks p v gs us rs ds l = reorder_ledger p v gs gs us us rs ds (dead_at p) (same_trees gs) (same_trees us) (said_by_marks p v gs us rs ds l) l
