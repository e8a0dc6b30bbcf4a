-- The roots that a ledger knows: each means a tree that has it at its top, and can be retired.
use Rattle.std.proofs.Common.{◌≡◌, ℕ, zero, suc, ◌+◌, ◌<◌, List, [], ◌∷◌, get_or, Option, Some, None, is_some, IsSome, true≢false, refl, sym, ap, subst, ◌∙◌, inl, inr, arith}
use Rattle.std.proofs.lemmas.List.Sums.{sum_by-cons}
use Rattle.std.specs.List.{Contains, sum_by}
use Rattle.gs_pool.specs.declared.nodes.Node.{Node}
use Rattle.gs_pool.specs.Pool.{Nodes, plain, node_at, mark_at}
use Rattle.gs_tree.specs.Tree.{Tree, leaf, fork, root_of, occurrences, top_node, Stands, node_height, grow, grow_node, tree_at}
use Rattle.gs_tree.specs.Steps.{one, plain_mark}
use Rattle.gs_tree.proofs.TreeLemmas.{tree_at-is, one_cases, one_same}
use Rattle.gs_versions.specs.Pins.{Pins}
use Rattle.gs_ledger.specs.Entries.{Dead, trees_have, entry_has, died_whole}
use Rattle.gs_ledger.specs.Ledger.{IsTreeOf, IsDead, IsLedger}
use Rattle.gs_ledger.specs.Changes.{Buries, RetiresRoot}
use Rattle.gs_ledger.proofs.Sums.{zero_or, all_at, sum_at, sum_contained}
use Rattle.gs_ledger.proofs.Frames.{used_some}
use Rattle.gs_ledger.proofs.WriteSteps.{tree_plain}
use Rattle.gs_ledger.proofs.Retiring.{root_buries}
use Rattle.gs_reclaim.specs.Reclaims.{CanRetireRoot}
use Rattle.gs_commit.specs.Laws.{IsRetirable, AreRetirable}

same_height : (a b : Node) → Some a ≡ Some b → a.height ≡ b.height
same_height a b e = cc

-- a sum has a part that counts
sum_found : {X : Type 0} (f : X → ℕ) (xs : List X) → 0 < sum_by f xs → (x : X) × Contains xs x × (0 < f x)
sum_found f [] h = absurd (omega arith)
sum_found f (x ∷ xs) h = elim (zero_or (f x)) [
  | inl none ↦ let found = sum_found f xs (omega (arith, h, none, sum_by-cons f x xs)) in
      (found.0, (suc found.1.0, omega (arith, found.1.1), found.1.2), found.2)
  | inr some ↦ (x, (0, omega arith, refl), some)
]

-- a node of a tree is as high as the tree below it
stands_high : (p : Nodes) (t : Tree) (x : ℕ) (n : Node) → Stands p t → 0 < occurrences t x → node_at p x ≡ Some n → 0 < n.height
stands_high p leaf x n s h e = absurd (omega arith)
stands_high p (fork id birth l k r) x n s h e = elim (one_cases id x) [
  | inl top ↦ let found : node_at p x ≡ Some (top_node birth l k r) = subst (λ y. node_at p y ≡ Some (top_node birth l k r)) top.0 s.0 in
      omega (arith, same_height (top_node birth l k r) n (sym found ∙ e))
  | inr ne ↦ elim (zero_or (occurrences l x)) [
    | inl none ↦ stands_high p r x n s.2 (omega (arith, h, ne.1, none)) e
    | inr some ↦ stands_high p l x n s.1 some e
  ]
]

module _ (p : Nodes) (v : Pins) (gs us : List Tree) (rs : List (List Tree)) (ds : List Dead) (l : IsLedger p v gs us rs ds) where
  -- a plain node is one of a tree
  plain_high : (x : ℕ) (n : Node) → node_at p x ≡ Some n → mark_at p x ≡ plain → 0 < n.height
  plain_high x n e m = elim (zero_or (trees_have gs x)) [
    | inr some ↦ let f = sum_found (λ t. occurrences t x) gs some in
        stands_high p f.0 x n (all_at (IsTreeOf p v.commit) gs f.0 l.current f.1).stands f.2 e
    | inl none ↦ elim (zero_or (trees_have us x)) [
      | inr some ↦ let f = sum_found (λ t. occurrences t x) us some in
          stands_high p f.0 x n (all_at (IsTreeOf p (v.commit + 1)) us f.0 l.staged f.1).stands f.2 e
      | inl none' ↦ below (sum_found (λ d. entry_has d x) ds (omega (arith, l.once x, used_some p x n e, none, none')))
    ]
  ]
    where
      below : ((d : Dead) × Contains ds d × (0 < entry_has d x)) → 0 < n.height
      below f =
          let d = f.0 in
          let dead : IsDead p v.commit d = all_at (IsDead p v.commit) ds d l.waste f.1 in
          let no_top : one d.id x ≡ 0 = omega (arith, l.marks x, ap plain_mark m, sum_contained (λ k. one k.id x) ds d f.1) in
          elim (zero_or (occurrences d.left x)) [
            | inr some ↦ stands_high p d.left x n dead.left_tree.stands some e
            | inl none ↦ stands_high p d.right x n dead.right_tree.stands (omega (arith, f.2, no_top, none)) e
          ]

  -- a root that can be retired is at the top of what it means
  pub root_is : (root : Option ℕ) → CanRetireRoot p root → root_of (tree_at p root) ≡ root
  root_is None can = refl
  root_is (Some id) can = by_node (node_at p id) refl can.0
    where
      grown : (h : ℕ) (n : Node) → node_at p id ≡ Some n → 0 < h → root_of (grow h p (Some id)) ≡ Some id
      grown zero n e high = absurd (omega arith)
      grown (suc h) n e high = ap (λ o. root_of (grow_node (grow h p) id o)) e

      by_node : (o : Option Node) → node_at p id ≡ o → IsSome o → root_of (tree_at p (Some id)) ≡ Some id
      by_node None e some = absurd (true≢false (sym some))
      by_node (Some n) e some = grown (node_height (node_at p id)) n e (omega (arith, ap node_height e, plain_high id n e can.1))

  -- so to retire it buries its tree
  pub root_buried : (q : Nodes) (root : Option ℕ) (death : ℕ) → CanRetireRoot p root → RetiresRoot p q root death → Buries p q (died_whole death (tree_at p root))
  root_buried q root death can h = root_buries p q death (tree_at p root) (subst (λ o. RetiresRoot p q o death) (sym (root_is root can)) h)

-- a tree of plain nodes can be retired
plain_retirable : (p : Nodes) (t : Tree) → Stands p t → ((x : ℕ) → 0 < occurrences t x → mark_at p x ≡ plain) → IsRetirable p t
plain_retirable p t s h = record { root = by_tree t s h; means = tree_at-is p t s }
  where
    by_tree : (t : Tree) → Stands p t → ((x : ℕ) → 0 < occurrences t x → mark_at p x ≡ plain) → CanRetireRoot p (root_of t)
    by_tree leaf s h = tt
    by_tree (fork id birth l k r) s h = (ap is_some s.0, h id (omega (arith, one_same id)))

pub ledger_retirable : (p : Nodes) (v : Pins) (gs us : List Tree) (rs : List (List Tree)) (ds : List Dead) → IsLedger p v gs us rs ds → AreRetirable p gs us
ledger_retirable p v gs us rs ds l = record {
  current = λ k d h. plain_retirable p (get_or gs k d) (l.current k d h).stands (λ x g. tree_plain p v gs us rs ds l x (omega (arith, g, sum_at (λ t. occurrences t x) gs k d h)));
  staged = λ k d h. plain_retirable p (get_or us k d) (l.staged k d h).stands (λ x g. tree_plain p v gs us rs ds l x (omega (arith, g, sum_at (λ t. occurrences t x) us k d h)));
}
