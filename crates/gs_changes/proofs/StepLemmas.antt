-- What a step says of marks and of other trees.
use Rattle.std.proofs.Common.{◌≡◌, ℕ, ◌≤◌, Some, is_some, refl, sym, ap, ◌∙◌, inl, inr, arith}
use Rattle.gs_pool.specs.Pool.{Nodes, plain, is_retired, node_at, retired_count}
use Rattle.gs_tree.specs.Tree.{Tree, occurrences}
use Rattle.gs_tree.specs.Steps.{plain_count, plain_mark, Step}
use Rattle.gs_tree.specs.Sets.{KeepsOthers}
use Rattle.gs_tree.proofs.TreeLemmas.{Stands-same, tree_at-is, plain_count_mark}
use Rattle.gs_changes.specs.Changes.{MarkStaysOrGoes}
use Rattle.gs_changes.proofs.Counts.{count_same}

module _ (birth : ℕ) (p q : Nodes) (t new : Tree) (s : Step birth birth p q (occurrences t) (occurrences new)) where
  -- what is set aside was in the tree, and is not in the new one, whose nodes are plain
  pub step_aside : ((x : ℕ) → occurrences new x ≤ plain_count q x) → (x : ℕ) → MarkStaysOrGoes birth p q t new x
  step_aside apart x = elim (s.marks x) [
    | inl same ↦ inl same
    | inr gone ↦
        let there : node_at q x ≡ Some gone.0.0 = s.kept x gone.0.0 gone.0.1 (inr gone.0.2) in
        let was : plain_count p x ≡ 1 = plain_count_mark p x (ap is_some gone.0.1) ∙ ap plain_mark gone.1 in
        let now : plain_count q x ≡ 0 = plain_count_mark q x (ap is_some there) ∙ ap plain_mark gone.2 in
        inr (record {
          older = gone.0;
          was_plain = gone.1;
          now = gone.2;
          before = omega (arith, s.balance x, apart x);
          after = omega (arith, apart x);
        })
  ]

  -- a tree apart from the one that changes, or older, is not touched
  pub step_others : KeepsOthers birth p q t
  step_others other there away =
      let stays = Stands-same p q other (λ x n h e. s.kept x n e (away x n h e)) there in
      (stays, tree_at-is q other stays ∙ sym (tree_at-is p other there))

  -- what is retired stays so, and nothing more is
  pub step_retired : retired_count q ≡ retired_count p
  step_retired = count_same is_retired plain refl q.marks p.marks (λ x. elim (s.marks x) [
    | inl same ↦ ap is_retired same
    | inr gone ↦ ap is_retired gone.2 ∙ sym (ap is_retired gone.1)
  ])
