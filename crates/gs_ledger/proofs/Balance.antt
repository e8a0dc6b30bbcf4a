-- What a step of a pool makes of the numbers in use, in trees and among the nodes that are set aside.
use Rattle.std.proofs.Common.{◌≡◌, ℕ, ◌+◌, ◌<◌, ◌≤◌, cond, Option, Some, None, is_some, refl, ap, ◌∙◌, inl, inr, arith}
use Rattle.gs_pool.specs.declared.nodes.Node.{Node}
use Rattle.gs_pool.specs.Pool.{Nodes, NodeMark, plain, aside, replaced, retired, is_aside, node_at, mark_at}
use Rattle.gs_tree.specs.Steps.{plain_mark, plain_node, plain_count, IsOlder, Step}
use Rattle.gs_tree.proofs.TreeLemmas.{plain_count_mark}
use Rattle.gs_ledger.specs.Marks.{used_count}
use Rattle.gs_ledger.proofs.Sums.{zero_or}
use Rattle.gs_ledger.proofs.Frames.{used_some, used_found}

-- 1 for a mark of a node that is set aside
abbrev pub aside_one : NodeMark → ℕ
aside_one m = cond {A = ℕ} (is_aside m) 1 0

-- a plain mark counts 1 and is none of a node that is set aside
aside_not_plain : (m : NodeMark) → plain_mark m + aside_one m ≤ 1
aside_not_plain plain = omega arith
aside_not_plain (aside death whole) = omega arith
aside_not_plain (retired death whole) = omega arith

-- what a step makes of numbers in use, in trees and as nodes that are set aside
module _ (since birth : ℕ) (p q : Nodes) (before after : ℕ → ℕ) (s : Step since birth p q before after) (plain_before : (x : ℕ) → 0 < before x → mark_at p x ≡ plain) (few : (x : ℕ) → before x ≤ used_count p x) (free_plain : (x : ℕ) → used_count p x ≡ 0 → mark_at p x ≡ plain) where
  -- a number that is marked in the same way
  pub same_mark : (x : ℕ) → mark_at q x ≡ mark_at p x → after x + used_count p x ≡ before x + used_count q x
  same_mark x e = by_mark (mark_at p x) refl
    where
      used_plain : (r : Nodes) → mark_at r x ≡ plain → plain_count r x ≡ used_count r x
      used_plain r m = by_node (node_at r x)
        where
          by_node : (o : Option Node) → plain_node o (mark_at r x) ≡ cond {A = ℕ} (is_some o) 1 0
          by_node None = refl
          by_node (Some n) = ap plain_mark m

      unused : plain_mark (mark_at p x) ≡ 0 → after x + used_count p x ≡ before x + used_count q x
      unused zero_mark = elim (zero_or (before x)) [
        | inl off ↦ elim (zero_or (used_count p x)) [
          | inl free ↦ absurd (omega (arith, ap plain_mark (free_plain x free)))
          | inr some ↦ let n = used_found p x some in
              let now = s.kept x n.0 n.1 (inl off) in
              omega (arith, s.balance x, off, used_some p x n.0 n.1, used_some q x n.0 now, plain_count_mark p x (ap is_some n.1), plain_count_mark q x (ap is_some now), ap plain_mark e)
        ]
        | inr some ↦ absurd (omega (arith, ap plain_mark (plain_before x some)))
      ]

      by_mark : (m : NodeMark) → mark_at p x ≡ m → after x + used_count p x ≡ before x + used_count q x
      by_mark plain m = omega (arith, s.balance x, used_plain p m, used_plain q (e ∙ m))
      by_mark (aside death whole) m = unused (ap plain_mark m)
      by_mark (retired death whole) m = unused (ap plain_mark m)

  -- a number that is set aside
  new_mark : (x : ℕ) → IsOlder since p x × (mark_at p x ≡ plain) × (mark_at q x ≡ replaced) → after x + 1 + used_count p x ≡ before x + used_count q x
  new_mark x h =
      let now = s.kept x h.0.0 h.0.1 (inr h.0.2) in
      omega (arith, s.balance x, used_some p x h.0.0 h.0.1, used_some q x h.0.0 now, plain_count_mark p x (ap is_some h.0.1), plain_count_mark q x (ap is_some now), ap plain_mark h.1, ap plain_mark h.2)

  -- of numbers in use, those that come to trees, and those that are set aside, were free or in trees
  pub step_balance : (x : ℕ) → after x + aside_one (mark_at q x) + used_count p x ≡ before x + aside_one (mark_at p x) + used_count q x
  step_balance x = elim (s.marks x) [
    | inl same ↦ omega (arith, same_mark x same, ap aside_one same)
    | inr new ↦ omega (arith, new_mark x new, ap aside_one new.1, ap aside_one new.2)
  ]
