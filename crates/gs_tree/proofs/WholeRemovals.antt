-- The whole of a removal, and what it costs.
use Rattle.std.proofs.Common.{◌≡◌, ◌≢◌, ◌⊎◌, ℕ, zero, suc, ◌+◌, ◌-◌, ◌*◌, ◌<◌, ◌≤◌, ◌^◌, max, min, Bool, true, false, cond, List, [], ◌∷◌, ◌++◌, Option, Some, None, is_some, IsSome, refl, sym, ap, subst, ◌∙◌, inl, inr, arith}
use Rattle.std.specs.declared.cmp.Ordering.{Ordering}
use Rattle.std.specs.Cmp.{IsTotalOrder}
use Rattle.gs_tree.specs.Keys.{IsRising, HasKey, remove_key}
use Rattle.gs_tree.proofs.RemovalOrder.{rising_remove, length_remove}
use Rattle.gs_tree.proofs.Heights.{height_digits, size-keys}
use Rattle.gs_pool.specs.declared.nodes.Key.{Key}
use Rattle.gs_pool.specs.Pool.{Nodes, plain, is_aside, node_at, mark_at, in_use, room}
use Rattle.gs_tree.specs.Tree.{Tree, height, keys, occurrences, tree_at, older_count}
use Rattle.gs_tree.specs.Steps.{plain_count, Step}
use Rattle.gs_tree.specs.Shrinking.{CanShrink, Shrinks, remove_cost}
use Rattle.gs_tree.specs.Sets.{IsSet, RemovesOneKey}
use Rattle.gs_tree.proofs.TreeLemmas.{Stands-same, plain_count_same, tree_at-is}
use Rattle.gs_tree.proofs.Rotations.{tree_in}
use Rattle.gs_tree.proofs.Costs.{copies_most}
use Rattle.gs_tree.proofs.Counting.{same_marks}

-- the whole of a removal
pub remove_can : (cmp : Key → Key → Ordering) (since : ℕ) (p q : Nodes) (root : Option ℕ) (t : Tree) → IsSet cmp p root t → q.nodes ≡ p.nodes → q.marks ≡ p.marks → height t < 2 ^ 13 → min (remove_cost since (height t)) (older_count since t) ≤ room q → (tree_at q root ≡ t) × CanShrink since q root (tree_at q root)
remove_can cmp since p q root t s same drop fits enough =
    let alike : (x : ℕ) → plain_count q x ≡ plain_count p x = λ x. plain_count_same p q x (ap (λ xs. Rattle.std.proofs.Common.get_or xs x None) same) (ap (λ ms. Rattle.std.proofs.Common.get_or ms x plain) drop) in
    let stands = Stands-same p q t (λ x n h e. ap (λ xs. Rattle.std.proofs.Common.get_or xs x None) same ∙ e) s.stands in
    let is = tree_in q root t s.root_is stands in
    (is, subst (CanShrink since q root) (sym is) (record { root_is = s.root_is; stands = stands; balanced = s.balanced; apart = λ x. omega (arith, s.apart x, alike x); fits = fits; has_room = enough }))

-- the same removal, seen from the pool before room was made
pub removed : (cmp : Key → Key → Ordering) (total : IsTotalOrder cmp) (since birth : ℕ) (p0 p q : Nodes) (root to : Option ℕ) (key : Key) (t u new : Tree) → IsSet cmp p0 root t → p.nodes ≡ p0.nodes → p.marks ≡ p0.marks → height t ≤ 64 → u ≡ t → Shrinks since birth p q to u new → HasKey cmp key (keys t) → keys new ≡ remove_key cmp key (keys u) → RemovesOneKey cmp since birth p0 q to key t new
removed cmp total since birth p0 p q root to key t u new s same drop low e0 i0 has k0 =
    let i : Shrinks since birth p q to t new = subst (λ v. Shrinks since birth p q to v new) e0 i0 in
    let k : keys new ≡ remove_key cmp key (keys t) = k0 ∙ ap (λ v. remove_key cmp key (keys v)) e0 in
    let at : (x : ℕ) → node_at p0 x ≡ node_at p x = λ x. ap (λ xs. Rattle.std.proofs.Common.get_or xs x None) (sym same) in
    let mark : (x : ℕ) → mark_at p0 x ≡ mark_at p x = λ x. ap (λ ms. Rattle.std.proofs.Common.get_or ms x plain) (sym drop) in
    let alike : (x : ℕ) → plain_count p0 x ≡ plain_count p x = λ x. plain_count_same p p0 x (at x) (mark x) in
    let uses : in_use p ≡ in_use p0 = ap (λ xs. Rattle.std.specs.Prelude.count_by is_some xs) same in
    let step : Step since birth p0 q (occurrences t) (occurrences new) = record {
      kept = λ x n e h. i.step.kept x n (sym (at x) ∙ e) h;
      balance = λ x. omega (arith, i.step.balance x, alike x);
      older = λ x n e h. at x ∙ i.step.older x n e h;
      born = λ x n e. elim (i.step.born x n e) [ inl was ↦ inl (at x ∙ was) | inr new ↦ inr new ];
      marks = λ x. elim (i.step.marks x) [ inl kept ↦ inl (kept ∙ sym (mark x)) | inr old ↦ inr ((old.0.0, at x ∙ old.0.1, old.0.2), mark x ∙ old.1, old.2) ];
    } in
    record {
      set = record {
        root_is = i.root;
        stands = i.stands;
        balanced = i.balanced;
        rising = subst (IsRising cmp) (sym k) (rising_remove cmp total key (keys t) s.rising);
        apart = λ x. omega (arith, i.step.balance x, alike x, s.apart x);
      };
      keys_are = k;
      counted = omega (arith, ap Rattle.std.proofs.Common.length k, length_remove cmp total key (keys t) s.rising has);
      births = i.births;
      step = step;
      others = λ other there away. let stays = Stands-same p0 q other (λ x n h e. step.kept x n e (away x n h e)) there in (stays, tree_at-is q other stays ∙ sym (tree_at-is p0 other there));
      copied = omega (arith, i.copied, uses);
      exact = omega (arith, i.exact, uses, ap (Rattle.std.specs.Prelude.count_by is_aside) drop);
      in_place = λ z. omega (arith, i.exact, uses, same_marks q.marks p.marks (λ x. elim (i.step.marks x) [ inl kept ↦ kept | inr old ↦ absurd (omega (arith, old.0.2)) ]));
      cost = omega (arith, i.few, uses);
      digits = λ d small. omega (arith, i.few, uses, copies_most since (3 * height t), height_digits t d s.balanced (omega (arith, size-keys t)));
      few = omega (arith, i.few, uses, copies_most since (3 * height t), low);
    }
