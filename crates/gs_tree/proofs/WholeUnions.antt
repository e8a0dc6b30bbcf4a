-- The whole of a union, and what it costs.
use Rattle.std.proofs.Common.{◌≡◌, ◌≢◌, ◌⊎◌, ℕ, zero, suc, ◌+◌, ◌-◌, ◌*◌, ◌<◌, ◌≤◌, ◌^◌, max, min, true, false, cond, ltb, List, [], ◌∷◌, ◌++◌, length, Option, Some, None, is_some, IsSome, refl, sym, ap, subst, ◌∙◌, inl, inr, arith, length-append}
use Rattle.std.proofs.Math.Nat.{mul-add}
use Rattle.std.proofs.lemmas.Nat.{mul-le}
use Rattle.std.specs.declared.cmp.Ordering.{Ordering}
use Rattle.std.specs.Cmp.{IsTotalOrder}
use Rattle.gs_pool.specs.declared.nodes.Key.{Key}
use Rattle.gs_pool.specs.Pool.{Nodes, plain, is_aside, node_at, mark_at, in_use, room}
use Rattle.gs_tree.specs.Keys.{IsRising}
use Rattle.gs_tree.specs.Tree.{Tree, root_of, height, keys, occurrences, tree_at, older_count}
use Rattle.gs_tree.specs.Sets.{Unites, IsSet, IsCheap}
use Rattle.gs_tree.specs.Steps.{plain_count, Step}
use Rattle.gs_tree.specs.Joining.{copies}
use Rattle.gs_tree.specs.Merging.{CanMerge, Merges}
use Rattle.gs_tree.proofs.Counting.{low_size, same_marks}
use Rattle.gs_tree.proofs.TreeLemmas.{Stands-same, tree_at-is, plain_count_same}
use Rattle.gs_tree.proofs.Rotations.{tree_in}
use Rattle.gs_tree.proofs.Costs.{copies_most}
use Rattle.gs_tree.proofs.Heights.{height_digits, size-keys}
use Rattle.gs_tree.proofs.Merging.{rising_merge, length_merge}

-- the whole of a union
pub union_can : (cmp : Key → Key → Ordering) (since : ℕ) (p q : Nodes) (root : Option ℕ) (t : Tree) (run : List Key) → IsSet cmp p root t → IsRising cmp run → q.nodes ≡ p.nodes → q.marks ≡ p.marks → length q.nodes < 2 ^ 32 → length run < 2 ^ 64 → length run + min (length run * copies since (4 * height t) + copies since 2) (older_count since t) ≤ room q → (tree_at q root ≡ t) × CanMerge cmp since q root (tree_at q root) run
union_can cmp since p q root t run s rising same drop small short enough =
    let alike : (x : ℕ) → plain_count q x ≡ plain_count p x = λ x. plain_count_same p q x (ap (λ xs. Rattle.std.proofs.Common.get_or xs x None) same) (ap (λ ms. Rattle.std.proofs.Common.get_or ms x plain) drop) in
    let stands = Stands-same p q t (λ x n h e. ap (λ xs. Rattle.std.proofs.Common.get_or xs x None) same ∙ e) s.stands in
    let is = tree_in q root t s.root_is stands in (
      is,
      subst (λ u. CanMerge cmp since q root u run) (sym is) (record {
        set = record { root_is = s.root_is; stands = stands; balanced = s.balanced; rising = s.rising; apart = λ x. omega (arith, s.apart x, alike x) };
        run_rising = rising;
        small = omega (arith, size-keys t, low_size q t stands (λ x. omega (arith, s.apart x, alike x)) small);
        has_room = enough;
      }),
    )

-- the same union, seen from the pool before room was made
pub united : (cmp : Key → Key → Ordering) (total : IsTotalOrder cmp) (since birth : ℕ) (p0 p q : Nodes) (root to : Option ℕ) (added : ℕ) (t u : Tree) (run : List Key) (new : Tree) → IsSet cmp p0 root t → p.nodes ≡ p0.nodes → p.marks ≡ p0.marks → length p.nodes < 2 ^ 32 → u ≡ t → Merges cmp since birth p q to added u run new → Unites cmp since birth p0 q to added t run new
united cmp total since birth p0 p q root to added t u run new s same drop small e0 i0 =
    let i : Merges cmp since birth p q to added t run new = subst (λ v. Merges cmp since birth p q to added v run new) e0 i0 in
    let at : (x : ℕ) → node_at p0 x ≡ node_at p x = λ x. ap (λ xs. Rattle.std.proofs.Common.get_or xs x None) (sym same) in
    let mark : (x : ℕ) → mark_at p0 x ≡ mark_at p x = λ x. ap (λ ms. Rattle.std.proofs.Common.get_or ms x plain) (sym drop) in
    let alike : (x : ℕ) → plain_count p0 x ≡ plain_count p x = λ x. plain_count_same p p0 x (at x) (mark x) in
    let uses : in_use p ≡ in_use p0 = ap (λ xs. Rattle.std.specs.Prelude.count_by is_some xs) same in
    let step : Step since birth p0 q (occurrences t) (occurrences new) = record {
      kept = λ x n e h. i.step.kept x n (sym (at x) ∙ e) h;
      balance = λ x. omega (arith, i.step.balance x, alike x);
      older = λ x n e h. at x ∙ i.step.older x n e h;
      born = λ x n e. elim (i.step.born x n e) [ inl was ↦ inl (at x ∙ was) | inr new ↦ inr new ];
      marks = λ x. elim (i.step.marks x) [ inl kept ↦ inl (kept ∙ sym (mark x)) | inr old ↦ inr ((old.0.0, at x ∙ old.0.1, old.0.2), mark x ∙ old.1, old.2) ];
    } in
    record {
      set = record {
        root_is = i.root;
        stands = i.stands;
        balanced = i.balanced;
        rising = subst (IsRising cmp) (sym i.keys_are) (rising_merge cmp total run (keys t) s.rising);
        apart = λ x. omega (arith, i.step.balance x, alike x, s.apart x);
      };
      keys_are = i.keys_are;
      counted = i.counted;
      still = λ z. let f = i.still z in (i.root ∙ ap root_of f.1, ap (λ (n : Nodes). n.nodes) f.0 ∙ same, ap (λ (n : Nodes). n.marks) f.0 ∙ drop);
      births = i.births;
      step = step;
      others = λ other there away. let stays = Stands-same p0 q other (λ x n h e. step.kept x n e (away x n h e)) there in (stays, tree_at-is q other stays ∙ sym (tree_at-is p0 other there));
      copied = omega (arith, i.copied, uses);
      exact = omega (arith, i.exact, uses, ap (Rattle.std.specs.Prelude.count_by is_aside) drop);
      in_place = λ z. omega (arith, i.exact, uses, same_marks q.marks p.marks (λ x. elim (i.step.marks x) [ inl kept ↦ kept | inr old ↦ absurd (omega (arith, old.0.2)) ]));
      cost = omega (arith, i.few, uses);
      digits = λ d le. omega (arith, i.few, uses, per_key (height t) (8 * d) (omega (arith, height_digits t d s.balanced (omega (arith, size-keys t)))), mul-add added (8 * d) 1);
      few = omega (arith, i.few, uses, per_key (height t) 256 (omega (arith, height_digits t 32 s.balanced (omega (arith, low_size p0 t s.stands s.apart (omega (arith, ap length same, small)))))), mul-add added 256 1);
    }
  where
    zero_or : (n : ℕ) → (n ≡ 0) ⊎ (0 < n)
    zero_or zero = inl refl
    zero_or (suc n) = inr (omega arith)

    per_key : (h k : ℕ) → 4 * h ≤ k → added * copies since (4 * h) ≤ added * k
    per_key h k le = mul-le added (copies since (4 * h)) added k (omega arith) (omega (arith, copies_most since (4 * h)))

-- the union with one key costs no more than one key
pub one_cheap : (cmp : Key → Key → Ordering) → IsTotalOrder cmp → (since birth : ℕ) (p q : Nodes) (result : Option ℕ) (added : ℕ) (t : Tree) (key : Key) (new : Tree) → Unites cmp since birth p q result added t (key ∷ []) new → IsCheap (length (keys t)) p q
one_cheap cmp total since birth p q result added t key new u d small = omega (arith, u.digits d small, mul-le added (8 * d + 1) 1 (8 * d + 1) one_more (omega arith))
  where
    one_more : added ≤ 1
    one_more = omega (arith, u.counted, ap length u.keys_are, length_merge cmp total (key ∷ []) (keys t))
