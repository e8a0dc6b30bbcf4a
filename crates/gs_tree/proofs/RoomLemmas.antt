-- The room that a change asks for is enough.
use Rattle.std.proofs.Common.{◌≡◌, ℕ, suc, ◌+◌, ◌-◌, ◌*◌, ◌<◌, ◌≤◌, ◌^◌, max, min, true, false, cond, ltb, Option, is_some, is_none, length, refl, ap, inl, inr, ◌∙◌, arith}
use Rattle.std.proofs.Math.Nat.{pow-succ'}
use Rattle.std.proofs.Math.Pow.{pow_mono}
use Rattle.std.proofs.lemmas.Bool.{cases_lt}
use Rattle.std.proofs.lemmas.List.Sums.{count_by-le-length}
use Rattle.gs_pool.specs.Pool.{Nodes, in_use, room}
use Rattle.gs_tree.specs.Tree.{Tree, leaf, fork, root_of, height, height_at, occurrences, Stands, older_birth, older_count}
use Rattle.gs_tree.specs.Steps.{plain_count}
use Rattle.gs_tree.specs.Joining.{copies}
use Rattle.gs_tree.specs.Shrinking.{remove_cost}
use Rattle.gs_tree.specs.Sets.{copied_most, union_room, remove_room}
use Rattle.gs_tree.proofs.TreeLemmas.{plain_count_most, young_birth}
use Rattle.gs_tree.proofs.Costs.{copies_some, copies_zero, copies_most}
use Rattle.gs_tree.proofs.Counting.{tree_used}
use Rattle.gs_tree.proofs.Heights.{size}
use Rattle.gs_tree.proofs.Rotations.{height_in}

-- a tree of this height has no more nodes
size_height : (t : Tree) → size t + 1 ≤ 2 ^ height t
size_height leaf = omega arith
size_height (fork id birth l k r) =
    let a : 2 ^ height l ≤ 2 ^ max (height l) (height r) = pow_mono (omega arith) in
    let b : 2 ^ height r ≤ 2 ^ max (height l) (height r) = pow_mono (omega arith) in
    let e : max (height l) (height r) + 1 ≡ suc (max (height l) (height r)) = omega arith in
    omega (arith, size_height l, size_height r, a, b, ap (λ n. 2 ^ n) e, pow-succ' 2 (max (height l) (height r)))

birth_most : (since birth : ℕ) → older_birth since birth ≤ 1
birth_most since birth = elim (ltb birth since) as (λ b. cond b 1 0 ≤ 1) [ true ↦ omega arith | false ↦ omega arith ]

-- no more nodes are older than there are
older_size : (since : ℕ) (t : Tree) → older_count since t ≤ size t
older_size since leaf = omega arith
older_size since (fork id birth l k r) = omega (arith, birth_most since birth, older_size since l, older_size since r)

-- none is older than the first commit
older_none : (since : ℕ) (t : Tree) → since ≡ 0 → older_count since t ≡ 0
older_none since leaf e = refl
older_none since (fork id birth l k r) e = omega (arith, young_birth since birth (omega arith), older_none since l e, older_none since r e)

-- what is copied at most is enough, where no more than `most` are copied
enough : (since : ℕ) (p : Nodes) (t : Tree) (most : ℕ) → Stands p t → ((x : ℕ) → occurrences t x ≤ plain_count p x) → min (copies since most) (older_count since t) ≤ copied_most since most (height t) (in_use p)
enough since p t most s apart = elim (cases_lt 0 since) [
  | inr none ↦ omega (arith, older_none since t (omega arith))
  | inl some ↦ omega (arith, copies_some since most some, copies_some since (min most (min (in_use p) (2 ^ height t - 1))) some, older_size since t, size_height t, tree_used p t s (λ x. omega (arith, apart x, plain_count_most p x)))
]

-- no more is copied at most than is asked for
pub copied_within : (since most h used : ℕ) → copied_most since most h used ≤ most
copied_within since most h used = omega (arith, copies_most since (min most (min used (2 ^ h - 1))))

-- the room for a union is enough
pub union_enough : (since : ℕ) (p : Nodes) (t : Tree) (n : ℕ) → Stands p t → ((x : ℕ) → occurrences t x ≤ plain_count p x) → n + min (n * copies since (4 * height t) + copies since 2) (older_count since t) ≤ union_room since (height t) n (in_use p)
union_enough since p t n s apart = omega (arith, enough since p t (n * (4 * height t) + 2) s apart, level since n (4 * height t))
  where
    level : (since n h : ℕ) → n * copies since h + copies since 2 ≤ copies since (n * h + 2)
    level since n h = elim (cases_lt 0 since) [
      | inr none ↦ omega (arith, copies_zero since 2 (omega arith), ap (λ k. n * k) (copies_zero since h (omega arith)))
      | inl some ↦ omega (arith, copies_some since 2 some, copies_some since (n * h + 2) some, ap (λ k. n * k) (copies_some since h some))
    ]

-- the room for a removal is enough
pub remove_enough : (since : ℕ) (p : Nodes) (t : Tree) → Stands p t → ((x : ℕ) → occurrences t x ≤ plain_count p x) → min (remove_cost since (height t)) (older_count since t) ≤ remove_room since (height t) (in_use p)
remove_enough since p t s apart = enough since p t (3 * height t) s apart

-- a pool has no more nodes in use than numbers
pub few_used : (p q : Nodes) → q.nodes ≡ p.nodes → length q.nodes < 2 ^ 32 → in_use p < 2 ^ 32
few_used p q same small = omega (arith, count_by-le-length is_some p.nodes, ap length same)

-- nor more room
pub few_rooms : (p : Nodes) → length p.nodes + p.spare ≤ 2 ^ 32 → room p ≤ 2 ^ 32
few_rooms p small = omega (arith, count_by-le-length is_none p.nodes)

module _ (since : ℕ) (p : Nodes) (root : Option ℕ) (t : Tree) (root_is : root ≡ root_of t) (stands : Stands p t) (apart : (x : ℕ) → occurrences t x ≤ plain_count p x) (few : in_use p < 2 ^ 32) (most wanted copied rooms : ℕ) (near : min most (2 ^ 32) ≡ min wanted (2 ^ 32)) (is : copied ≡ copied_most since most (height_at p root) (in_use p)) where
  same : copied ≡ copied_most since wanted (height t) (in_use p)
  same = is ∙ ap (λ h. copied_most since most h (in_use p)) (height_in p root t root_is stands) ∙ ap (copies since) (omega (arith, near))

  -- the room that was made is enough for a union
  pub union_made : (n : ℕ) → wanted ≡ n * (4 * height_at p root) + 2 → n + copied ≤ rooms → n + min (n * copies since (4 * height t) + copies since 2) (older_count since t) ≤ rooms
  union_made n e h = omega (arith, union_enough since p t n stands apart, same, ap (λ k. copied_most since k (height t) (in_use p)) (e ∙ ap (λ k. n * (4 * k) + 2) (height_in p root t root_is stands)))

  -- it is enough for a removal
  pub remove_made : wanted ≡ 3 * height_at p root → copied ≤ rooms → min (remove_cost since (height t)) (older_count since t) ≤ rooms
  remove_made e h = omega (arith, remove_enough since p t stands apart, same, ap (λ k. copied_most since k (height t) (in_use p)) (e ∙ ap (λ k. 3 * k) (height_in p root t root_is stands)))
