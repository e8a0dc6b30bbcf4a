-- Freeing the upper part of a tree.
use Rattle.std.proofs.Common.{◌≡◌, ◌≢◌, ◌⊎◌, ◌↔◌, IsTrue, Bool, false, true≢false, ℕ, zero, suc, ◌+◌, ◌<◌, ◌≤◌, Option, Some, None, is_some, IsSome, refl, sym, ap, subst, ◌∙◌, inl, inr, arith}
use Rattle.std.proofs.lemmas.Bool.{cases_eq, cases_lt}
use Rattle.gs_pool.specs.declared.nodes.Node.{Node}
use Rattle.gs_pool.specs.Pool.{Nodes, plain, is_aside, is_retired, node_at, mark_at, Updates, KeepsMarks}
use Rattle.gs_tree.specs.Tree.{Tree, leaf, fork, root_of, height, occurrences, Stands, height_at, tree_at, BirthAtMost, Descends}
use Rattle.gs_tree.specs.Steps.{plain_count, one}
use Rattle.gs_tree.proofs.TreeLemmas.{Stands-same, one_same, one_cases, born_at, birth_same, plain_count_none, plain_count_same, plain_count_most, plain_found}
use Rattle.gs_tree.proofs.Rotations.{height_in, tree_in}
use Rattle.gs_tree.proofs.Levels.{Opened, opened}
use Rattle.gs_changes.specs.Endings.{IsDraft, IsDraftAt, FreesYoung, FreesTree, KeepsAllMarks}
use Rattle.gs_changes.proofs.Counts.{count_same}

zero_or : (n : ℕ) → (n ≡ 0) ⊎ (0 < n)
zero_or zero = inl refl
zero_or (suc n) = inr (omega arith)

-- marks that stay are as many as before
pub all_marks : (p q : Nodes) → KeepsMarks p q → KeepsAllMarks p q
all_marks p q same = record {
  marks = same;
  aside = count_same is_aside plain refl q.marks p.marks (λ x. ap is_aside (same x));
  retired = count_same is_retired plain refl q.marks p.marks (λ x. ap is_retired (same x));
}

-- what is not older is born at the commit or later
pub not_older : (since birth : ℕ) (b : Bool) → (IsTrue b ↔ (birth < since)) → b ≡ false → since ≤ birth
not_older since birth b d h = elim (cases_lt birth since) [
  | inl old ↦ absurd (true≢false (sym (d.1 old) ∙ h))
  | inr young ↦ young
]

-- a root names a node in use
pub root_used : (p : Nodes) (root : Option ℕ) (id : ℕ) → IsDraftAt p root → root ≡ Some id → IsSome (node_at p id)
root_used p root id c is = by_tree (tree_at p root) c.root_is c.stands
  where
    by_tree : (t : Tree) → root ≡ root_of t → Stands p t → IsSome (node_at p id)
    by_tree leaf e s = absurd (cc)
    by_tree (fork i birth l k r) e s = let same : i ≡ id = cc in subst (λ y. IsSome (node_at p y)) same (ap is_some s.0)

module _ (since : ℕ) (p : Nodes) (root : Option ℕ) (c : IsDraftAt p root) (id : ℕ) (node : Node) (is : root ≡ Some id) (found : node_at p id ≡ Some node) where
  o : Opened p id node (tree_at p root)
  o = opened p root id node (tree_at p root) c.root_is c.stands is found

  falls_in : Descends (fork id o.birth o.l node.key o.r)
  falls_in = subst Descends o.is c.descends

  parts : (x : ℕ) → occurrences (tree_at p root) x ≡ one id x + occurrences o.l x + occurrences o.r x
  parts x = ap (λ u. occurrences u x) o.is

  apart_in : (x : ℕ) → one id x + occurrences o.l x + occurrences o.r x ≤ plain_count p x
  apart_in x = omega (arith, c.apart x, parts x)

  -- below an older node all is older
  pub all_older : node.birth < since → FreesYoung since p p (tree_at p root)
  all_older old = record {
    gone = λ x n h f g. absurd (let b = born_at p node.birth (tree_at p root) x n c.stands c.descends (subst (BirthAtMost node.birth) (sym o.is) (omega (arith, o.birth_is))) h f in omega arith);
    rest = λ x h. refl;
  }

  left_tree : tree_at p node.left ≡ o.l
  left_tree = tree_in p node.left o.l o.left_is o.sl

  pub left_can : IsDraftAt p node.left
  left_can = subst (IsDraft p node.left) (sym left_tree) (record { root_is = o.left_is; stands = o.sl; descends = falls_in.2; apart = λ x. omega (arith, apart_in x) })

  pub left_falls : height_at p node.left < height_at p root
  left_falls = omega (arith, height_in p node.left o.l o.left_is o.sl, height_in p root (tree_at p root) c.root_is c.stands, ap height o.is)

  module _ (p1 : Nodes) (f1 : FreesYoung since p p1 (tree_at p node.left)) (m1 : KeepsAllMarks p p1) where
    kept1 : (x : ℕ) → occurrences o.l x ≡ 0 → node_at p1 x ≡ node_at p x
    kept1 x off = f1.rest x (inl (ap (λ u. occurrences u x) left_tree ∙ off))

    once : (x : ℕ) → one id x + occurrences o.l x + occurrences o.r x ≤ 1
    once x = omega (arith, apart_in x, plain_count_most p x)

    stands_r : Stands p1 o.r
    stands_r = Stands-same p p1 o.r (λ x n h e. kept1 x (omega (arith, once x)) ∙ e) o.sr

    right_tree : tree_at p1 node.right ≡ o.r
    right_tree = tree_in p1 node.right o.r o.right_is stands_r

    apart_r : (x : ℕ) → occurrences o.r x ≤ plain_count p1 x
    apart_r x = elim (zero_or (occurrences o.r x)) [
      | inl none ↦ omega arith
      | inr some ↦ omega (arith, apart_in x, plain_count_same p p1 x (kept1 x (omega (arith, once x))) (m1.marks x))
    ]

    pub right_can : IsDraftAt p1 node.right
    right_can = subst (IsDraft p1 node.right) (sym right_tree) (record { root_is = o.right_is; stands = stands_r; descends = falls_in.3; apart = apart_r })

    pub right_falls : height_at p1 node.right < height_at p root
    right_falls = omega (arith, height_in p1 node.right o.r o.right_is stands_r, height_in p root (tree_at p root) c.root_is c.stands, ap height o.is)

    module _ (p2 : Nodes) (f2 : FreesYoung since p1 p2 (tree_at p1 node.right)) (m2 : KeepsAllMarks p1 p2) where
      kept2 : (x : ℕ) → occurrences o.r x ≡ 0 → node_at p2 x ≡ node_at p1 x
      kept2 x off = f2.rest x (inl (ap (λ u. occurrences u x) right_tree ∙ off))

      pub top_used : IsSome (node_at p2 id)
      top_used = ap is_some (kept2 id (omega (arith, once id, one_same id)) ∙ kept1 id (omega (arith, once id, one_same id)) ∙ found)

      pub top_plain : mark_at p2 id ≡ plain
      top_plain = m2.marks id ∙ m1.marks id ∙ (plain_found p id (omega (arith, apart_in id, one_same id))).1

      pub all_freed : (q : Nodes) → since ≤ node.birth → Updates p2 q id None → FreesYoung since p q (tree_at p root)
      all_freed q young up = record {
        gone = λ x n h e g. elim (cases_eq x id) [
          | inl here ↦ subst (λ y. node_at q y ≡ None) (sym here) up.changed
          | inr ne ↦ up.others x ne ∙ elim (zero_or (occurrences o.l x)) [
            | inl off ↦ f2.gone x n (omega (arith, ap (λ u. occurrences u x) right_tree, parts x, one_off x ne)) (kept1 x off ∙ e) g
            | inr some ↦ kept2 x (omega (arith, once x)) ∙ f1.gone x n (omega (arith, ap (λ u. occurrences u x) left_tree)) e g
          ]
        ];
        rest = λ x h. elim (cases_eq x id) [
          | inl here ↦ absurd (elim h [
            | inl off ↦ omega (arith, parts x, ap (λ i. one i x) (sym here), one_same x)
            | inr old ↦ let f : node_at p id ≡ Some old.0 = subst (λ y. node_at p y ≡ Some old.0) here old.1 in omega (arith, old.2, birth_same _ _ (sym found ∙ f))
          ])
          | inr ne ↦ up.others x ne ∙ elim h [
            | inl off ↦ kept2 x (omega (arith, parts x)) ∙ kept1 x (omega (arith, parts x))
            | inr old ↦ let a = f1.rest x (inr old) in f2.rest x (inr (old.0, a ∙ old.1, old.2)) ∙ a
          ]
        ];
      }
        where
          one_off : (x : ℕ) → x ≢ id → one id x ≡ 0
          one_off x ne = elim (one_cases id x) [ inl here ↦ absurd (ne (sym here.0)) | inr other ↦ other.1 ]

      -- no mark changes on the way
      pub all_kept : (q : Nodes) → KeepsMarks p2 q → KeepsAllMarks p q
      all_kept q same = all_marks p q (λ x. same x ∙ m2.marks x ∙ m1.marks x)

-- where all nodes of a tree are freed, and no other, that is a step to no tree
pub tree_freed : (p q : Nodes) (t : Tree) → ((x : ℕ) → occurrences t x ≤ plain_count p x) → FreesYoung 0 p q t → KeepsAllMarks p q → FreesTree p q t
tree_freed p q t apart f m = record {
  step = λ birth. record {
    kept = λ x n e h. elim h [ inl off ↦ f.rest x (inl off) ∙ e | inr old ↦ absurd (omega (arith, old)) ];
    balance = λ x. elim (zero_or (occurrences t x)) [
      | inl none ↦ omega (arith, none, plain_count_same p q x (f.rest x (inl none)) (m.marks x))
      | inr some ↦ omega (arith, some, apart x, plain_count_most p x, plain_count_none q x (freed x some (node_at p x) refl (plain_found p x (omega (arith, some, apart x))).0))
    ];
    older = λ x n e old. absurd (omega (arith, old));
    born = λ x n e. elim (zero_or (occurrences t x)) [
      | inl none ↦ inl (sym (f.rest x (inl none)) ∙ e)
      | inr some ↦ absurd (let gone = freed x some (node_at p x) refl (plain_found p x (omega (arith, some, apart x))).0 in let bad : None ≡ Some n = sym gone ∙ e in cc)
    ];
    marks = λ x. inl (m.marks x);
  };
  marks = m;
}
  where
    freed : (x : ℕ) → 0 < occurrences t x → (o : Option Node) → node_at p x ≡ o → IsSome o → node_at q x ≡ None
    freed x some None e there = absurd (true≢false (sym there))
    freed x some (Some n) e there = f.gone x n some e (omega arith)
