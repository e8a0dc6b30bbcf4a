-- A node that goes: its number is set aside, or free again.
use Rattle.std.proofs.Common.{◌≡◌, ◌≢◌, ◌⊎◌, ℕ, zero, suc, ◌+◌, ◌-◌, ◌*◌, ◌<◌, ◌≤◌, ◌^◌, max, min, Bool, true, false, cond, List, [], ◌∷◌, ◌++◌, Option, Some, None, is_some, IsSome, refl, sym, ap, subst, ◌∙◌, inl, inr, arith}
use Rattle.std.proofs.lemmas.Bool.{cases_eq}
use Rattle.std.specs.Cmp.{IsTotalOrder}
use Rattle.gs_pool.specs.declared.nodes.Node.{Node}
use Rattle.gs_pool.specs.Pool.{Nodes, plain, replaced, node_at, mark_at, in_use, aside_count, room, Updates, Marks, KeepsMarks}
use Rattle.gs_tree.specs.Steps.{plain_count, plain_mark, IsOlder}
use Rattle.gs_tree.specs.Shrinking.{Discards}
use Rattle.gs_tree.proofs.TreeLemmas.{plain_count_none, plain_count_some, plain_count_same, plain_count_mark, one_cases, birth_same, old_birth, young_birth}
use Rattle.gs_tree.proofs.Counting.{same_marks}

-- a number goes on the list
pub drop_discards : (since : ℕ) (p q : Nodes) (id : ℕ) (n : Node) → node_at p id ≡ Some n → n.birth < since → mark_at p id ≡ plain → Marks p q id replaced → aside_count q ≡ aside_count p + 1 → Discards since p q id
drop_discards since p q id n found old was m more =
    let at : (x : ℕ) → node_at q x ≡ node_at p x = λ x. ap (λ s. Rattle.std.proofs.Common.get_or s x None) m.nodes in
    let free = ap (λ s. Rattle.std.specs.Prelude.count_by Rattle.std.specs.Prelude.is_none s) m.nodes in
    let used = ap (λ s. Rattle.std.specs.Prelude.count_by is_some s) m.nodes in
    record {
      step = λ birth. record {
        kept = λ x k e h. at x ∙ e;
        balance = λ x. elim (one_cases id x) [
          | inl here ↦ omega (arith, here.1, subst (λ i. plain_count p i ≡ 1) here.0 (plain_count_some p id n found was), subst (λ i. plain_count q i ≡ 0) here.0 (plain_count_mark q id (ap is_some (at id ∙ found)) ∙ ap plain_mark m.changed))
          | inr ne ↦ omega (arith, ne.1, plain_count_same p q x (at x) (m.others x (λ f. ne.0 (sym f))))
        ];
        older = λ x k e h. sym (at x) ∙ e;
        born = λ x k e. inl (sym (at x) ∙ e);
        marks = λ x. elim (cases_eq x id) [
          | inl here ↦ inr (subst (λ i. IsOlder since p i × (mark_at p i ≡ plain) × (mark_at q i ≡ replaced)) (sym here) ((n, found, old), was, m.changed))
          | inr ne ↦ inl (m.others x ne)
        ];
      };
      total = omega (arith, free, used, m.spare);
      copied = λ m e. let same = birth_same _ _ (sym found ∙ e) in omega (arith, used, old_birth since m.birth (omega arith));
      exact = omega (arith, used, more);
      few = omega (arith, used);
    }

-- a number is free again
pub free_discards : (since : ℕ) (p q : Nodes) (id : ℕ) (n : Node) → node_at p id ≡ Some n → since ≤ n.birth → mark_at p id ≡ plain → Updates p q id None → KeepsMarks p q → room q ≡ room p + 1 → in_use q + 1 ≡ in_use p → Discards since p q id
free_discards since p q id n found young was up marks rooms used = record {
  step = λ birth. record {
    kept = λ x m e h. elim (one_cases id x) [
      | inl here ↦ elim h [
        | inl none ↦ absurd (omega (arith, here.1))
        | inr old ↦ absurd (let f : node_at p id ≡ Some m = subst (λ y. node_at p y ≡ Some m) (sym here.0) e in let g = birth_same _ _ (sym found ∙ f) in omega arith)
      ]
      | inr ne ↦ up.others x (λ f. ne.0 (sym f)) ∙ e
    ];
    balance = λ x. elim (one_cases id x) [
      | inl here ↦ omega (arith, here.1, subst (λ y. plain_count p y ≡ 1) here.0 (plain_count_some p id n found was), subst (λ y. plain_count q y ≡ 0) here.0 (plain_count_none q id up.changed))
      | inr ne ↦ omega (arith, ne.1, plain_count_same p q x (up.others x (λ f. ne.0 (sym f))) (marks x))
    ];
    older = λ x m e h. elim (cases_eq x id) [
      | inl here ↦ absurd (let f : node_at q id ≡ Some m = subst (λ y. node_at q y ≡ Some m) here e in let bad : None ≡ Some m = sym up.changed ∙ f in cc)
      | inr ne ↦ sym (up.others x ne) ∙ e
    ];
    born = λ x m e. elim (cases_eq x id) [
      | inl here ↦ absurd (let f : node_at q id ≡ Some m = subst (λ y. node_at q y ≡ Some m) here e in let bad : None ≡ Some m = sym up.changed ∙ f in cc)
      | inr ne ↦ inl (sym (up.others x ne) ∙ e)
    ];
    marks = λ x. inl (marks x);
  };
  total = omega (arith, rooms, used);
  copied = λ m e. let same = birth_same _ _ (sym found ∙ e) in omega (arith, used, young_birth since m.birth (omega arith));
  exact = omega (arith, used, same_marks q.marks p.marks (λ x. marks x));
  few = omega arith;
}
