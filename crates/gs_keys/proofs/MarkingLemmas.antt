-- Marking all nodes of a pool, one number after the other: what is left, what is done, and the end.
use Rattle.std.proofs.Common.{◌≡◌, ℕ, zero, suc, ◌+◌, ◌-◌, ◌<◌, ◌≤◌, Bool, true, false, cond, List, [], ◌∷◌, length, get_or, drop, count_by, Option, Some, None, is_some, ap, sym, ◌∙◌, inl, inr, arith}
use Rattle.std.proofs.lemmas.Bool.{cases_lt}
use Rattle.std.proofs.lemmas.List.{length-drop, get_or-drop}
use Rattle.std.proofs.lemmas.List.Sums.{count_by-le-length, sum_by-drop_more, sum_by-cons}
use Rattle.gs_pool.specs.declared.nodes.Node.{Node}
use Rattle.gs_pool.specs.Pool.{Nodes, node_at}
use Rattle.gs_keys.specs.Marks.{KeepsMarked, IsMarkedNode, MarksOnlyNodes}
use Rattle.gs_keys.proofs.KeyMarkLemmas.{kept_both, key_still}

-- how many nodes are in use from a number on
abbrev pub used_from : Nodes → ℕ → ℕ
used_from p id = count_by is_some (drop id p.nodes)

-- where some are, the number is a place of the pool
some_within : (p : Nodes) (id : ℕ) → 0 < used_from p id → id < length p.nodes
some_within p id h = omega (arith, count_by-le-length is_some (drop id p.nodes), length-drop id p.nodes)

-- what is left, and what is left after one number more
step_from : (p : Nodes) (id : ℕ) → id < length p.nodes → used_from p id ≡ cond (is_some (node_at p id)) 1 0 + used_from p (id + 1)
step_from p id h = sum_by-drop_more (λ x. cond (is_some x) 1 0) p.nodes id None h

-- that number is in use
used_step : (p : Nodes) (id : ℕ) → id < length p.nodes → is_some (node_at p id) ≡ true → used_from p id ≡ used_from p (id + 1) + 1
used_step p id h e = omega (arith, step_from p id h, ap {B = ℕ} (λ b. cond b 1 0) e)

-- or it is free
free_step : (p : Nodes) (id : ℕ) → id < length p.nodes → is_some (node_at p id) ≡ false → used_from p id ≡ used_from p (id + 1)
free_step p id h e = omega (arith, step_from p id h, ap {B = ℕ} (λ b. cond b 1 0) e)

-- a list in which none is counted has none
none_counted : (xs : List (Option Node)) (j : ℕ) (node : Node) → count_by is_some xs ≡ 0 → get_or xs j None ≡ Some node → ⊥
none_counted [] j node e h = absurd (cc)
none_counted (None ∷ xs) zero node e h = absurd (cc)
none_counted (None ∷ xs) (suc j) node e h = none_counted xs j node (omega (arith, e, sum_by-cons (λ (x : Option Node). cond (is_some x) 1 0) None xs)) h
none_counted (Some x ∷ xs) j node e h = absurd (omega (arith, e, sum_by-cons (λ (x : Option Node). cond (is_some x) 1 0) (Some x) xs))

-- where none is in use from a number on, each node in use is below it
used_below : (p : Nodes) (id other : ℕ) (node : Node) → used_from p id ≡ 0 → node_at p other ≡ Some node → other < id
used_below p id other node e h = elim (cases_lt other id) [
  | inl below ↦ below
  | inr past ↦ absurd (none_counted (drop id p.nodes) (other - id) node e (there past))
]
  where
    there : id ≤ other → get_or (drop id p.nodes) (other - id) None ≡ Some node
    there past =
        let sum : id + (other - id) ≡ other = omega arith in
        get_or-drop id p.nodes (other - id) None ∙ ap (λ n. node_at p n) sum ∙ h

-- what is marked in two steps for nodes in use alone is marked for them alone
only_both : (p : Nodes) (old mid new : List Bool) → MarksOnlyNodes p old mid → MarksOnlyNodes p mid new → MarksOnlyNodes p old new
only_both p old mid new first then n h = elim (then n h) [ inl was ↦ first n was | inr used ↦ inr used ]

-- the nodes below a number are done, and `left` are to be seen
pub record Marking (p : Nodes) (old new : List Bool) (id left : ℕ) : Type 0 where
  pub left_is : left ≡ used_from p id
  pub kept : KeepsMarked old new
  pub marked : (other : ℕ) → other < id → IsMarkedNode p new other
  pub only : MarksOnlyNodes p old new

module _ (p : Nodes) (old mid new : List Bool) (id left : ℕ) (m : Marking p old mid id left) (some : 0 < left)
    (kept : KeepsMarked mid new) (here : IsMarkedNode p new id) (only : MarksOnlyNodes p mid new) where
  -- the number is a place of the pool
  within : id < length p.nodes
  within = some_within p id (omega (arith, m.left_is))

  -- the nodes up to it are done
  done : (other : ℕ) → other < id + 1 → IsMarkedNode p new other
  done other below node h = elim (cases_lt other id) [
    | inl before ↦ key_still mid new node.key kept (m.marked other before node h)
    | inr last ↦ (let same : other ≡ id = omega arith in here node (ap (λ n. node_at p n) (sym same) ∙ h))
  ]

  -- one number more is done, which is in use
  pub marking_used : is_some (node_at p id) ≡ true → Marking p old new (id + 1) (left - 1)
  marking_used e = record {
    left_is = omega (arith, m.left_is, used_step p id within e);
    kept = kept_both old mid new m.kept kept;
    marked = done;
    only = only_both p old mid new m.only only;
  }

  -- or which is free
  pub marking_free : is_some (node_at p id) ≡ false → Marking p old new (id + 1) left
  marking_free e = record {
    left_is = m.left_is ∙ free_step p id within e;
    kept = kept_both old mid new m.kept kept;
    marked = done;
    only = only_both p old mid new m.only only;
  }

-- where none is left, all are done
pub marking_all : (p : Nodes) (old new : List Bool) (id left : ℕ) → Marking p old new id left → left ≡ 0 → (other : ℕ) → IsMarkedNode p new other
marking_all p old new id left m none other node h = m.marked other (used_below p id other node (sym m.left_is ∙ none) h) node h
