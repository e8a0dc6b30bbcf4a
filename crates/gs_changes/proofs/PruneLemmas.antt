-- Keys out of a set, one after another.
use Rattle.std.proofs.Common.{◌≡◌, ℕ, ◌+◌, ◌<◌, ◌≤◌, List, [], length, take, get_or, Option, refl, sym, ap, ◌∙◌, arith}
use Rattle.std.proofs.lemmas.List.Sums.{fold_more}
use Rattle.std.specs.declared.cmp.Ordering.{Ordering}
use Rattle.gs_pool.specs.declared.nodes.Key.{Key}
use Rattle.gs_pool.specs.Pool.{Nodes}
use Rattle.gs_tree.specs.Tree.{tree_at}
use Rattle.gs_tree.specs.Keys.{HasKey, remove_key}
use Rattle.gs_tree.specs.Reading.{keys_at}
use Rattle.gs_tree.specs.Sets.{IsSetAt, RemovesAt}
use Rattle.gs_changes.specs.declared.removals.Pruned.{Pruned}
use Rattle.gs_changes.specs.Changes.{ChangesAt}
use Rattle.gs_changes.specs.Keys.{remove_keys}
use Rattle.gs_changes.specs.Pieces.{RemovesKey}
use Rattle.gs_changes.proofs.ChangeLemmas.{unchanged, removes_changes, then}
use Rattle.gs_changes.proofs.KeyLemmas.{remove_absent}

-- a key that the set lacks
pub lacks : (cmp : Key → Key → Ordering) (birth : ℕ) (p : Nodes) (old : Pruned) (key : Key) → IsSetAt cmp p old.root → (HasKey cmp key (keys_at p old.root) → ⊥) → RemovesKey cmp birth p p old key old
lacks cmp birth p old key s none = record {
  less = 0;
  total = omega arith;
  at_most_one = omega arith;
  changes = unchanged cmp birth p old.root (tree_at p old.root) s;
  keys_are = sym (remove_absent cmp key (keys_at p old.root) none);
}

-- a key that it has
pub has : (cmp : Key → Key → Ordering) (birth : ℕ) (p q : Nodes) (old m : Pruned) (key : Key) → m.removed ≡ old.removed + 1 → RemovesAt cmp birth birth p q old.root key m.root → RemovesKey cmp birth p q old key m
has cmp birth p q old m key e r = record {
  less = 1;
  total = e;
  at_most_one = omega arith;
  changes = removes_changes cmp birth p q m.root key (tree_at p old.root) (tree_at q m.root) r;
  keys_are = r.keys_are;
}

-- the first n keys are out
pub record Pruning (cmp : Key → Key → Ordering) (birth : ℕ) (p q : Nodes) (root : Option ℕ) (m : Pruned) (run : List Key) (n : ℕ) : Type 0 where
  pub changes : ChangesAt cmp birth p q root m.root 0 m.removed
  pub keys_are : keys_at q m.root ≡ remove_keys cmp (take n run) (keys_at p root)
  pub few : m.removed ≤ n

pub pruning_start : (cmp : Key → Key → Ordering) (birth : ℕ) (p : Nodes) (root : Option ℕ) (run : List Key) → IsSetAt cmp p root → Pruning cmp birth p p root (record { root = root; removed = 0 }) run 0
pruning_start cmp birth p root run s = record {
  changes = unchanged cmp birth p root (tree_at p root) s;
  keys_are = ap (λ xs. remove_keys cmp xs (keys_at p root)) (let none : [] ≡ take 0 run = refl in none);
  few = omega arith;
}

pub pruning_more : (cmp : Key → Key → Ordering) (birth : ℕ) (p q r : Nodes) (root : Option ℕ) (old m : Pruned) (run : List Key) (n : ℕ) (d : Key) → n < length run → RemovesKey cmp birth q r old (get_or run n d) m → Pruning cmp birth p q root old run n → Pruning cmp birth p r root m run (n + 1)
pruning_more cmp birth p q r root old m run n d within k i =
    let both = then cmp birth p q r old.root m.root 0 old.removed 0 k.less (tree_at p root) (tree_at q old.root) (tree_at r m.root) i.changes k.changes in
    record {
      changes = rw k.total both;
      keys_are = k.keys_are ∙ ap (remove_key cmp (get_or run n d)) i.keys_are ∙ sym (fold_more (λ ks x. remove_key cmp x ks) (keys_at p root) run n d within);
      few = omega (arith, k.total, k.at_most_one, i.few);
    }
