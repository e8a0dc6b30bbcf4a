-- What the private functions do: one union more, and one key less.
use Rattle.std.specs.Prelude.{◌≡◌, ℕ, ◌+◌, ◌≤◌, List}
use Rattle.std.specs.declared.cmp.Ordering.{Ordering}
use Rattle.gs_pool.specs.declared.nodes.Key.{Key}
use Rattle.gs_pool.specs.Pool.{Nodes}
use Rattle.gs_tree.specs.declared.unions.Merged.{Merged}
use Rattle.gs_tree.specs.Keys.{remove_key, merge_keys}
use Rattle.gs_tree.specs.Reading.{keys_at}
use Rattle.gs_changes.specs.declared.removals.Pruned.{Pruned}
use Rattle.gs_changes.specs.Changes.{ChangesAt}

-- a piece of keys went into the set, and what it lacked of them counts with what was added before
pub record AddsPiece (cmp : Key → Key → Ordering) (birth : ℕ) (p q : Nodes) (old : Merged) (piece : List Key) (m : Merged) : Type 0 where
  pub more : ℕ
  pub total : m.added ≡ old.added + more
  pub changes : ChangesAt cmp birth p q old.root m.root more 0
  pub keys_are : keys_at q m.root ≡ merge_keys cmp piece (keys_at p old.root)

-- a key went out of the set, if the set had it, and counts then
pub record RemovesKey (cmp : Key → Key → Ordering) (birth : ℕ) (p q : Nodes) (old : Pruned) (key : Key) (m : Pruned) : Type 0 where
  pub less : ℕ
  pub total : m.removed ≡ old.removed + less
  pub at_most_one : less ≤ 1
  pub changes : ChangesAt cmp birth p q old.root m.root 0 less
  pub keys_are : keys_at q m.root ≡ remove_key cmp key (keys_at p old.root)
