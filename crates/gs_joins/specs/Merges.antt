-- Two slices of keys gone through together. No public clause cites this module.
use Rattle.std.specs.Prelude.{◌≡◌, ◌≢◌, ◌≤◌, ◌<◌, ℕ, List, length, slice_index_or}
use Rattle.gs_pool.specs.declared.nodes.Key.{Key}
use Rattle.gs_joins.specs.declared.sought.Item.{Item}
use Rattle.gs_joins.specs.declared.sought.Sought.{Sought}
use Rattle.gs_joins.specs.declared.weights.Turn.{Turn}
use Rattle.gs_joins.specs.declared.merges.Joint.{Joint}
use Rattle.gs_joins.specs.Lots.{first_of}
use Rattle.gs_joins.specs.Values.{Values, value_of, key_of}

-- two items stand for one number under all values
abbrev pub IsSameItem : Item → Item → Type 0
IsSameItem a b = (v : Values) → value_of v a ≡ value_of v b

-- the number at this place of a pattern's instances is the item's
abbrev pub IsItemAt : Sought → Item → Turn → Type 0
IsItemAt s i t = (v : Values) → first_of t (key_of v s) ≡ value_of v i

-- the instances of two patterns have one number at these places
abbrev pub IsJoint : Sought → Sought → Joint → Type 0
IsJoint s z j = (v : Values) → first_of j.one (key_of v s) ≡ first_of j.other (key_of v z)

-- the keys from the one place to the other have less than this number, and the key at the other has not
pub record SkipsLess (t : Turn) (ks : List Key) (from n to : ℕ) : Type 0 where
  pub up : from ≤ to
  pub within : to ≤ length ks
  pub less : (k : ℕ) (d : Key) → from ≤ k → k < to → first_of t (slice_index_or ks k d) < n
  pub next : (d : Key) → to < length ks → n ≤ first_of t (slice_index_or ks to d)

-- there is no key at this place that has this number
abbrev pub IsNotAt : Turn → List Key → ℕ → ℕ → Type 0
IsNotAt t ks i n = (d : Key) → i < length ks → first_of t (slice_index_or ks i d) ≢ n
