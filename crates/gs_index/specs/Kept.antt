-- How an index is kept: its listed numbers are the subjects of the keys of a set. No public clause cites this module.
use Rattle.std.specs.Prelude.{◌≡◌, ℕ, ◌+◌, ◌<◌, ◌≤◌, List, length, map, Option, Some, None}
use Rattle.gs_model.specs.Limits.{last_node}
use Rattle.gs_pool.specs.declared.nodes.Key.{Key}
use Rattle.gs_pool.specs.Pool.{Nodes, room}
use Rattle.gs_tree.specs.Keys.{AllKeys, insert_key, remove_key}
use Rattle.gs_tree.specs.Reading.{keys_at, keys_from}
use Rattle.gs_tree.specs.Sets.{IsSetAt}
use Rattle.gs_index.specs.declared.ages.ByAge.{ByAge}
use Rattle.gs_index.specs.declared.entries.Entry.{Entry}
use Rattle.gs_index.specs.Ages.{Age, aged_key_cmp, age_among, age_in}

-- by which age an order has each number
abbrev pub ages_of : ByAge → ℕ → Age
ages_of order = age_among order.entries.now order.target.now order.birth

-- the key of a number
abbrev pub number_key : ℕ → Key
number_key n = record { subject = n; predicate = 0; object = 0 }

-- the key of a number, where there is one
abbrev pub key_if : Option ℕ → Option Key
key_if None = None
key_if (Some n) = Some (number_key n)

-- the number of a key
abbrev pub key_number : Key → ℕ
key_number k = k.subject

-- the number of a key, where there is one
abbrev pub number_if : Option Key → Option ℕ
number_if None = None
number_if (Some k) = Some (key_number k)

-- the numbers that a root means
abbrev pub numbers_at : Nodes → Option ℕ → List ℕ
numbers_at p root = map key_number (keys_at p root)

-- each key's number is that of an entry
abbrev pub AreWithin : ℕ → List Key → Type 0
AreWithin count ks = AllKeys (λ k. key_number k < count) ks

-- the keys past what is sought, which a number that no entry has stands for
abbrev pub keys_past : (ℕ → Age) → List Key → List Key
keys_past age ks = keys_from (aged_key_cmp age) (Some (number_key (last_node + 1))) ks

-- the root means a set of numbers of entries, in the order of these; there are no more entries than numbers of nodes
pub record IsKept (entries : List Entry) (p : Nodes) (root : Option ℕ) : Type 0 where
  pub set : IsSetAt (aged_key_cmp (age_in entries)) p root
  pub within : AreWithin (length entries) (keys_at p root)
  pub few : length entries ≤ last_node + 1

-- a number went into a set, in place
pub record GainsNumber (age : ℕ → Age) (p q : Nodes) (from to : Option ℕ) (n : ℕ) : Type 0 where
  pub set : IsSetAt (aged_key_cmp age) q to
  pub keys_are : keys_at q to ≡ insert_key (aged_key_cmp age) (number_key n) (keys_at p from)
  pub spare : room p ≤ room q + 1

-- a number went out of a set, in place
pub record LosesNumber (age : ℕ → Age) (p q : Nodes) (from to : Option ℕ) (n : ℕ) : Type 0 where
  pub set : IsSetAt (aged_key_cmp age) q to
  pub keys_are : keys_at q to ≡ remove_key (aged_key_cmp age) (number_key n) (keys_at p from)
  pub spare : room p + 1 ≤ room q
