-- Which numbers are marked: those of the terms of keys.
use Rattle.std.specs.Prelude.{◌≡◌, ◌⊎◌, ℕ, ◌<◌, Bool, true, List, length, Some}
use Rattle.gs_dict.specs.Sweeping.{is_marked}
use Rattle.gs_pool.specs.declared.nodes.Key.{Key}
use Rattle.gs_pool.specs.declared.nodes.Node.{Node}
use Rattle.gs_pool.specs.Pool.{Nodes, node_at}

-- there are as many marks, and what was marked is
pub record KeepsMarked (old new : List Bool) : Type 0 where
  pub count : length new ≡ length old
  pub marked : (n : ℕ) → is_marked old n ≡ true → is_marked new n ≡ true

-- a number is marked, if there is a mark for it
abbrev pub IsMarkedWithin : List Bool → ℕ → Type 0
IsMarkedWithin marks n = n < length marks → is_marked marks n ≡ true

-- each of the key's three numbers is marked, or is not below the number of marks
pub record IsMarkedKey (marks : List Bool) (k : Key) : Type 0 where
  pub subject : IsMarkedWithin marks k.subject
  pub predicate : IsMarkedWithin marks k.predicate
  pub object : IsMarkedWithin marks k.object

-- the number is one of the key's
abbrev pub IsNumberOfKey : Key → ℕ → Type 0
IsNumberOfKey k n = (n ≡ k.subject) ⊎ (n ≡ k.predicate) ⊎ (n ≡ k.object)

-- the number is one of the key of some node in use
pub record IsNumberInUse (p : Nodes) (n : ℕ) : Type 0 where
  pub id : ℕ
  pub node : Node
  pub used : node_at p id ≡ Some node
  pub number : IsNumberOfKey node.key n

-- what is marked was marked, or is a number of the key
abbrev pub MarksOnlyKey : Key → List Bool → List Bool → Type 0
MarksOnlyKey k old new = (n : ℕ) → is_marked new n ≡ true → (is_marked old n ≡ true) ⊎ IsNumberOfKey k n

-- what is marked was marked, or is a number of the key of some node in use
abbrev pub MarksOnlyNodes : Nodes → List Bool → List Bool → Type 0
MarksOnlyNodes p old new = (n : ℕ) → is_marked new n ≡ true → (is_marked old n ≡ true) ⊎ IsNumberInUse p n

-- the key of the node of a number is marked, if the number is in use
abbrev pub IsMarkedNode : Nodes → List Bool → ℕ → Type 0
IsMarkedNode p marks id = (node : Node) → node_at p id ≡ Some node → IsMarkedKey marks node.key
