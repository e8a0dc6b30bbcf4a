-- How a `Pool` lays out its nodes: a slot for each, and a tail while it is on a list. No public clause cites this module.
use Rattle.std.specs.Prelude.{◌≡◌, ℕ, ◌≤◌, Bool, true, false, ◌&&◌, List, length, Option, Some, None, is_some, count_by, if◌then◌else◌, ◌==◌}
use Rattle.gs_pool.specs.declared.nodes.Node.{Node}
use Rattle.gs_pool.specs.declared.slots.Slot.{Slot}
use Rattle.gs_pool.specs.declared.slots.State.{State}
use Rattle.gs_pool.specs.declared.slots.State.TheVariants.{Free, Plain, AsideNode, AsideTree, RetiredNode, RetiredTree}
use Rattle.gs_pool.specs.declared.slots.Sides.{Sides}
use Rattle.gs_pool.specs.declared.slots.Sides.TheVariants.{Neither, Left, Right, Both}
use Rattle.gs_pool.specs.declared.tails.Tail.{Tail}
use Rattle.gs_pool.specs.Places.{Place, free_place, plain_place, listed_place, is_listed}
use Rattle.gs_pool.specs.Tails.{TailList, tail_at, used_tails, number_where}

-- the sides, by whether there is a left and a right number
abbrev pub sides_of : Bool → Bool → Sides
sides_of left right = if left then (if right then Both else Left) else (if right then Right else Neither)

-- whether there is a left number
abbrev pub has_left : Sides → Bool
has_left Neither = false
has_left Left = true
has_left Right = false
has_left Both = true

-- whether there is a right number
abbrev pub has_right : Sides → Bool
has_right Neither = false
has_right Left = false
has_right Right = true
has_right Both = true

-- the left number of a slot, where there is one
abbrev pub left_of : Slot → Option ℕ
left_of s = number_where (has_left s.sides) s.left

-- and the right number
abbrev pub right_of : Slot → Option ℕ
right_of s = number_where (has_right s.sides) s.right

-- the node of a slot, whatever it is used for, with this birth
abbrev pub node_born : Slot → ℕ → Node
node_born s birth = record { key = s.key; left = left_of s; right = right_of s; height = s.height; birth = birth }

-- a slot that is used for something else, with this as its birth
abbrev pub reused : Slot → State → ℕ → Slot
reused s state birth = record { birth = birth; key = s.key; left = s.left; right = s.right; height = s.height; state = state; sides = s.sides }

-- the place of a slot on a list that has this tail
abbrev pub listed_in : State → Slot → Option Tail → Place
listed_in state s None = listed_place state (node_born s 0) 0 None
listed_in state s (Some t) = listed_place state (node_born s t.birth) t.death t.next

-- the place of a slot in this state, with this tail if it is on a list
abbrev pub place_in : State → Slot → Option Tail → Place
place_in Free s t = free_place (left_of s)
place_in Plain s t = plain_place (node_born s s.birth)
place_in AsideNode s t = listed_in AsideNode s t
place_in AsideTree s t = listed_in AsideTree s t
place_in RetiredNode s t = listed_in RetiredNode s t
place_in RetiredTree s t = listed_in RetiredTree s t

-- the place of a slot, which has the number of its tail as its birth if it is on a list
abbrev pub place_of : TailList → Slot → Place
place_of tails s = place_in s.state s (tail_at tails s.birth)

-- the slot is on a list
abbrev pub is_listed_slot : Slot → Bool
is_listed_slot s = is_listed s.state

-- the slot is on a list, and has the tail of this number
abbrev pub has_tail : ℕ → Slot → Bool
has_tail k s = is_listed_slot s && s.birth == k

-- each tail that is used is the tail of one slot, and there is room for all slots and as many tails
pub record AreLaid (slots : List Slot) (tails : TailList) (room reserved : ℕ) : Type 0 where
  pub each : (k : ℕ) → (if is_some (tail_at tails k) then 1 else 0) ≡ count_by (has_tail k) slots
  pub total : used_tails tails ≡ count_by is_listed_slot slots
  pub within : length slots ≤ room
  pub slots_fit : room ≤ reserved
  pub tails_fit : room ≤ tails.capacity
