-- What a `Pool` knows of its places. No public clause cites this module.
use Rattle.std.specs.Prelude.{ℕ, Bool, true, false, List, [], ◌∷◌, ◌++◌, slice_set, slice_index_or, Option, Some, None, is_none, if◌then◌else◌}
use Rattle.gs_pool.specs.declared.nodes.Node.{Node}
use Rattle.gs_pool.specs.declared.nodes.Retired.{Retired}
use Rattle.gs_pool.specs.declared.slots.State.{State}
use Rattle.gs_pool.specs.declared.slots.State.TheVariants.{Free, Plain, AsideNode, AsideTree, RetiredNode, RetiredTree}
use Rattle.gs_pool.specs.Pool.{NodeMark, plain, aside, retired, is_aside, is_retired}

-- what a place is used for, its node, whether it is in use or not, its death, and the next place of the list that it is on
pub record Place : Type 0 where
  pub state : State
  pub node : Node
  pub death : ℕ
  pub next : Option ℕ

-- the places, by number, and for how many there is room
pub record PlaceList : Type 0 where
  pub items : List Place
  pub capacity : ℕ

-- a node, which stands where a place has none
abbrev pub no_node : Node
no_node = record { key = record { subject = 0; predicate = 0; object = 0 }; left = None; right = None; height = 0; birth = 0 }

-- a free place, with the next one
abbrev pub free_place : Option ℕ → Place
free_place next = record { state = Free; node = no_node; death = 0; next = next }

-- a place in use that is on no list
abbrev pub plain_place : Node → Place
plain_place n = record { state = Plain; node = n; death = 0; next = None }

-- a place at the head of a list
abbrev pub listed_place : State → Node → ℕ → Option ℕ → Place
listed_place state n death next = record { state = state; node = n; death = death; next = next }

-- the place of a number: past the end there is none, which is as a free one
abbrev pub place_at : PlaceList → ℕ → Place
place_at ps id = slice_index_or ps.items id (free_place None)

-- the same place, with another next one
abbrev pub relinked : Place → Option ℕ → Place
relinked s next = listed_place s.state s.node s.death next

-- the places, with another one under a number
abbrev pub with_place : PlaceList → ℕ → Place → PlaceList
with_place ps id s = record { items = slice_set ps.items id s; capacity = ps.capacity }

-- the places, and one more
abbrev pub with_more : PlaceList → Place → PlaceList
with_more ps s = record { items = ps.items ++ s ∷ []; capacity = ps.capacity }

-- the node of a place, whether it is in use or not
abbrev pub content_of : Place → Node
content_of s = s.node

-- the next place of the list that a place is on
abbrev pub next_of : Place → Option ℕ
next_of s = s.next

-- a node in this state, where the state is not free
abbrev pub node_in : State → Node → Option Node
node_in Free n = None
node_in Plain n = Some n
node_in AsideNode n = Some n
node_in AsideTree n = Some n
node_in RetiredNode n = Some n
node_in RetiredTree n = Some n

-- the mark of this state
abbrev pub mark_in : State → ℕ → NodeMark
mark_in Free death = plain
mark_in Plain death = plain
mark_in AsideNode death = aside death false
mark_in AsideTree death = aside death true
mark_in RetiredNode death = retired death false
mark_in RetiredTree death = retired death true

-- whether the state is that of a node in use that is on no list
abbrev pub is_plain_state : State → Bool
is_plain_state Free = false
is_plain_state Plain = true
is_plain_state AsideNode = false
is_plain_state AsideTree = false
is_plain_state RetiredNode = false
is_plain_state RetiredTree = false

-- whether the state is that of a node that is set aside or retired
abbrev pub is_listed : State → Bool
is_listed Free = false
is_listed Plain = false
is_listed AsideNode = true
is_listed AsideTree = true
is_listed RetiredNode = true
is_listed RetiredTree = true

-- whether the state is that of a node that stands for all below it too
abbrev pub is_whole : State → Bool
is_whole Free = false
is_whole Plain = false
is_whole AsideNode = false
is_whole AsideTree = true
is_whole RetiredNode = false
is_whole RetiredTree = true

-- what a list says of the place of a number
abbrev pub entry_of : ℕ → Place → Retired
entry_of id s = record { id = id; death = s.death; whole = is_whole s.state }

-- the state of a node set aside, alone or with all below it
abbrev pub aside_state : Bool → State
aside_state whole = if whole then AsideTree else AsideNode

-- the state of a retired node, alone or with all below it
abbrev pub retired_state : Bool → State
retired_state whole = if whole then RetiredTree else RetiredNode

-- the node of a place, where it is not free
abbrev pub node_of : Place → Option Node
node_of s = node_in s.state (content_of s)

-- the mark of a place
abbrev pub mark_of : Place → NodeMark
mark_of s = mark_in s.state s.death

-- the place is free
abbrev pub is_free_place : Place → Bool
is_free_place s = is_none (node_of s)

-- its node is set aside
abbrev pub is_aside_place : Place → Bool
is_aside_place s = is_aside (mark_of s)

-- its node is retired
abbrev pub is_retired_place : Place → Bool
is_retired_place s = is_retired (mark_of s)
