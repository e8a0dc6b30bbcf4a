-- What a contract sees of retired nodes that are held, since a pin needs them.
use Rattle.std.specs.Prelude.{◌≡◌, ◌≢◌, ℕ, ◌+◌, Bool, true, Option, Some, None, slice_index_or, nat_eq, if◌then◌else◌}
use Rattle.std.specs.List.{swap}
use Rattle.std.specs.Option.{option_eq}
use Rattle.gs_versions.specs.Pins.{LiesIn}
use Rattle.gs_pool.specs.declared.nodes.Node.{Node}
use Rattle.gs_pool.specs.Pool.{Nodes, retired, is_retired, node_at, mark_at}

-- the version that is pinned where a list is kept needs the node of a number, if that died at `death`
pub record IsNeededBy (p : Nodes) (list id death : ℕ) : Type 0 where
  pub version : ℕ
  pub node : Node
  pub pinned : slice_index_or p.pins list None ≡ Some version
  pub found : node_at p id ≡ Some node
  pub lies : LiesIn version node.birth death

-- a node is retired, and a pin that a list is kept for needs it
pub record IsHeld (p : Nodes) (id : ℕ) : Type 0 where
  pub list : ℕ
  pub death : ℕ
  pub whole : Bool
  pub marked : mark_at p id ≡ retired death whole
  pub needed : IsNeededBy p list id death

-- each retired node is held
abbrev pub AreHeld : Nodes → Type 0
AreHeld p = (id : ℕ) → is_retired (mark_at p id) ≡ true → IsHeld p id

-- how many nodes a list lets go where this is pinned now
abbrev pub let_go : Nodes → ℕ → Option ℕ → ℕ
let_go p list pin = if option_eq nat_eq (slice_index_or p.pins list None) pin then 0 else slice_index_or p.held list 0

-- every other list has as many as it had
abbrev pub KeepsLists : Nodes → Nodes → ℕ → Type 0
KeepsLists old new list = (other : ℕ) → other ≢ list → slice_index_or new.held other 0 ≡ slice_index_or old.held other 0

-- one list has what both had, and the first has none
pub record GivesAll (old new : Nodes) (list other : ℕ) : Type 0 where
  pub emptied : slice_index_or new.held list 0 ≡ 0
  pub gets : slice_index_or new.held other 0 ≡ slice_index_or old.held list 0 + slice_index_or old.held other 0
  pub others : (k : ℕ) → k ≢ list → k ≢ other → slice_index_or new.held k 0 ≡ slice_index_or old.held k 0

-- two lists changed places: each is kept for what the other was, and has as many as that had
pub record Exchanges (old new : Nodes) (list other : ℕ) : Type 0 where
  pub pins : new.pins ≡ swap old.pins list other
  pub gives : slice_index_or new.held other 0 ≡ slice_index_or old.held list 0
  pub gets : slice_index_or new.held list 0 ≡ slice_index_or old.held other 0
  pub others : (k : ℕ) → k ≢ list → k ≢ other → slice_index_or new.held k 0 ≡ slice_index_or old.held k 0
