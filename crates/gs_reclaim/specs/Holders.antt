-- For which pin each list of held nodes is kept, and what a list lets go.
use Rattle.std.specs.Prelude.{◌≡◌, ℕ, zero, suc, ◌+◌, ◌<◌, ◌≤◌, Bool, true, false, List, length, take, MatchOption, Option, Some, None, slice_index_or, if◌then◌else◌}
use Rattle.gs_pool.specs.Pool.{Nodes, mark_at}
use Rattle.gs_versions.specs.Pins.{Pins, is_pinned}
use Rattle.gs_ledger.specs.Marks.{death_of}

-- the list of a number is kept for what the seat of that number has pinned
abbrev pub AgreesAt : Nodes → Pins → ℕ → Type 0
AgreesAt p v s = slice_index_or p.pins s None ≡ slice_index_or v.seats s None

-- so is each list
abbrev pub Agrees : Nodes → Pins → Type 0
Agrees p v = (s : ℕ) → s < length p.pins → AgreesAt p v s

-- the pool has a list for each seat
abbrev pub HasLists : Nodes → Pins → Type 0
HasLists p v = length v.seats ≤ length p.pins

-- how many of these nodes, held for a pin, are held no more: all, where none of these seats has its version pinned
abbrev pub let_go_of : List (Option ℕ) → Option ℕ → ℕ → ℕ
let_go_of seats None held = 0
let_go_of seats (Some version) held = if is_pinned seats version then 0 else held

-- how many nodes a list lets go: all, where its pin ended, and no seat that the pool has a list for has its version pinned
abbrev pub let_go_at : Nodes → Pins → ℕ → ℕ
let_go_at p v k = let_go_of (take (length p.pins) v.seats) (slice_index_or p.pins k None) (slice_index_or p.held k 0)

-- the pool has a list for a seat that has pinned what another list is kept for
pub record IsHolder (v : Pins) (p : Nodes) (list other : ℕ) : Type 0 where
  pub version : ℕ
  pub kept : slice_index_or p.pins list None ≡ Some version
  pub below : other < length p.pins
  pub pinned : slice_index_or v.seats other None ≡ Some version

-- the seat that is named is such a one, and where none is named the list lets go all that it has, once its pin has ended
abbrev pub FindsHolder : Pins → Nodes → ℕ → Option ℕ → Type 0
FindsHolder v p list found = MatchOption found (let_go_at p v list ≡ slice_index_or p.held list 0) (λ other. IsHolder v p list other)

-- the sum of these at the numbers below n
abbrev pub sum_below : ℕ → (ℕ → ℕ) → ℕ
sum_below zero f = 0
sum_below (suc n) f = f n + sum_below n f

-- how many nodes are held for pins whose version no seat has pinned that the pool has a list for
abbrev pub let_go_by : Nodes → Pins → ℕ
let_go_by p v = sum_below (length p.pins) (let_go_at p v)

-- each number has the node and the death that it had
pub record KeepsDead (p q : Nodes) : Type 0 where
  pub nodes : q.nodes ≡ p.nodes
  pub deaths : (x : ℕ) → death_of (mark_at q x) ≡ death_of (mark_at p x)

-- a list agrees now that did not
pub record SettledList (v : Pins) (p q : Nodes) (s : ℕ) : Type 0 where
  pub list : s < length p.pins
  pub did_not : AgreesAt p v s → ⊥
  pub does : AgreesAt q v s

-- the list that was to follow its pin does, or another one does now, and this one is to be looked at again
abbrev pub HasTurned : Pins → Nodes → Nodes → ℕ → Bool → Type 0
HasTurned v p q list true = AgreesAt q v list
HasTurned v p q list false = (s : ℕ) × SettledList v p q s

-- One list followed its pin: no node, mark or room is another, what agreed agrees, and exactly what no seat's pin needs is looked at.
pub record FollowsPin (v : Pins) (p q : Nodes) (list : ℕ) (done : Bool) : Type 0 where
  pub nodes : q.nodes ≡ p.nodes
  pub marks : q.marks ≡ p.marks
  pub spare : q.spare ≡ p.spare
  pub limit : q.limit ≡ p.limit
  pub many : length q.pins ≡ length p.pins
  pub agreed : (s : ℕ) → AgreesAt p v s → AgreesAt q v s
  pub loose : q.loose + let_go_by q v ≡ p.loose + let_go_by p v
  pub turned : HasTurned v p q list done
