-- The lists that run through the places of a `Pool`, and its invariant. No public clause cites this module.
use Rattle.std.specs.Prelude.{◌≡◌, ℕ, ◌+◌, ◌≤◌, Bool, true, false, ◌&&◌, nat_le, nat_lt, List, [], ◌∷◌, map, length, Option, Some, None, is_some, count_by, slice_get, slice_index_or, if◌then◌else◌, ◌==◌}
use Rattle.std.specs.List.{sum_by}
use Rattle.gs_pool.specs.declared.holds.Hold.{Hold}
use Rattle.gs_model.specs.Limits.{last_node}
use Rattle.gs_pool.specs.Places.{Place, next_of, is_free_place, is_aside_place, is_retired_place}

-- the version of a hold's pin
abbrev pub pin_of : Hold → Option ℕ
pin_of h = h.pin

-- how many nodes a hold has
abbrev pub hold_count : Hold → ℕ
hold_count h = h.count

-- a hold of no node, for a pin
abbrev pub empty_hold : Option ℕ → Hold
empty_hold pin = record { pin = pin; first = None; last = 0; count = 0 }

-- the hold of a number: past the end there is none, which is as one of no node
abbrev pub hold_at : List Hold → ℕ → Hold
hold_at holds k = slice_index_or holds k (empty_hold None)

-- a hold with a node more, at its head
abbrev pub with_node_first : Hold → ℕ → Hold
with_node_first h id = record { pin = h.pin; first = Some id; last = if is_some h.first then h.last else id; count = h.count + 1 }

-- the nodes of one hold before those of another, whose pin stays
abbrev pub joined_holds : Hold → Hold → Hold
joined_holds h g = record { pin = g.pin; first = h.first; last = if is_some g.first then g.last else h.last; count = h.count + g.count }

-- how often a number is in a list
abbrev pub times : ℕ → List ℕ → ℕ
times x [] = 0
times x (y ∷ ys) = (if y == x then 1 else 0) + times x ys

-- What a list is of: which element comes next, whether an element is retired, and when it was born and died.
pub record Kind (A : Type 0) : Type 0 where
  pub next : A → Option ℕ
  pub is_retired : A → Bool
  pub birth : A → ℕ
  pub death : A → ℕ

-- the places of a pool
abbrev pub place_kind : Kind Place
place_kind = record { next = next_of; is_retired = is_retired_place; birth = λ s. s.node.birth; death = λ s. s.death }

-- the elements named by these numbers pass the test, and each names the next
abbrev pub IsChain : {A : Type 0} → (A → Option ℕ) → (A → Bool) → List A → Option ℕ → List ℕ → Type 0
IsChain next test items first [] = first ≡ None
IsChain {A = A} next test items first (id ∷ ids) = (first ≡ Some id) × ((s : A) × (slice_get items id ≡ Some s) × (test s ≡ true) × IsChain next test items (next s) ids)

-- the list that begins at `first` has each element once that passes the test
pub record IsListOf {A : Type 0} (next : A → Option ℕ) (test : A → Bool) (items : List A) (first : Option ℕ) : Type 0 where
  pub ids : List ℕ
  pub chain : IsChain next test items first ids
  pub once : (x : ℕ) → times x ids ≤ 1
  pub all : length ids ≡ count_by test items

-- the element is retired, and the pinned version, if there is one, needs it
abbrev pub is_kept_for : {A : Type 0} → Kind A → Option ℕ → A → Bool
is_kept_for kind None s = false
is_kept_for kind (Some v) s = kind.is_retired s && (nat_le (kind.birth s) v && nat_lt v (kind.death s))

-- the last number of a list that begins with x
abbrev pub last_in_list : ℕ → List ℕ → ℕ
last_in_list x [] = x
last_in_list x (y ∷ ys) = last_in_list y ys

-- the last number of a list, where it has any
abbrev pub IsLast : ℕ → List ℕ → Type 0
IsLast last [] = Unit {0}
IsLast last (x ∷ xs) = last ≡ last_in_list x xs

-- a hold has these numbers, each of which its pin needs
pub record IsHold {A : Type 0} (kind : Kind A) (items : List A) (h : Hold) (ids : List ℕ) : Type 0 where
  pub chain : IsChain kind.next (is_kept_for kind h.pin) items h.first ids
  pub last : IsLast h.last ids
  pub counted : h.count ≡ length ids

-- whether the element of a number is retired
abbrev pub is_retired_at : {A : Type 0} → (A → Bool) → List A → ℕ → Bool
is_retired_at is_retired items x = slice_index_or (map is_retired items) x false

-- The retired elements: those that are not held, in a list that begins at `first`, and those of each hold. Each is on one of these
-- lists, and once.
pub record AreRetired {A : Type 0} (kind : Kind A) (items : List A) (first : Option ℕ) (holds : List Hold) (loose total : ℕ) : Type 0 where
  pub ids : List ℕ
  pub held : List (List ℕ)
  pub chain : IsChain kind.next kind.is_retired items first ids
  pub many : length held ≡ length holds
  pub each : (k : ℕ) → IsHold kind items (hold_at holds k) (slice_index_or held k [])
  pub once : (x : ℕ) → times x ids + sum_by (times x) held ≡ (if is_retired_at kind.is_retired items x then 1 else 0)
  pub loose_is : loose ≡ length ids
  pub all : length ids + sum_by (λ (l : List ℕ). length l) held ≡ total
  pub total_is : total ≡ count_by kind.is_retired items

-- each list is whole
pub record AreSoundLists (places : List Place) (first_free first_aside first_retired : Option ℕ) (holds : List Hold) (free loose total limit : ℕ) : Type 0 where
  pub free_list : IsListOf next_of is_free_place places first_free
  pub aside_list : IsListOf next_of is_aside_place places first_aside
  pub retired_lists : AreRetired place_kind places first_retired holds loose total
  pub counted : free ≡ count_by is_free_place places
  pub short : length places ≤ limit
  pub small : limit ≤ last_node + 1
