-- One key from each list, chosen so that they go together. No public clause cites this module.
use Rattle.std.specs.Prelude.{◌≡◌, ◌<◌, ℕ, Bool, true, false, List, [], ◌∷◌, length, slice_get, Option, Some, None, MatchOption}
use Rattle.std.specs.List.{list_any, filter, All, Contains}
use Rattle.gs_pool.specs.declared.nodes.Key.{Key}
use Rattle.gs_joins.specs.declared.sought.Sought.{Sought}
use Rattle.gs_joins.specs.declared.bindings.Bound.{Bound}
use Rattle.gs_joins.specs.declared.lots.Lot.{Lot}
use Rattle.gs_joins.specs.Numbers.{BoundNumbers, numbers_of, bind_key}

-- whether it goes on from bindings, where there are any
abbrev pub goes_if : (BoundNumbers → Bool) → Option BoundNumbers → Bool
goes_if again None = false
goes_if again (Some b) = again b

-- whether it goes on where a key of the list is chosen
abbrev pub goes_on_in : Option Lot → (BoundNumbers → Bool) → BoundNumbers → Bool
goes_on_in None again b = again b
goes_on_in (Some l) again b = list_any (λ k. goes_if again (bind_key b l.sought k)) l.keys.items

-- whether the lists of these numbers have a key each that go together, under what is bound
abbrev pub has_choice : List Lot → List ℕ → BoundNumbers → Bool
has_choice ls [] b = true
has_choice ls (i ∷ is) b = goes_on_in (slice_get ls i) (has_choice ls is) b

-- whether they have where this key is chosen for a pattern
abbrev pub goes_at : List Lot → List ℕ → BoundNumbers → Sought → Key → Bool
goes_at ls is b s k = goes_if (has_choice ls is) (bind_key b s k)

-- a search answers whether they have, and leaves what is bound
pub record Searches (ls : List Lot) (is : List ℕ) (old new : List Bound) (found : Bool) : Type 0 where
  pub bound : new ≡ old
  pub answer : found ≡ has_choice ls is (numbers_of old)

-- each number is that of a list
abbrev pub AreIn : List Lot → List ℕ → Type 0
AreIn ls is = All (λ i. i < length ls) is

-- the number of each list is there
pub record AreAll (ls : List Lot) (is : List ℕ) : Type 0 where
  pub within : AreIn ls is
  pub all : (i : ℕ) → i < length ls → Contains is i

-- whether values under which this key is the instance of the pattern solve the lists of these numbers
abbrev pub GoesWith : List Lot → ℕ → List ℕ → Key → Bool → Type 0
GoesWith ls at is k goes = MatchOption (slice_get ls at) (Unit {0}) (λ (l : Lot). goes ≡ goes_at ls is [] l.sought k)

-- those keys of a list for which there are such values
abbrev pub KeepsThose : List Lot → ℕ → List ℕ → List Key → Type 0
KeepsThose ls at is kept = MatchOption (slice_get ls at) (Unit {0}) (λ (l : Lot). kept ≡ filter (goes_at ls is [] l.sought) l.keys.items)
