-- Two lists by their keys near what is bound. No public clause cites this module.
use Rattle.std.specs.Prelude.{◌≡◌, ◌<◌, ℕ, Bool, true, false, List, [], ◌∷◌, length, slice_get, MatchOption}
use Rattle.std.specs.List.{list_any}
use Rattle.std.specs.List.Sorted.{IsNonDecreasingBy}
use Rattle.gs_pool.specs.declared.nodes.Key.{Key}
use Rattle.gs_joins.specs.declared.bindings.Bound.{Bound}
use Rattle.gs_joins.specs.declared.lots.Lot.{Lot}
use Rattle.gs_joins.specs.declared.merges.Joint.{Joint}
use Rattle.gs_joins.specs.declared.pairs.Side.{Side}
use Rattle.gs_joins.specs.Numbers.{BoundNumbers, numbers_of}
use Rattle.gs_joins.specs.Lots.{first_of, Serves}
use Rattle.gs_joins.specs.Choices.{goes_at, has_choice}
use Rattle.gs_joins.specs.Merges.{IsJoint}

-- no key of the list of this number is left out that may be its pattern's instance
pub record IsJoinSide (ls : List Lot) (b : BoundNumbers) (s : Side) : Type 0 where
  pub at : s.at < length ls
  pub serves : MatchOption (slice_get ls s.at) (Unit {0}) (λ (l : Lot). Serves b l s.near.now)

-- whether a key of a list goes with one of the other list, and what is bound is as it was
pub record TriesKey (ls : List Lot) (i j : ℕ) (old new : List Bound) (k : Key) (goes : Bool) : Type 0 where
  pub bound : new ≡ old
  pub answer : MatchOption (slice_get ls i) (Unit {0}) (λ (l : Lot). goes ≡ goes_at ls (j ∷ []) (numbers_of old) l.sought k)

-- a key of a list was tried, and what is bound is as it was: where it goes with one of the other list, the two have keys that do
pub record TriesFirst (ls : List Lot) (i j : ℕ) (old new : List Bound) (goes : Bool) : Type 0 where
  pub bound : new ≡ old
  pub answer : goes ≡ true → has_choice ls (i ∷ j ∷ []) (numbers_of old) ≡ true

-- none of these keys of a list goes with one of the other list
abbrev pub NoneGoes : List Lot → ℕ → ℕ → BoundNumbers → List Key → Type 0
NoneGoes ls i j b ks = MatchOption (slice_get ls i) (Unit {0}) (λ (l : Lot). list_any (goes_at ls (j ∷ []) b l.sought) ks ≡ false)

-- the patterns of two lists have one number at these places
abbrev pub AreJoint : List Lot → ℕ → ℕ → Joint → Type 0
AreJoint ls i j p = MatchOption (slice_get ls i) (Unit {0}) (λ (l : Lot). MatchOption (slice_get ls j) (Unit {0}) (λ (m : Lot). IsJoint l.sought m.sought p))

-- and the keys near rise by it on both sides
pub record IsMerge (ls : List Lot) (one other : Side) (p : Joint) : Type 0 where
  pub joint : AreJoint ls one.at other.at p
  pub rising : IsNonDecreasingBy (first_of p.one) one.near.now
  pub rising_other : IsNonDecreasingBy (first_of p.other) other.near.now
