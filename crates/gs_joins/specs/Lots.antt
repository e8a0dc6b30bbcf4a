-- Patterns with the lists of the keys that may be their instances, and the tables of these.
use Rattle.std.specs.Prelude.{◌≡◌, ◌≤◌, ◌+◌, ◌*◌, ◌==◌, if◌then◌else◌, ℕ, Bool, true, false, List, None}
use Rattle.std.specs.List.{list_any, All, Contains}
use Rattle.std.specs.List.Sorted.{IsPermutation, IsNonDecreasingBy}
use Rattle.gs_pool.specs.declared.nodes.Key.{Key}
use Rattle.gs_joins.specs.declared.sought.Sought.{Sought}
use Rattle.gs_joins.specs.declared.weights.Turn.{Turn}
use Rattle.gs_joins.specs.declared.weights.Turn.TheVariants as turn
use Rattle.gs_joins.specs.declared.lots.Lot.{Lot}
use Rattle.gs_joins.specs.Numbers.{no_number, BoundNumbers, bind_key, known_number}

-- three numbers as one, the first counting most
abbrev pub joined_numbers : ℕ → ℕ → ℕ → ℕ
joined_numbers m n o = (m * 4_294_967_296 + n) * 4_294_967_296 + o

-- the numbers of a key as one, from one of its places on
abbrev pub weight_of : Turn → Key → ℕ
weight_of turn.Subject k = joined_numbers k.subject k.predicate k.object
weight_of turn.Predicate k = joined_numbers k.predicate k.object k.subject
weight_of turn.Object k = joined_numbers k.object k.subject k.predicate

-- the number that comes first
abbrev pub first_of : Turn → Key → ℕ
first_of turn.Subject k = k.subject
first_of turn.Predicate k = k.predicate
first_of turn.Object k = k.object

-- each number of a key may be one of a term
pub record IsSmall (k : Key) : Type 0 where
  pub subject : k.subject ≤ no_number
  pub predicate : k.predicate ≤ no_number
  pub object : k.object ≤ no_number

-- the known numbers of a pattern, each where it stands
abbrev pub known_key_of : BoundNumbers → Sought → Key
known_key_of b s = record { subject = known_number b s.subject; predicate = known_number b s.predicate; object = known_number b s.object }

-- the least number that may stand where this one is known
abbrev pub least_of : ℕ → ℕ
least_of n = if n == no_number then 0 else n

-- the least number at each place
abbrev pub least_key_of : Key → Key
least_key_of k = record { subject = least_of k.subject; predicate = least_of k.predicate; object = least_of k.object }

-- the same keys, by their weights
pub record IsKeyTable (t : Turn) (ks table : List Key) : Type 0 where
  pub same : IsPermutation ks table
  pub rising : IsNonDecreasingBy (weight_of t) table

-- a list whose tables have the keys that it has
pub record IsLot (l : Lot) : Type 0 where
  pub small : All IsSmall l.keys.items
  pub by_subject : IsKeyTable turn.Subject l.keys.items l.by_subject.items
  pub by_predicate : IsKeyTable turn.Predicate l.keys.items l.by_predicate.items
  pub by_object : IsKeyTable turn.Object l.keys.items l.by_object.items

-- a pattern with these keys
pub record MakesLot (s : Sought) (ks : List Key) (l : Lot) : Type 0 where
  pub lot : IsLot l
  pub sought : l.sought ≡ s
  pub keys : l.keys.items ≡ ks

-- no key of the table that passes is left out, where those that pass are between these weights
abbrev pub IsBetween : Turn → ℕ → ℕ → List Key → List Key → Type 0
IsBetween t low high table rest =
    (p : Key → Bool) → ((k : Key) → Contains table k → p k ≡ true → (low ≤ weight_of t k) × (weight_of t k ≤ high)) → list_any p rest ≡ list_any p table

-- no key of the list is left out that may be the pattern's instance under what is bound
abbrev pub Serves : BoundNumbers → Lot → List Key → Type 0
Serves b l near = (p : Key → Bool) → ((k : Key) → bind_key b l.sought k ≡ None → p k ≡ false) → list_any p near ≡ list_any p l.keys.items
