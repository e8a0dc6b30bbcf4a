-- Ranges of keys, and the keys that are left of a walk. No public clause cites this module.
use Rattle.std.specs.Prelude.{◌≡◌, ◌≢◌, ◌==◌, ◌&&◌, ◌||◌, if◌then◌else◌, ℕ, Bool, false, List, [], ◌∷◌, Option, Some, None}
use Rattle.std.specs.List.{flat_map}
use Rattle.std.specs.declared.cmp.Ordering.{Ordering}
use Rattle.std.specs.declared.cmp.Ordering.TheVariants.{Greater}
use Rattle.gs_pool.specs.declared.nodes.Key.{Key}
use Rattle.gs_tree.specs.Reading.{keys_at, keys_from}
use Rattle.gs_keys.specs.Texts.{Terms, key_cmp, IsGiven}
use Rattle.gs_joins.specs.declared.sought.Sought.{Sought}
use Rattle.gs_joins.specs.Numbers.{no_number, BoundNumbers, bind_key, known_number}
use Rattle.gs_match.specs.declared.ranges.Keys.{Keys}

-- whether a number may stand at a place of a range: any where the place has the number that no term has
abbrev pub is_at : ℕ → ℕ → Bool
is_at m n = (m == no_number) || (m == n)

-- whether a key is in a range
abbrev pub key_in_range : Key → Key → Bool
key_in_range r k = (is_at r.subject k.subject && is_at r.predicate k.predicate) && is_at r.object k.object

-- after a place that is not known, none is
pub record IsRange (r : Key) : Type 0 where
  pub predicate : r.subject ≡ no_number → r.predicate ≡ no_number
  pub object : r.predicate ≡ no_number → r.object ≡ no_number

-- what stands at a place: nothing known where nothing is at the place before it
abbrev pub known_after : ℕ → ℕ → ℕ
known_after before n = if before == no_number then no_number else n

-- the range of a pattern: its known numbers, up to the first place that is not known
abbrev pub range_for : BoundNumbers → Sought → Key
range_for b s =
    let subject = known_number b s.subject in
    let predicate = known_after subject (known_number b s.predicate) in
    record { subject = subject; predicate = predicate; object = known_after predicate (known_number b s.object) }

-- no key outside the range is the pattern's instance
abbrev pub Covers : Key → BoundNumbers → Sought → Type 0
Covers r b s = (k : Key) → key_in_range r k ≡ false → bind_key b s k ≡ None

-- the keys of a list from this one on
abbrev pub rest_at : (Key → Key → Ordering) → List Key → Option Key → List Key
rest_at cmp ks None = []
rest_at cmp ks (Some k) = k ∷ keys_from cmp (Some k) ks

-- a key is not below the range
abbrev pub IsNotBelow : (Key → Key → Ordering) → Key → Key → Type 0
IsNotBelow cmp r k = cmp r k ≢ Greater

-- nothing is found outside the range
abbrev pub IsQuiet : Terms → Key → (Key → List Key) → Type 0
IsQuiet terms r f = (k : Key) → IsGiven terms k → key_in_range r k ≡ false → f k ≡ []

-- all that is found in a range is found from this key on
pub record StartsIn (terms : Terms) (ks : List Key) (r : Key) (next : Option Key) : Type 0 where
  pub given : (k : Key) → next ≡ Some k → IsGiven terms k
  pub not_below : (k : Key) → next ≡ Some k → IsNotBelow (key_cmp terms) r k
  pub skips : (f : Key → List Key) → IsQuiet terms r f → flat_map f ks ≡ flat_map f (rest_at (key_cmp terms) ks next)

-- the same of the keys of a root
abbrev pub StartsAt : Keys → Key → Option Key → Type 0
StartsAt keys r next = StartsIn keys.order.dict.now.terms (keys_at keys.pool.now keys.root) r next
