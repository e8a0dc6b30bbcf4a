-- Variables that are bound to numbers, and keys as the instances of patterns under what is bound.
use Rattle.std.specs.Prelude.{◌≡◌, ◌==◌, if◌then◌else◌, ℕ, Bool, true, false, List, [], ◌∷◌, ◌++◌, Option, Some, None, Result, Ok, Err}
use Rattle.std.specs.List.{fold}
use Rattle.std.specs.Option.{option_and_then}
use Rattle.std.specs.Str.{bytes_eq}
use Rattle.gs_pool.specs.declared.nodes.Key.{Key}
use Rattle.gs_joins.specs.declared.sought.Item.{Item}
use Rattle.gs_joins.specs.declared.sought.Item.TheVariants.{Number, Variable}
use Rattle.gs_joins.specs.declared.sought.Sought.{Sought}
use Rattle.gs_joins.specs.declared.bindings.Bound.{Bound}

-- some variables, each with its number
abbrev pub BoundNumbers : Type 0
BoundNumbers = List (List ℕ × ℕ)

-- what is bound, the last first
abbrev pub numbers_of : List Bound → BoundNumbers
numbers_of bs = fold (λ known b. (b.name.now, b.number) ∷ known) [] bs

-- the number that a variable is bound to
abbrev pub number_for : BoundNumbers → List ℕ → Option ℕ
number_for [] x = None
number_for (e ∷ b) x = if bytes_eq e.0 x then Some e.1 else number_for b x

-- with a variable bound to a number, which is the one that it was bound to
abbrev pub bound_to_number : BoundNumbers → List ℕ → ℕ → Option ℕ → Option BoundNumbers
bound_to_number b x n None = Some ((x, n) ∷ b)
bound_to_number b x n (Some m) = if m == n then Some b else None

-- with an item that stands for this number
abbrev pub bind_number : BoundNumbers → Item → ℕ → Option BoundNumbers
bind_number b (Number m) n = if m == n then Some b else None
bind_number b (Variable x) n = bound_to_number b x.now n (number_for b x.now)

-- with a pattern whose instance is this key
abbrev pub bind_key : BoundNumbers → Sought → Key → Option BoundNumbers
bind_key b s k = option_and_then (λ c. option_and_then (λ d. bind_number d s.object k.object) (bind_number c s.predicate k.predicate)) (bind_number b s.subject k.subject)

-- a number that no term has
abbrev pub no_number : ℕ
no_number = 4_294_967_295

-- the number that is there, and else the one that no term has
abbrev pub or_none : Option ℕ → ℕ
or_none None = no_number
or_none (Some n) = n

-- the number that an item stands for, where it is known
abbrev pub known_number : BoundNumbers → Item → ℕ
known_number b (Number m) = m
known_number b (Variable x) = or_none (number_for b x.now)

-- more are bound, after those that were
pub record BindsMore (old new : List Bound) : Type 0 where
  pub more : List Bound
  pub parts : new ≡ old ++ more

-- what is bound with this, where that may be
abbrev pub BindsTo : Option BoundNumbers → List Bound → Bool → Type 0
BindsTo o new true = o ≡ Some (numbers_of new)
BindsTo o new false = o ≡ None

-- whether it may stand under bindings that grow, and what is bound then
abbrev pub Extends : {E : Type 0} → Option BoundNumbers → List Bound → List Bound → Result Bool E → Type 0
Extends o old new (Err e) = Unit {0}
Extends o old new (Ok stands) = BindsMore old new × BindsTo o new stands

-- whether an item stands for a number
abbrev pub Binds : {E : Type 0} → List Bound → List Bound → Item → ℕ → Result Bool E → Type 0
Binds old new i n r = Extends (bind_number (numbers_of old) i n) old new r

-- whether a key is the instance of a pattern
abbrev pub BindsKey : {E : Type 0} → List Bound → List Bound → Sought → Key → Result Bool E → Type 0
BindsKey old new s k r = Extends (bind_key (numbers_of old) s k) old new r

-- whether a key is the instance of a pattern, and what is bound then: as much as before where it is not
abbrev pub Chooses : List Bound → List Bound → Sought → Key → Bool → Type 0
Chooses old new s k true = BindsMore old new × (bind_key (numbers_of old) s k ≡ Some (numbers_of new))
Chooses old new s k false = (new ≡ old) × (bind_key (numbers_of old) s k ≡ None)
