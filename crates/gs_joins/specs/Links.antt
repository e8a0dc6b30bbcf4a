-- Which patterns share a variable. No public clause cites this module.
use Rattle.std.specs.Prelude.{◌≡◌, ◌≤◌, ℕ, Bool, true, false, List, ◌||◌, take, drop, length, slice_get, unwrap_or, option_map}
use Rattle.std.specs.List.{list_any}
use Rattle.std.specs.List.Sorted.{IsPermutation}
use Rattle.std.specs.Str.{bytes_eq}
use Rattle.gs_joins.specs.declared.sought.Item.{Item}
use Rattle.gs_joins.specs.declared.sought.Item.TheVariants.{Number, Variable}
use Rattle.gs_joins.specs.declared.sought.Sought.{Sought}
use Rattle.gs_joins.specs.declared.lots.Lot.{Lot}

-- whether an item is this variable
abbrev pub is_this_variable : Item → List ℕ → Bool
is_this_variable (Number n) x = false
is_this_variable (Variable y) x = bytes_eq y.now x

-- whether a pattern has this variable
abbrev pub has_variable : Sought → List ℕ → Bool
has_variable s x = is_this_variable s.subject x || (is_this_variable s.predicate x || is_this_variable s.object x)

-- whether the pattern of the list of this number has it
abbrev pub has_variable_at : List Lot → List ℕ → ℕ → Bool
has_variable_at ls x i = unwrap_or (option_map (λ (l : Lot). has_variable l.sought x) (slice_get ls i)) false

-- whether one of the patterns of the lists of these numbers has it
abbrev pub one_has : List Lot → List ℕ → List ℕ → Bool
one_has ls is x = list_any (has_variable_at ls x) is

-- no variable passes both tests
pub record IsApart (a b : List ℕ → Bool) : Type 0 where
  pub other : (x : List ℕ) → a x ≡ true → b x ≡ false

-- the first of these lists, which share no variable with those after them
pub record Gathers (ls : List Lot) (old new : List ℕ) (many : ℕ) : Type 0 where
  pub some : 1 ≤ many
  pub within : many ≤ length new
  pub same : IsPermutation old new
  pub first : take 1 new ≡ take 1 old
  pub apart : IsApart (one_has ls (take many new)) (one_has ls (drop many new))
