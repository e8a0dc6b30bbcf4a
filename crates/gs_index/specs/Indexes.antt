-- What an index has: entries by number, and of these numbers some listed, in the order of their entries.
use Rattle.std.specs.Prelude.{ℕ, ◌+◌, ◌<◌, ◌≤◌, Bool, not, ◌&&◌, ◌==◌, nat_le, List, [], ◌∷◌, length, find, filter, slice_index_or, Option, Some, None, if◌then◌else◌}
use Rattle.std.specs.List.{AllByRecursion, list_any}
use Rattle.std.specs.List.Sorted.{IsStrictlySortedBy}
use Rattle.std.specs.Ordering.{is_lt}
use Rattle.gs_model.specs.Limits.{last_node}
use Rattle.gs_term.specs.declared.names.Target.{Target}
use Rattle.gs_index.specs.declared.entries.Entry.{Entry}
use Rattle.gs_index.specs.Ages.{blank_entry, is_target, aged_number_cmp, age_in}

-- the entry under each number from 0 on; the numbers that are listed, in order; and how many more can be listed with no allocation
pub record Indexed : Type 0 where
  pub entries : List Entry
  pub listed : List ℕ
  pub spare : ℕ

-- the entry of a number, and a blank one past the last
abbrev pub entry_at : List Entry → ℕ → Entry
entry_at entries n = slice_index_or entries n blank_entry

-- the entry, which died at this commit
abbrev pub with_death : Entry → ℕ → Entry
with_death e death = record { target = e.target; version = e.version; birth = e.birth; death = Some death }

-- whether a number comes before another, by their entries
abbrev pub number_is_before : List Entry → ℕ → ℕ → Bool
number_is_before entries m n = is_lt (aged_number_cmp (age_in entries) m n)

-- whether a number is in a list
abbrev pub is_listed : ℕ → List ℕ → Bool
is_listed n ns = list_any (λ m. m == n) ns

-- the numbers with this one in its place: before the first that it comes before
abbrev pub with_number : List Entry → ℕ → List ℕ → List ℕ
with_number entries n [] = n ∷ []
with_number entries n (m ∷ ms) = if number_is_before entries n m then n ∷ m ∷ ms else m ∷ with_number entries n ms

-- the numbers without this one
abbrev pub without_number : ℕ → List ℕ → List ℕ
without_number n ns = filter (λ m. not (m == n)) ns

-- the numbers that stand after this one
abbrev pub after_number : ℕ → List ℕ → List ℕ
after_number n [] = []
after_number n (m ∷ ms) = if m == n then ms else after_number n ms

-- the numbers after the one given, and all where none is
abbrev pub numbers_after : Option ℕ → List ℕ → List ℕ
numbers_after None ns = ns
numbers_after (Some n) ns = after_number n ns

-- whether an entry is of this target, and was made by this commit or an earlier one
abbrev pub is_made_by : Target → ℕ → Entry → Bool
is_made_by target version e = is_target target e.target && nat_le e.birth version

-- the first of the listed numbers whose entry is such a one
abbrev pub youngest_by : Indexed → Target → ℕ → Option ℕ
youngest_by x target version = find (λ n. is_made_by target version (entry_at x.entries n)) x.listed

-- the numbers are those of entries, and strictly rise in the order of these; there are no more entries than numbers of nodes
pub record IsIndexed (x : Indexed) : Type 0 where
  pub within : AllByRecursion (λ n. n < length x.entries) x.listed
  pub rising : IsStrictlySortedBy (aged_number_cmp (age_in x.entries)) x.listed
  pub few : length x.entries ≤ last_node + 1
