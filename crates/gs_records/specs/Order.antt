-- The graphs of a version of the dataset, in the order of the listed numbers.
use Rattle.std.specs.Prelude.{◌≡◌, ℕ, ◌-◌, nat_lt, if◌then◌else◌, length, slice_get, Bool, ◌&&◌, List, [], ◌∷◌, ◌++◌, map, MatchOption, Option, Some, None}
use Rattle.std.specs.List.{filter}
use Rattle.std.specs.List.Sorted.{IsStrictlySortedBy}
use Rattle.std.specs.FinMap as fin
use Rattle.gs_term.specs.declared.names.Target.{Target}
use Rattle.gs_term.specs.declared.names.Target.TheVariants.{Default, Named}
use Rattle.gs_catalogue.specs.declared.versions.GraphVersion.{GraphVersion}
use Rattle.gs_catalogue.specs.Catalogues.{GraphVersions, empty_version}
use Rattle.gs_index.specs.declared.entries.Entry.{Entry}
use Rattle.gs_index.specs.Ages.{Age, blank_entry, age_of, aged_number_cmp}
use Rattle.gs_index.specs.Indexes.{is_listed}
use Rattle.gs_records.specs.Records.{Record, free, opened, unused, kept, record_at, has_at, is_kept}
use Rattle.gs_records.specs.Graphs.{graphs_at}
use Rattle.gs_records.specs.Kept.{AreSingle}

-- the entry of a record, and a blank one of what is none
abbrev pub entry_of : Record → Entry
entry_of free = blank_entry
entry_of opened = blank_entry
entry_of unused = blank_entry
entry_of (kept e) = e

-- whether version v of the dataset has what a number stands for
abbrev pub has_number : ℕ → List Record → ℕ → Bool
has_number v rs n = is_kept (record_at rs n) && has_at v (entry_of (record_at rs n))

-- by what a number is ordered
abbrev pub age_at : List Record → ℕ → Age
age_at rs n = age_of (entry_of (record_at rs n))

-- just the numbers of versions of graphs are listed, in the order of their graphs, and of one graph the youngest first
pub record AreListed (rs : List Record) (listed : List ℕ) : Type 0 where
  pub members : (n : ℕ) → is_listed n listed ≡ is_kept (record_at rs n)
  pub rising : IsStrictlySortedBy (aged_number_cmp (age_at rs)) listed

-- the graph and the version of a number
abbrev pub graph_of_number : List Record → ℕ → Target × GraphVersion
graph_of_number rs n = ((entry_of (record_at rs n)).target, (entry_of (record_at rs n)).version)

-- the graphs of those numbers that version v of the dataset has
abbrev pub graphs_listed : ℕ → List Record → List ℕ → List (Target × GraphVersion)
graphs_listed v rs listed = map (graph_of_number rs) (filter (has_number v rs) listed)

-- the default graph, where it is there
abbrev pub default_first : Option GraphVersion → List (Target × GraphVersion)
default_first None = []
default_first (Some v) = (Default, v) ∷ []

-- a graph with a name
abbrev pub with_target : List ℕ × GraphVersion → Target × GraphVersion
with_target e = (Named e.0, e.1)

-- The default graph is first, but is left out where it is empty and has no record; then come the graphs with names, in the order of these.
pub record AreInOrder (g : GraphVersions) (graphs : List (Target × GraphVersion)) : Type 0 where
  pub unnamed : Option GraphVersion
  pub default : MatchOption unnamed (g.unnamed ≡ empty_version) (λ v. v ≡ g.unnamed)
  pub graphs_are : graphs ≡ default_first unnamed ++ map with_target (fin.entries g.named)

-- so are the graphs of each version, by the listed numbers
abbrev pub AreListedInOrder : Type 0
AreListedInOrder = (v : ℕ) (rs : List Record) (listed : List ℕ) → AreSingle rs → AreListed rs listed → AreInOrder (graphs_at v rs) (graphs_listed v rs listed)

-- Where a search for so many numbers goes on, which gave these: after the last of them, and nowhere where they were fewer.
abbrev pub search_goes_on : ℕ → List ℕ → Option ℕ
search_goes_on most numbers = if nat_lt (length numbers) most then None else slice_get numbers (length numbers - 1)
