-- Which commits made the current records.
use Rattle.std.specs.Prelude.{ℕ, List, [], ◌∷◌, if◌then◌else◌, Option, Some, None}
use Rattle.std.specs.FinMap as map
use Rattle.gs_term.specs.Names.{name_cmp}
use Rattle.gs_term.specs.declared.names.Target.{Target}
use Rattle.gs_term.specs.declared.names.Target.TheVariants.{Default, Named}
use Rattle.gs_records.specs.Records.{Record, free, opened, unused, kept, is_current}

-- the number of the commit that made the record of the default graph, if it has one, and of each graph with a name
pub record Births : Type 0 where
  pub unnamed : Option ℕ
  pub named : map.FinMap name_cmp ℕ

-- no record
abbrev pub no_record_births : Births
no_record_births = record { unnamed = None; named = map.empty }

-- that of a target's graph, if it has a record
abbrev pub birth_at : Births → Target → Option ℕ
birth_at b Default = b.unnamed
birth_at b (Named name) = map.get b.named name

-- the same, where the target's graph has a record that this commit made
abbrev pub with_birth : Births → Target → ℕ → Births
with_birth b Default n = record { unnamed = Some n; named = b.named }
with_birth b (Named name) n = record { unnamed = b.unnamed; named = map.insert b.named name n }

-- and where it has none
abbrev pub without_birth : Births → Target → Births
without_birth b Default = record { unnamed = None; named = b.named }
without_birth b (Named name) = record { unnamed = b.unnamed; named = map.remove b.named name }

-- the same, with that of a record where it is current
abbrev pub with_record_birth : Record → Births → Births
with_record_birth free b = b
with_record_birth opened b = b
with_record_birth unused b = b
with_record_birth (kept e) b = if is_current e then with_birth b e.target e.birth else b

-- the commits that made the records which have not died
abbrev pub births_of : List Record → Births
births_of [] = no_record_births
births_of (r ∷ rs) = with_record_birth r (births_of rs)
