-- What is true of all records.
use Rattle.std.specs.Prelude.{◌≡◌, ℕ, ◌<◌, ◌≤◌, true, List, Option, Some, None}
use Rattle.gs_term.specs.declared.names.Target.{Target}
use Rattle.gs_index.specs.declared.entries.Entry.{Entry}
use Rattle.gs_records.specs.Records.{Record, kept, record_at, has_at, is_current}

-- no version has two records of one graph: their lifetimes do not meet, and at most one of them has not died
abbrev pub AreSingle : List Record → Type 0
AreSingle rs =
    (v m n : ℕ) (e f : Entry) → record_at rs m ≡ kept e → record_at rs n ≡ kept f → e.target ≡ f.target
    → has_at v e ≡ true → has_at v f ≡ true → m ≡ n

-- it died after its birth, by the last commit
abbrev pub DiedBy : ℕ → ℕ → Option ℕ → Type 0
DiedBy latest birth None = Unit {0}
DiedBy latest birth (Some death) = (birth < death) × (death ≤ latest)

-- it was born by the last commit, which has a number above 0, and died after that, if it did
pub record IsDated (latest : ℕ) (e : Entry) : Type 0 where
  pub after : 0 < e.birth
  pub born : e.birth ≤ latest
  pub died : DiedBy latest e.birth e.death

-- each version of a graph is so
abbrev pub AreDated : ℕ → List Record → Type 0
AreDated latest rs = (n : ℕ) (e : Entry) → record_at rs n ≡ kept e → IsDated latest e

-- no record of the graph is current
abbrev pub HasNoCurrent : List Record → Target → Type 0
HasNoCurrent rs t = (n : ℕ) (e : Entry) → record_at rs n ≡ kept e → e.target ≡ t → is_current e ≡ true → ⊥
