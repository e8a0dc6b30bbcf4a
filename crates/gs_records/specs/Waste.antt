-- What records keep beyond the current ones and those that are open.
use Rattle.std.specs.Prelude.{ℕ, Bool, true, false, List, [], ◌∷◌, ◌++◌, count_by, Option, Some, None}
use Rattle.gs_event.specs.Waste.{Lifetime}
use Rattle.gs_records.specs.Records.{Record, free, opened, unused, kept}

-- the lifetime of what was born and died so, where it has died
abbrev pub lifetime_of : ℕ → Option ℕ → List Lifetime
lifetime_of birth None = []
lifetime_of birth (Some death) = record { birth = birth; death = death } ∷ []

-- the lifetime of a record that has ended, or that was given up, and that no version has
abbrev pub lifetimes : Record → List Lifetime
lifetimes free = []
lifetimes opened = []
lifetimes unused = record { birth = 0; death = 0 } ∷ []
lifetimes (kept e) = lifetime_of e.birth e.death

-- the lifetimes of all records that have ended or were given up
abbrev pub waste_in : List Record → List Lifetime
waste_in [] = []
waste_in (r ∷ rs) = lifetimes r ++ waste_in rs

-- whether a record is open
abbrev pub is_opened : Record → Bool
is_opened free = false
is_opened opened = true
is_opened unused = false
is_opened (kept e) = false

-- how many are open
abbrev pub open_count : List Record → ℕ
open_count rs = count_by is_opened rs

-- whether a number is in use
abbrev pub is_in_use : Record → Bool
is_in_use free = false
is_in_use opened = true
is_in_use unused = true
is_in_use (kept e) = true

-- how many are in use
abbrev pub used_count : List Record → ℕ
used_count rs = count_by is_in_use rs
