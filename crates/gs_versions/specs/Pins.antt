-- Which versions are pinned, and which lifetimes they need.
use Rattle.std.specs.Prelude.{◌≡◌, ◌⊎◌, ℕ, ◌<◌, ◌≤◌, List, slice_get, slice_index_or, slice_set, replicate, MatchOption, Option, Some, None, Bool, false, nat_eq}
use Rattle.std.specs.List.{list_any}
use Rattle.std.specs.Option.{option_eq}

-- the number of the last commit, and what each seat has pinned
pub record Pins : Type 0 where
  pub commit : ℕ
  pub seats : List (Option ℕ)

-- after so many commits, so many seats, none of which has pinned a version
abbrev pub unpinned : ℕ → ℕ → Pins
unpinned commit seats = record { commit = commit; seats = replicate seats None }

-- one seat has this pinned, and the rest stays
abbrev pub with_pin : Pins → ℕ → Option ℕ → Pins
with_pin p seat version = record p { seats = slice_set p.seats seat version }

-- the last commit has this number, and all pins stay
abbrev pub at_commit : Pins → ℕ → Pins
at_commit p commit = record p { commit = commit }

-- version v has what was born at `birth` and died at `death`: the birth is included, and the death is not
abbrev pub LiesIn : ℕ → ℕ → ℕ → Type 0
LiesIn v birth death = (birth ≤ v) × (v < death)

-- this seat has pinned a version of the lifetime
pub record HasPinned (seats : List (Option ℕ)) (seat birth death : ℕ) : Type 0 where
  pub version : ℕ
  pub pinned : slice_index_or seats seat None ≡ Some version
  pub lies : LiesIn version birth death

-- a seat has pinned a version of the lifetime
pub record IsPinned (seats : List (Option ℕ)) (birth death : ℕ) : Type 0 where
  pub seat : ℕ
  pub version : ℕ
  pub pinned : slice_get seats seat ≡ Some (Some version)
  pub lies : LiesIn version birth death

-- the seat that is named has pinned a version of the lifetime, and where none is named none has
abbrev pub FindsPin : List (Option ℕ) → ℕ → ℕ → Option ℕ → Type 0
FindsPin seats birth death found = MatchOption found (IsPinned seats birth death → ⊥) (λ seat. HasPinned seats seat birth death)

-- whether a seat has this version pinned
abbrev pub is_pinned : List (Option ℕ) → ℕ → Bool
is_pinned seats version = list_any (λ pin. option_eq nat_eq pin (Some version)) seats

-- the seat that is named has this version pinned, and where none is named none has
abbrev pub FindsSeat : List (Option ℕ) → ℕ → Option ℕ → Type 0
FindsSeat seats version found = MatchOption found (is_pinned seats version ≡ false) (λ seat. slice_index_or seats seat None ≡ Some version)

-- the current version or a pinned one needs the lifetime
abbrev pub IsNeeded : Pins → ℕ → ℕ → Type 0
IsNeeded p birth death = LiesIn p.commit birth death ⊎ IsPinned p.seats birth death
