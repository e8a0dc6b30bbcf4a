-- What a reclaim makes of the records.
use Rattle.std.specs.Prelude.{◌≡◌, ◌⊎◌, ℕ, Bool, false, List, [], ◌∷◌, Option, Some, None, slice_index_or}
use Rattle.gs_event.specs.Waste.{Lifetime, is_needed}
use Rattle.gs_event.specs.Steps.{Frees}
use Rattle.gs_records.specs.Records.{Record, free, Recorded, record_at}
use Rattle.gs_records.specs.Births.{births_of}
use Rattle.gs_records.specs.Graphs.{graphs_at, current}
use Rattle.gs_records.specs.Waste.{lifetimes, waste_in, open_count}

-- a record that has ended or was given up, and that no pinned version needs
pub record IsUnneeded (pins : List (Option ℕ)) (r : Record) : Type 0 where
  pub life : Lifetime
  pub only : lifetimes r ≡ life ∷ []
  pub not_needed : is_needed pins life ≡ false

-- a number stands for what it stood for, or it is free, and stood for a record that no version needs
abbrev pub StaysOrGoes : List (Option ℕ) → Record → Record → Type 0
StaysOrGoes pins old new = (new ≡ old) ⊎ ((new ≡ free) × IsUnneeded pins old)

-- The waste goes as a Reclaim of at most n says; just records that no version needs are free now, so what is open, current or needed
-- stays under its number; and the graphs of each pinned version and those of now are what they were.
pub record ReclaimsRecords (pins : List (Option ℕ)) (n freed : ℕ) (left : Bool) (old new : Recorded) : Type 0 where
  pub waste : Frees pins n freed left (waste_in old.records) (waste_in new.records)
  pub each : (m : ℕ) → StaysOrGoes pins (record_at old.records m) (record_at new.records m)
  pub versions : (s v : ℕ) → slice_index_or pins s None ≡ Some v → graphs_at v new.records ≡ graphs_at v old.records
  pub now : current new.records ≡ current old.records
  pub births : births_of new.records ≡ births_of old.records
  pub opens : open_count new.records ≡ open_count old.records
  pub latest : new.latest ≡ old.latest
  pub limit : new.limit ≡ old.limit
