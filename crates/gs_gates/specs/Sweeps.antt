-- What the reclaimer asks.
use Rattle.std.specs.Prelude.{◌≡◌, ℕ, zero, suc, Bool, true, false, ◌-◌, ◌^◌, List, [], ◌∷◌, length}
use Rattle.std.specs.List.{All}
use Rattle.gs_event.specs.declared.events.Event.{Event}
use Rattle.gs_event.specs.declared.events.Event.TheVariants.{Reclaim}
use Rattle.gs_event.specs.declared.answers.Answer.{Answer}
use Rattle.gs_event.specs.declared.answers.Answer.TheVariants.{Reclaimed}

-- something was freed, and something is left
abbrev pub has_more : Answer → Bool
has_more (Reclaimed (suc freed) true) = true
has_more a = false

-- the door was asked to free at most 4,096 nodes and records, so many times, and answered so, the last answer first
abbrev pub ReclaimsByEvents : {D : Type 0} → (D → Event → Answer → D → Type 0) → D → List Answer → D → Type 0
ReclaimsByEvents gives old [] new = new ≡ old
ReclaimsByEvents {D} gives old (a ∷ rest) new = (mid : D) × ReclaimsByEvents gives old rest mid × gives mid (Reclaim 4096) a new

-- there is a last answer, and each before it said that there is more to do; it did not itself, unless there were 2^64 - 1
abbrev pub SweepGoesOn : List Answer → Type 0
SweepGoesOn [] = ⊥
SweepGoesOn (a ∷ rest) = All (λ b. has_more b ≡ true) rest × (has_more a ≡ true → length (a ∷ rest) ≡ 2 ^ 64 - 1)

-- it was asked until it said that there is no more to do
abbrev pub SweepsAll : {D : Type 0} → (D → Event → Answer → D → Type 0) → D → List Answer → D → Type 0
SweepsAll gives old answers new = ReclaimsByEvents gives old answers new × SweepGoesOn answers

-- so, so many times, one after the other
abbrev pub SweepsMany : {D : Type 0} → (D → Event → Answer → D → Type 0) → ℕ → (old new : D) → Type 0
SweepsMany gives zero old new = new ≡ old
SweepsMany {D} gives (suc n) old new = (mid : D) × SweepsMany gives n old mid × ((answers : List Answer) × SweepsAll gives mid answers new)
