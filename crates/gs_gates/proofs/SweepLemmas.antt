-- Sweeps one after the other, and what they make of the record of a pass.
use Rattle.std.proofs.Common.{◌≡◌, ℕ, zero, suc, List, [], ◌∷◌, length, ◌-◌, ◌^◌, arith, true, ap, ◌∙◌}
use Rattle.std.specs.List.{All}
use Rattle.gs_event.specs.declared.events.Event.{Event}
use Rattle.gs_event.specs.declared.answers.Answer.{Answer}
use Rattle.gs_pass.specs.declared.records.Record.{Record}
use Rattle.gs_pass.specs.Tallies.{tally_of}
use Rattle.gs_gates.specs.Records.{told, IsAsBefore}
use Rattle.gs_gates.specs.Sweeps.{has_more, SweepGoesOn, ReclaimsByEvents, SweepsMany}

-- a door shows something of itself, and what it gives shows there
pub record Shows {D E : Type 0} (f : D → E) (gives : D → Event → Answer → D → Type 0) (shown : E → Event → Answer → E → Type 0) : Type 0 where
  pub to : (old : D) (e : Event) (a : Answer) (new : D) → gives old e a new → shown (f old) e a (f new)

-- what holds of all holds of those after the first
all_tail : {X : Type 0} (P : X → Type 0) (x : X) (xs : List X) → All P (x ∷ xs) → All P xs
all_tail P x xs all k d few = all (suc k) d (omega (arith, few))

-- what holds of one and of the others holds of all
pub all_cons : {X : Type 0} (P : X → Type 0) (x : X) (xs : List X) → P x → All P xs → All P (x ∷ xs)
all_cons P x xs first all zero d few = first
all_cons P x xs first all (suc k) d few = all k d (omega (arith, few))

-- where each answer said that there is more to do, there were as many as may be
pub goes_on_all : (answers : List Answer) → length answers ≡ 2 ^ 64 - 1 → All (λ b. has_more b ≡ true) answers → SweepGoesOn answers
goes_on_all [] many all = absurd (omega (arith, many))
goes_on_all (a ∷ rest) many all = (all_tail (λ b. has_more b ≡ true) a rest all, λ on. many)

-- a pass is told nothing by them
reclaims_keep : {D : Type 0} (old new : D) (f : D → Record) (gives : D → Event → Answer → D → Type 0) → Shows f gives told
    → (answers : List Answer) → ReclaimsByEvents gives old answers new → IsAsBefore (f old) (f new)
reclaims_keep old new f gives s [] done = (ap (λ d. (f d).seat) done, ap (λ d. tally_of (f d)) done)
reclaims_keep old new f gives s (a ∷ rest) done =
    let first = reclaims_keep old done.0 f gives s rest done.1 in
    let last = s.to done.0 _ a new done.2 in
    (last.1.0 ∙ first.0, last.1.1.1 ∙ first.1)

-- nor by many sweeps
pub sweeps_keep : {D : Type 0} (new : D) (f : D → Record) (gives : D → Event → Answer → D → Type 0) → Shows f gives told
    → (n : ℕ) (old : D) → SweepsMany gives n old new → IsAsBefore (f old) (f new)
sweeps_keep new f gives s zero old many = (ap (λ d. (f d).seat) many, ap (λ d. tally_of (f d)) many)
sweeps_keep new f gives s (suc n) old many =
    let first = sweeps_keep many.0 f gives s n old many.1 in
    let last = reclaims_keep many.0 new f gives s many.2.0 many.2.1.0 in
    (last.0 ∙ first.0, last.1 ∙ first.1)
