-- What the abstract store was asked by all seats, in one order.
use Rattle.std.specs.Prelude.{◌≡◌, ◌<◌, ℕ, nat_eq, List, map, reverse}
use Rattle.std.specs.List.{All, filter}
use Rattle.gs_event.specs.Phases.{Idle}
use Rattle.gs_event.specs.Histories.{History, points_of}
use Rattle.gs_talk.specs.Seats.{Point, asked_in}
use Rattle.gs_world.specs.Happenings.{deeds_at}

-- what a seat asked, in order
abbrev pub asked_at : ℕ → History → List Point
asked_at seat h = asked_in Idle (deeds_at seat h)

-- what seats asked, each point with its seat
abbrev pub Askings : Type 0
Askings = List (ℕ × Point)

-- the points of one seat
abbrev pub points_by : ℕ → Askings → List Point
points_by seat qs = map (λ (x : ℕ × Point). x.1) (filter (λ (x : ℕ × Point). nat_eq x.0 seat) qs)

-- All that the abstract store was asked, in the order of the whole history, is a merging of what the seats asked; and each point is
-- one of a connection that is there.
pub record IsMerged (count : ℕ) (history : History) : Type 0 where
  pub askings : Askings
  pub whole : map (λ (x : ℕ × Point). x.1.1) askings ≡ reverse (points_of history)
  pub parts : (seat : ℕ) → points_by seat askings ≡ asked_at seat history
  pub there : All (λ (x : ℕ × Point). x.0 < count) askings
