-- How a store begins: the base of the names that it makes up, how much it may hold, and the numbers before its first.
use Rattle.std.specs.Prelude.{ℕ, List}
use Rattle.gs_event.specs.Operations.{Setting}
use Rattle.gs_event.specs.Histories.{Start}
use Rattle.gs_model.specs.Limits.{max_triples, max_names}

-- this base, with the limits `max_triples` and `max_names`
abbrev pub setting_of : List ℕ → Setting
setting_of base = record { base = base; limits = record { triples = max_triples; names = max_names } }

-- so many seats, this base with those limits, and these last request and commit numbers
abbrev pub start_at : ℕ → List ℕ → ℕ → ℕ → Start
start_at seats base request commit = record { seats = seats; setting = setting_of base; request = request; commit = commit }
