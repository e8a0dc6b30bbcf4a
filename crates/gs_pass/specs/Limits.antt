-- How much a pass keeps.
use Rattle.std.specs.Prelude.{ℕ, ◌-◌, ◌^◌}

-- receipts of a pass: those of its first deciding calls
abbrev pub max_receipts : ℕ
max_receipts = 4096

-- the last value of a count
abbrev pub last_count : ℕ
last_count = 2 ^ 64 - 1
