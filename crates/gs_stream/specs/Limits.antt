-- The limits of a head, each with its unit.
use Rattle.std.specs.Prelude.{ℕ}

-- the most bytes of a head, its empty line included, and nothing that is dropped before it
abbrev pub max_head_bytes : ℕ
max_head_bytes = 16_384
