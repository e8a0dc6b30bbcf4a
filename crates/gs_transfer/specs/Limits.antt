-- The limits of a body's transfer, each with its unit.
use Rattle.std.specs.Prelude.{ℕ}

-- the most bytes of a chunk's size line, its end included
abbrev pub max_size_line_bytes : ℕ
max_size_line_bytes = 256

-- the most bytes of a trailer section, the empty line included
abbrev pub max_trailer_bytes : ℕ
max_trailer_bytes = 16_384
