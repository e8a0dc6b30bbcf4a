-- The limits of messages, each with its unit. The code has constants of its own; clauses cite these.
use Rattle.std.specs.Prelude.{ℕ}

-- the most bytes of a body that is a document
abbrev pub max_body_bytes : ℕ
max_body_bytes = 67_108_864

-- the most bytes of the body of a PATCH
abbrev pub max_patch_bytes : ℕ
max_patch_bytes = 1_048_576

-- the most bytes of a field's name
abbrev pub max_field_name_bytes : ℕ
max_field_name_bytes = 65_535

-- the greatest size of a body that is kept apart from greater ones
abbrev pub last_size : ℕ
last_size = 18_446_744_073_709_551_615
