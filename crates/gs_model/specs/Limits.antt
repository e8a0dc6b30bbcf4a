-- The limits of what is served, each with its unit. The code has constants of its own; clauses cite these.
use Rattle.std.specs.Prelude.{ℕ}

-- the greatest number of a request or of a commit
abbrev pub last_number : ℕ
last_number = 999_999_999_999_999_999

-- the most bytes of a term's canonical text
abbrev pub max_term_bytes : ℕ
max_term_bytes = 65_535

-- the most bytes of the IRI that names a graph
abbrev pub max_name_bytes : ℕ
max_name_bytes = 2_048

-- the most brackets and parentheses that stand one within another
abbrev pub max_nesting : ℕ
max_nesting = 64

-- the most seats of a store
abbrev pub max_seats : ℕ
max_seats = 512

-- the most triples of a store, over all graphs
abbrev pub max_triples : ℕ
max_triples = 10_000_000

-- the most names of graphs of a store
abbrev pub max_names : ℕ
max_names = 65_536

-- the greatest number of a node: numbering begins at 0
abbrev pub last_node : ℕ
last_node = 4_294_967_294

-- the greatest number of a term: numbering begins at 0
abbrev pub last_term : ℕ
last_term = 4_294_967_294

-- the most patterns of a DELETE WHERE
abbrev pub max_patterns : ℕ
max_patterns = 4
