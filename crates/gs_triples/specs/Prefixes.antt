-- The prefixes of a document (Turtle, section 2.4).
use Rattle.std.specs.Prelude.{ℕ, List}
use Rattle.std.specs.Ordering.{nat_cmp}
use Rattle.std.specs.Cmp.Lexicographic.{slice_cmp}
use Rattle.std.specs.FinMap as finite

-- the IRI of each declared prefix
abbrev pub Prefixes : Type 0
Prefixes = finite.FinMap (slice_cmp nat_cmp) (List ℕ)
