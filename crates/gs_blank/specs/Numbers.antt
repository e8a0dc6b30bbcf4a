-- The numbers of blank nodes: of each label one, and of a node without a label its own, counted from 1.
use Rattle.std.specs.Prelude.{ℕ, ◌+◌, List, Option, Some, None}
use Rattle.std.specs.Ordering.{nat_cmp}
use Rattle.std.specs.Cmp.Lexicographic.{slice_cmp}
use Rattle.std.specs.FinMap as map

-- labels and their numbers, and the last number that was given
abbrev pub Numbers : Type 0
Numbers = map.FinMap (slice_cmp nat_cmp) ℕ × ℕ

-- no node is numbered yet
abbrev pub no_numbers : Numbers
no_numbers = (map.empty, 0)

-- the number that a label has, if it has one
abbrev pub known : Numbers → List ℕ → Option ℕ
known n label = map.get n.0 label

-- a number more, for a node without a label
abbrev pub one_more : Numbers → Numbers
one_more n = (n.0, n.1 + 1)

-- the next number, for this label
abbrev pub with_label : Numbers → List ℕ → Numbers
with_label n label = (map.insert n.0 label (n.1 + 1), n.1 + 1)

-- the number that a label has, or else the next
abbrev pub label_numbered : Numbers → List ℕ → Option ℕ → ℕ × Numbers
label_numbered n label None = (n.1 + 1, with_label n label)
label_numbered n label (Some k) = (k, n)

-- a label's number, and the numbers then
abbrev pub label_number : Numbers → List ℕ → ℕ × Numbers
label_number n label = label_numbered n label (known n label)
