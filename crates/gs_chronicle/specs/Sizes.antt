-- As how many triples a page counts triples, patterns and operations. What takes more memory counts as more, so that a page
-- has a bound in bytes.
use Rattle.std.specs.Prelude.{ℕ, ◌+◌, ◌-◌, ◌*◌, ◌/◌, ◌^◌, min, if◌then◌else◌, nat_lt, List, length}
use Rattle.std.specs.List.{sum_by}
use Rattle.gs_model.specs.Terms.{text_of}
use Rattle.gs_model.specs.Triples.{RdfTriple}
use Rattle.gs_term.specs.declared.patterns.Part.{Part}
use Rattle.gs_term.specs.declared.patterns.Part.TheVariants.{Term, Variable}
use Rattle.gs_term.specs.declared.patterns.Pattern.{Pattern}
use Rattle.gs_packed_triples.specs.Room.{triple_bytes}
use Rattle.gs_event.specs.declared.updates.Op.{Op}
use Rattle.gs_event.specs.declared.updates.Op.TheVariants.{Insert, DeleteData, DeleteWhere}

-- a count, which stops at 2^64 - 1
abbrev pub stopped_count : ℕ → ℕ
stopped_count n = min n (2 ^ 64 - 1)

-- a triple counts once, and once more for each 32 bytes of its three texts
abbrev pub triple_size : RdfTriple → ℕ
triple_size t = 1 + triple_bytes t / 32

-- the same of many triples, with repeats
abbrev pub triples_size : List RdfTriple → ℕ
triples_size ts = stopped_count (sum_by triple_size ts)

-- how many bytes a part of a pattern has: a term's text, or a variable's name
abbrev pub pattern_part_bytes : Part → ℕ
pattern_part_bytes (Term t) = length (text_of t)
pattern_part_bytes (Variable x) = length x

-- a pattern counts once, and once more for each 32 bytes of its three parts
abbrev pub pattern_size : Pattern → ℕ
pattern_size p = 1 + (pattern_part_bytes p.subject + pattern_part_bytes p.predicate + pattern_part_bytes p.object) / 32

-- How often each triple counts of a patch of so many operations: once, or eight times where there are more than 1,024, which are
-- kept as they came, in more bytes.
abbrev pub triple_times : ℕ → ℕ
triple_times n = if nat_lt 1_024 n then 8 else 1

-- An operation of a patch counts 16, and each of its triples so often. Patterns are kept as they came: each counts eight times.
abbrev pub op_size : ℕ → Op → ℕ
op_size times (Insert ts) = 16 + times * sum_by triple_size ts.items
op_size times (DeleteData ts) = 16 + times * sum_by triple_size ts.items
op_size times (DeleteWhere ps) = 16 + 8 * sum_by pattern_size ps.items

-- the same of the operations of a patch
abbrev pub ops_size : List Op → ℕ
ops_size ops = stopped_count (sum_by (op_size (triple_times (length ops))) ops)
