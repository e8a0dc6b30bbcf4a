-- How many bytes the texts of values and of triples have.
use Rattle.std.specs.Prelude.{ℕ, List, ◌+◌, ◌-◌, ◌^◌, min, sum_by, length}
use Rattle.gs_model.specs.Terms.{Term, text_of}
use Rattle.gs_model.specs.Triples.{RdfTriple}
use Rattle.gs_term.specs.declared.patterns.Part.{Part}
use Rattle.gs_term.specs.declared.patterns.Part.TheVariants as part
use Rattle.gs_term.specs.declared.patterns.Pattern.{Pattern}

-- the bytes of a term's text
abbrev pub term_bytes : Term → ℕ
term_bytes t = length (text_of t)

-- the bytes of a triple's three texts
abbrev pub terms_bytes : RdfTriple → ℕ
terms_bytes t = term_bytes t.subject + term_bytes t.predicate + term_bytes t.object

-- those of a part's text, or of its variable's name
abbrev pub part_bytes : Part → ℕ
part_bytes (part.Term t) = term_bytes t
part_bytes (part.Variable x) = length x

-- a sum of the code, which stops at the greatest number
abbrev pub stopped_sum : ℕ → ℕ → ℕ
stopped_sum a b = min (a + b) (2 ^ 64 - 1)

-- those of a pattern's three parts: a name may be as long as its text
abbrev pub parts_bytes : Pattern → ℕ
parts_bytes t = stopped_sum (stopped_sum (part_bytes t.subject) (part_bytes t.predicate)) (part_bytes t.object)

-- those of terms, as a sum of the code
abbrev pub texts_bytes : List Term → ℕ
texts_bytes ts = min (sum_by term_bytes ts) (2 ^ 64 - 1)
