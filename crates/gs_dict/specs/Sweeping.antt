-- What a sweep does: numbers without a mark lose their terms.
use Rattle.std.specs.Prelude.{◌≡◌, ℕ, ◌+◌, ◌&&◌, List, Bool, false, not, nat_le, nat_lt, length, slice_index_or, None, if◌then◌else◌}
use Rattle.gs_dict.specs.Numbering.{Numbered, term_given}

-- whether a number is marked
abbrev pub is_marked : List Bool → ℕ → Bool
is_marked marks n = slice_index_or marks n false

-- whether a sweep of `count` numbers from `from` on takes the term of a number: it is one of them, and has no mark
abbrev pub is_swept : List Bool → ℕ → ℕ → ℕ → Bool
is_swept marks from count n = nat_le from n && (nat_lt n (from + count) && not (is_marked marks n))

-- each number that is swept has no term, and every other one is as it was
pub record Sweeps (marks : List Bool) (from many : ℕ) (d e : Numbered) : Type 0 where
  pub terms : (n : ℕ) → term_given e.terms n ≡ (if is_swept marks from many n then None else term_given d.terms n)
  pub count : length e.terms ≡ length d.terms
  pub last : e.last ≡ d.last
