-- The condition of a write: the field If-Store-Commit, this project's own, of the number of a commit.
use Rattle.std.specs.Prelude.{ℕ, Bool, ◌&&◌, nat_le, List, [], ◌∷◌, length, if◌then◌else◌}
use Rattle.std.specs.Str.Parse.{digits_value}
use Rattle.gs_http.specs.declared.conditions.Since.{Since}
use Rattle.gs_http.specs.declared.conditions.Since.TheVariants.{Absent, Commit, Malformed}
use Rattle.gs_http.specs.Framing.{is_number}

-- 1 to 18 digits
abbrev pub is_commit_number : List ℕ → Bool
is_commit_number v = is_number v && nat_le (length v) 18

-- by the values of the field: none, one number, or anything else
abbrev pub since_of : List (List ℕ) → Since
since_of [] = Absent
since_of (v ∷ []) = if is_commit_number v then Commit (digits_value 10 v) else Malformed
since_of (v ∷ w ∷ vs) = Malformed
