-- Parts of a field's value (RFC 9110, sections 5.6.1 and 5.6.6).
use Rattle.std.specs.Prelude.{ℕ, ◌+◌, Bool, List, take, drop, ◌==◌}
use Rattle.std.specs.List.{position_or_len, slice_split}
use Rattle.std.specs.Str.{str_eq_ignore_ascii_case}
use Rattle.httparse.specs.Grammar.{trim_ows}
use Rattle.gs_model.specs.Punctuation.{semicolon}

-- where the first c is, or the length
abbrev pub position_of : ℕ → List ℕ → ℕ
position_of c v = position_or_len (λ b. b == c) v

-- the bytes before the first c, without the white space around them
abbrev pub front_word : ℕ → List ℕ → List ℕ
front_word c v = trim_ows (take (position_of c v) v)

-- the bytes after the first c, without the white space around them
abbrev pub back_word : ℕ → List ℕ → List ℕ
back_word c v = trim_ows (drop (position_of c v + 1) v)

-- the same word, in any case
abbrev pub is_same_word : List ℕ → List ℕ → Bool
is_same_word = str_eq_ignore_ascii_case

-- what stands between semicolons: the value itself, and then its parameters
abbrev pub semicolon_parts : List ℕ → List (List ℕ)
semicolon_parts v = slice_split (λ b. b == semicolon) v
