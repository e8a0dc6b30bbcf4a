-- Lines of a message (RFC 9112, section 2.2): each ends in LF, before which CR may stand.
use Rattle.std.specs.Prelude.{ℕ, Bool, true, false, List, [], ◌∷◌, if◌then◌else◌, ◌==◌}
use Rattle.std.specs.List.{list_any}
use Rattle.httparse.specs.Grammar.{LineEnd, crlf, lf}
use Rattle.gs_model.specs.Characters.{line_feed, carriage_return}
use Rattle.gs_model.specs.Texts.{split_first}

-- the bytes before the first c, or all
abbrev pub before_byte : ℕ → List ℕ → List ℕ
before_byte c xs = (split_first c xs).0

-- the bytes after the first c, or none
abbrev pub after_byte : ℕ → List ℕ → List ℕ
after_byte c xs = (split_first c xs).1

-- a byte more at the front of the first line
abbrev pub put_first : ℕ → List (List ℕ) → List (List ℕ)
put_first c [] = (c ∷ []) ∷ []
put_first c (l ∷ ls) = (c ∷ l) ∷ ls

-- a text cut after each LF, the LF left out
abbrev pub lines : List ℕ → List (List ℕ)
lines [] = []
lines (c ∷ cs) = if c == line_feed then [] ∷ lines cs else put_first c (lines cs)

-- a line's text and its end
abbrev pub Line : Type 0
Line = List ℕ × LineEnd

-- a line without its LF, cut at its first CR
abbrev pub ended_line : List ℕ → Line
ended_line l = (before_byte carriage_return l, if list_any (λ c. c == carriage_return) l then crlf else lf)

-- the lines of a text
abbrev pub ended_lines : List (List ℕ) → List Line
ended_lines [] = []
ended_lines (l ∷ ls) = ended_line l ∷ ended_lines ls

-- no byte at all
abbrev pub has_no_byte : List ℕ → Bool
has_no_byte [] = true
has_no_byte (c ∷ cs) = false
