-- What is cut of a text that comes in pieces, token by token.
use Rattle.std.specs.Prelude.{◌≡◌, ℕ, ◌+◌, ◌≤◌, ◌<◌, Bool, false, true, List, [], ◌∷◌, ◌++◌, length, take, drop}
use Rattle.std.specs.Str.{IsUtf8}
use Rattle.gs_machine.specs.Utf8.{IsLongestFront}
use Rattle.gs_lex.specs.Tokens.{IsCut, CutEnd, AtEnd, AtFault, Lexeme, lexeme_at}
use Rattle.gs_automaton.specs.Scans.{MayBecome, MayFollow}
use Rattle.gs_lex.specs.Readings.{CutFrom, HasRead}
use Rattle.gs_lex.specs.Cutting.{bytes_left}
use Rattle.gs_lex.specs.Lexers.{AreSettledTokens, MayGoQuietly}
use Rattle.gs_lex.specs.declared.steps.Reading.{Reading}
use Rattle.gs_lex.specs.declared.pieces.Span.{Span}
use Rattle.gs_lex.specs.declared.pieces.Advance.{Advance}
use Rattle.gs_lex.specs.declared.pieces.Advance.TheVariants as next

-- Of the text x these bytes are left where the reading stands, after the tokens ts and after whole characters: whatever
-- becomes of what is left, ts are the first tokens of the text, and the others are those of what becomes of it.
pub record StandsAfter (is_end updates : Bool) (r : Reading) (left x : List ℕ) (ts : List Lexeme) : Type 0 where
  pub reads : r.updates ≡ updates
  pub read : HasRead is_end r left
  pub before : List ℕ
  pub parts : x ≡ before ++ left
  pub characters : IsUtf8 before
  pub rest : (z : List ℕ) (us : List Lexeme) (e : CutEnd) → MayBecome is_end left z → CutFrom r z us e → IsCut updates (before ++ z) (ts ++ us) e

-- the span is of bytes of x
abbrev pub IsSpanWithin : Span → List ℕ → Type 0
IsSpanWithin s x = s.from + s.count ≤ length x

-- the token of a span of x
abbrev pub lexeme_in : List ℕ → Span → Lexeme
lexeme_in x s = lexeme_at s.kind s.start (take s.count (drop s.from x))

-- The text x goes on, and after the tokens ts no token comes that it cannot change: of the longest prefix of x that ends
-- between two characters, all settled tokens are ts, and that prefix may go on quietly.
pub record Awaits (updates : Bool) (x : List ℕ) (ts : List Lexeme) : Type 0 where
  pub settled : (front : List ℕ) → IsLongestFront x front → AreSettledTokens updates front ts
  pub quiet : (front : List ℕ) → IsLongestFront x front → MayGoQuietly updates front ts

-- The token t comes after the tokens ts of the text x, and the reading stands after it; or it stands where the text goes
-- on, or ends, or has a fault, however it goes on.
abbrev pub ComesNext : Bool → Bool → Reading → List ℕ → List ℕ → List Lexeme → Lexeme → Advance → Type 0
ComesNext is_end updates r left x ts t next.Token = StandsAfter is_end updates r left x (ts ++ t ∷ [])
ComesNext is_end updates r left x ts t next.Wait = (is_end ≡ false) × (StandsAfter is_end updates r left x ts × Awaits updates x ts)
ComesNext is_end updates r left x ts t next.End = (is_end ≡ true) × IsCut updates x ts AtEnd
ComesNext is_end updates r left x ts t (next.Fault n) = (y : List ℕ) → MayFollow is_end y → IsCut updates (x ++ y) ts (AtFault n)

-- of each text of which the bytes at hand are what is left
abbrev pub CutsAhead : Bool → List ℕ → Reading → Reading → Span → Advance → Type 0
CutsAhead is_end at_hand from to s n =
    (updates : Bool) (x : List ℕ) (ts : List Lexeme) → StandsAfter is_end updates from (drop from.cut at_hand) x ts
    → ComesNext is_end updates to (drop to.cut at_hand) x ts (lexeme_in at_hand s) n

-- a token takes some of the bytes that are left; of all else nothing is said
abbrev pub TakesSome : List ℕ → Reading → Reading → Advance → Type 0
TakesSome x from to next.Token = bytes_left x to < bytes_left x from
TakesSome x from to n = Unit {0}
