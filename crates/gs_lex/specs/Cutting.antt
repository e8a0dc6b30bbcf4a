-- The tokens of a text that is at hand whole, one after the other.
use Rattle.std.specs.Prelude.{◌≡◌, ℕ, ◌-◌, ◌<◌, Bool, true, List, [], ◌∷◌, ◌++◌, length, drop}
use Rattle.gs_lex.specs.Tokens.{IsCut, CutEnd, AtEnd, AtFault, Lexeme}
use Rattle.gs_lex.specs.Lexemes.{lexeme_of_borrowed}
use Rattle.gs_lex.specs.Readings.{CutFrom, HasRead}
use Rattle.gs_lex.specs.declared.steps.Reading.{Reading}
use Rattle.gs_lex.specs.declared.texts.Next.{Next}
use Rattle.gs_lex.specs.declared.texts.Next.TheVariants as next

-- The tokens ts of the text x stand before the cut of a reading: with those of what is left, they are the tokens of x.
pub record HasCutOff (updates : Bool) (r : Reading) (x : List ℕ) (ts : List Lexeme) : Type 0 where
  pub reads : r.updates ≡ updates
  pub read : HasRead true r (drop r.cut x)
  pub rest : (us : List Lexeme) (e : CutEnd) → CutFrom r (drop r.cut x) us e → IsCut updates x (ts ++ us) e

-- After those tokens stands this one; or the text has no more of them, and ends so, and the reading stays there.
abbrev pub StandsNext : Bool → List ℕ → Reading → List Lexeme → Next → Type 0
StandsNext updates x r ts (next.Token t) = HasCutOff updates r x (ts ++ lexeme_of_borrowed t ∷ [])
StandsNext updates x r ts (next.Fault n) = HasCutOff updates r x ts × IsCut updates x ts (AtFault n)
StandsNext updates x r ts next.End = HasCutOff updates r x ts × IsCut updates x ts AtEnd

-- after whichever tokens stood before the cut, this stands next
abbrev pub CutsNext : List ℕ → Reading → Reading → Next → Type 0
CutsNext x from to n = (updates : Bool) (ts : List Lexeme) → HasCutOff updates from x ts → StandsNext updates x to ts n

-- how many bytes are left
abbrev pub bytes_left : List ℕ → Reading → ℕ
bytes_left x r = length x - r.cut

-- a token takes some of them; of a fault and of the end nothing is said
abbrev pub TakesSome : List ℕ → Reading → Reading → Next → Type 0
TakesSome x from to (next.Token t) = bytes_left x to < bytes_left x from
TakesSome x from to n = Unit {0}
