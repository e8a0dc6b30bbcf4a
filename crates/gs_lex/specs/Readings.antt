-- One step of reading a text: past white space or a comment, over a token, to a fault, or to the end of what is there.
use Rattle.std.specs.Prelude.{◌≡◌, ◌≢◌, ℕ, ◌+◌, ◌≤◌, ◌<◌, Bool, true, false, List, [], ◌∷◌, ◌++◌, length, take, drop}
use Rattle.std.specs.Str.{IsUtf8}
use Rattle.gs_model.specs.Characters.{number_sign}
use Rattle.gs_automaton.specs.Classes.{is_ws}
use Rattle.gs_lex.specs.Tokens.{Cut, Gap, Between, InComment, CutEnd, AtEnd, AtFault, Lexeme, lexeme_at, place_after}
use Rattle.gs_lex.specs.Lexemes.{lexemes_of}
use Rattle.gs_automaton.specs.Symbols.{IsShort}
use Rattle.gs_automaton.specs.Scans.{MayFollow, MayBecome, IsScanned, IsBarrenTo, fresh}
use Rattle.gs_lex.specs.declared.readings.Halt.{Halt}
use Rattle.gs_lex.specs.declared.readings.Halt.TheVariants as halt
use Rattle.gs_lex.specs.declared.kinds.TokenKind.{TokenKind}
use Rattle.gs_automaton.specs.declared.terminals.Terminal.{Terminal}
use Rattle.gs_automaton.specs.declared.states.State.TheVariants as at
use Rattle.gs_automaton.specs.declared.scans.Scan.{Scan}
use Rattle.gs_lex.specs.declared.steps.Reading.{Reading}
use Rattle.gs_lex.specs.declared.steps.Step.{Step}
use Rattle.gs_lex.specs.declared.steps.Step.TheVariants as step
use Rattle.gs_lex.specs.declared.tokens.Token.{Token}

-- in a comment, or between tokens
abbrev pub gap_of : Bool → Gap
gap_of true = InComment
gap_of false = Between

-- 1 for true, 0 for false
abbrev pub bit : Bool → ℕ
bit true = 1
bit false = 0

-- how the text is cut from where a reading stands
abbrev pub CutFrom : Reading → List ℕ → List Lexeme → CutEnd → Type 0
CutFrom r x ts e = Cut r.updates (gap_of r.in_comment) r.place r.last x ts e

-- the next token of x is read as far as the reading says, and what it has found barren is so
pub record HasRead (is_end : Bool) (r : Reading) (x : List ℕ) : Type 0 where
  pub scanned : IsScanned r.updates x r.scan
  pub barren : IsBarrenTo is_end r.updates x r.barren

-- the tokens of x are those after its first bytes, which are characters
pub record Passes (is_end : Bool) (r : Reading) (x : List ℕ) (count : ℕ) (in_comment : Bool) : Type 0 where
  pub cut : (z : List ℕ) (ts : List Lexeme) (e : CutEnd) → MayBecome is_end (drop count x) z
      → Cut r.updates (gap_of in_comment) (place_after r.place count) r.last z ts e → CutFrom r (take count x ++ z) ts e
  pub characters : IsUtf8 (take count x)

-- the tokens of x are a token of its first bytes, and those after it, where so much is barren
pub record FindsToken (is_end : Bool) (r : Reading) (x : List ℕ) (k : TokenKind) (count barren : ℕ) : Type 0 where
  pub cut : (z : List ℕ) (ts : List Lexeme) (e : CutEnd) → MayBecome is_end (drop count x) z
      → Cut r.updates Between (place_after r.place count) (place_after r.place count) z ts e → CutFrom r (take count x ++ z) (lexeme_at k r.place (take count x) ∷ ts) e
  pub characters : IsUtf8 (take count x)
  pub stays : IsBarrenTo is_end r.updates (drop count x) barren

-- x has a fault before its next token ends
pub record Fails (is_end : Bool) (r : Reading) (x : List ℕ) : Type 0 where
  pub cut : (y : List ℕ) → MayFollow is_end y → CutFrom r (x ++ y) [] (AtFault r.last)

-- neither white space nor a comment
pub record BeginsToken (x : List ℕ) : Type 0 where
  pub first : ℕ
  pub others : List ℕ
  pub parts : x ≡ first ∷ others
  pub no_space : is_ws first ≡ false
  pub no_hash : first ≢ number_sign

-- Why a reading waits at x: no whole character comes next, in a comment or between two tokens; or a token has begun, no
-- whole character comes after what is read of it, and some may go on with it.
pub data Waits (in_comment : Bool) (x : List ℕ) (s : Scan) : Type 0 where
  inside : in_comment ≡ true → IsShort x → Waits in_comment x s
  between : in_comment ≡ false → x ≡ [] → Waits in_comment x s
  begun : in_comment ≡ false → BeginsToken x → IsShort (drop s.len x) → ((t : Terminal) → s.state ≢ at.Ended t) → Waits in_comment x s

-- what a step says
abbrev pub StepFits : Bool → Reading → List ℕ → Step → Type 0
StepFits is_end r x (step.Passed count in_comment) = Passes is_end r x count in_comment
StepFits is_end r x (step.Found k count barren) = FindsToken is_end r x k count barren
StepFits is_end r x step.Fault = Fails is_end r x
StepFits is_end r x step.End = (is_end ≡ true) × CutFrom r x [] AtEnd
StepFits is_end r x (step.Wait s) = (is_end ≡ false) × (IsScanned r.updates x s × Waits r.in_comment x s)

-- the same, where what is read of x is as the reading says
abbrev pub StepFollows : Bool → Reading → List ℕ → Step → Type 0
StepFollows is_end r x s = HasRead is_end r x → StepFits is_end r x s

-- a step stays within the text, and goes on
abbrev pub StepMoves : Reading → List ℕ → Step → Type 0
StepMoves r x (step.Passed count in_comment) = (count ≤ length x) × (bit in_comment < count + count + bit r.in_comment)
StepMoves r x (step.Found k count barren) = (count ≤ length x) × (0 < count)
StepMoves r x step.Fault = Unit {0}
StepMoves r x step.End = Unit {0}
StepMoves r x (step.Wait s) = (s.len ≤ length x) × (s.best_len ≤ s.len)

-- the reading stands within the text
pub record IsWithin (r : Reading) (x : List ℕ) : Type 0 where
  pub cut : r.cut ≤ length x
  pub scan : r.cut + r.scan.len ≤ length x
  pub best : r.scan.best_len ≤ r.scan.len

-- the reading after so many bytes that are no part of a token
abbrev pub passed_of : Reading → ℕ → Bool → Reading
passed_of r count in_comment = record { updates = r.updates; in_comment = in_comment; cut = r.cut + count; place = place_after r.place count; last = r.last; barren = 0; scan = fresh r.updates }

-- the reading after a token of so many bytes, where so many bytes after it are barren
abbrev pub found_of : Reading → ℕ → ℕ → Reading
found_of r count barren = record { updates = r.updates; in_comment = false; cut = r.cut + count; place = place_after r.place count; last = place_after r.place count; barren = barren; scan = fresh r.updates }

-- Some tokens were added, and with those that come they are the tokens of the text; whole characters were passed.
pub record Went (is_end : Bool) (x : List ℕ) (from to : Reading) (old new : List Token) : Type 0 where
  pub added : List Lexeme
  pub given : lexemes_of new ≡ lexemes_of old ++ added
  pub before : List ℕ
  pub parts : drop from.cut x ≡ before ++ drop to.cut x
  pub characters : IsUtf8 before
  pub mode : to.updates ≡ from.updates
  pub read : HasRead is_end to (drop to.cut x)
  pub cut : (z : List ℕ) (ts : List Lexeme) (e : CutEnd) → MayBecome is_end (drop to.cut x) z → CutFrom to z ts e → CutFrom from (before ++ z) (added ++ ts) e

-- why the reading stopped
abbrev pub HasHalted : Bool → List ℕ → Reading → Halt → Type 0
HasHalted is_end x r halt.Fault = Fails is_end r (drop r.cut x)
HasHalted is_end x r halt.End = (is_end ≡ true) × CutFrom r (drop r.cut x) [] AtEnd
HasHalted is_end x r halt.Wait = (is_end ≡ false) × Waits r.in_comment (drop r.cut x) r.scan

-- tokens were added at most
pub record GrowsByTokens (old new : List Token) : Type 0 where
  pub more : List Token
  pub parts : new ≡ old ++ more

-- at the start of a text
abbrev pub reading_at_start : Bool → Reading
reading_at_start updates = record { updates = updates; in_comment = false; cut = 0; place = 0; last = 0; barren = 0; scan = fresh updates }

-- the token of so many bytes from the cut on was added
abbrev pub AddsToken : List ℕ → Reading → TokenKind → ℕ → List Token → List Token → Type 0
AddsToken x r k count old new = lexemes_of new ≡ lexemes_of old ++ lexeme_at k r.place (take count (drop r.cut x)) ∷ []

-- the reading stands within the text x, and where it began as it says, it went on and halted as it should
abbrev pub ReadsTo : Bool → List ℕ → Reading → List Token → List Token → Reading × Halt → Type 0
ReadsTo is_end x from old new r =
    IsWithin r.0 x × (HasRead is_end from (drop from.cut x) → Went is_end x from r.0 old new × HasHalted is_end x r.0 r.1)
