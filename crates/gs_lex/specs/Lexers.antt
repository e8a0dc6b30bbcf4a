-- What a lexer has read of a text that comes in pieces.
use Rattle.std.specs.Prelude.{◌≡◌, ℕ, Bool, true, false, List, [], ◌∷◌, ◌++◌, Result, OnOk, IfErr}
use Rattle.std.specs.Str.{IsUtf8}
use Rattle.gs_machine.specs.Machines.{Begins}
use Rattle.gs_machine.specs.Utf8.{IsLongestFront}
use Rattle.gs_model.specs.declared.refusals.Refusal.{Refusal}
use Rattle.gs_model.specs.declared.refusals.Refusal.TheVariants.{NoMemory, Syntax, Closed}
use Rattle.gs_lex.specs.Tokens.{IsCut, CutEnd, AtEnd, AtFault, Lexeme, has_text}
use Rattle.gs_lex.specs.Lexemes.{lexemes_of}
use Rattle.gs_automaton.specs.Scans.{MayBecome}
use Rattle.gs_lex.specs.Readings.{CutFrom, Fails, HasRead, Waits}
use Rattle.gs_lex.specs.declared.readings.Halt.{Halt}
use Rattle.gs_lex.specs.declared.readings.Halt.TheVariants as halt
use Rattle.gs_lex.specs.declared.tokens.Token.{Token}
use Rattle.gs_lex.specs.declared.lexers.Lexer.{Lexer}

-- The lexer was fed the text x and gave the tokens ts: whatever x becomes, they are its first tokens, and the
-- others are those of what becomes of the bytes that are held. Before what is held stand whole characters.
pub record LeadsLexer (updates : Bool) (l : Lexer) (x : List ℕ) (ts : List Lexeme) : Type 0 where
  pub open_ : l.is_closed ≡ false
  pub reads : l.at.updates ≡ updates
  pub read : HasRead false l.at l.held.items
  pub before : List ℕ
  pub parts : x ≡ before ++ l.held.items
  pub characters : IsUtf8 before
  pub rest : (z : List ℕ) (us : List Lexeme) (e : CutEnd) → MayBecome false l.held.items z → CutFrom l.at z us e → IsCut updates (before ++ z) (ts ++ us) e

-- An earlier call was refused, and each later one is.
abbrev pub IsClosed : Lexer → Type 0
IsClosed l = l.is_closed ≡ true

-- what it has read stays
pub record IsUnchanged (old new : Lexer) : Type 0 where
  pub held : new.held.items ≡ old.held.items
  pub reading : new.at ≡ old.at
  pub closed : new.is_closed ≡ old.is_closed

-- these tokens were added to the list
abbrev pub AddsTokens : List Token → List Token → List Lexeme → Type 0
AddsTokens old new us = lexemes_of new ≡ lexemes_of old ++ us

-- the tokens of the text begin with these however it goes on
abbrev pub Stay : Bool → List ℕ → List Lexeme → Type 0
Stay updates x ts = (y : List ℕ) (us : List Lexeme) (e : CutEnd) → IsCut updates (x ++ y) us e → Begins us ts

-- and with no longer list do they all begin
pub record AreSettledTokens (updates : Bool) (x : List ℕ) (ts : List Lexeme) : Type 0 where
  pub stay : Stay updates x ts
  pub are_all : (more : List Lexeme) → Stay updates x more → Begins ts more

-- the tokens are none, or one of a kind that has a text
abbrev pub AreQuiet : List Lexeme → Type 0
AreQuiet [] = Unit {0}
AreQuiet (t ∷ []) = has_text t.kind ≡ true
AreQuiet (t ∷ (s ∷ ts)) = ⊥

-- the text may go on so that at most one token comes after these, of a kind that has a text (so it is no dot)
pub record MayGoQuietly (updates : Bool) (x : List ℕ) (ts : List Lexeme) : Type 0 where
  pub onward : List ℕ
  pub last : List Lexeme
  pub ending : CutEnd
  pub quiet : AreQuiet last
  pub cut : IsCut updates (x ++ onward) (ts ++ last) ending

-- A piece was read, and its tokens given: all that are settled by the longest prefix of the text so far that ends between
-- two characters, and that prefix may go on quietly.
pub record FeedsLexer (updates : Bool) (new : Lexer) (x : List ℕ) (ts : List Lexeme) (old_list new_list : List Token) : Type 0 where
  pub added : List Lexeme
  pub given : AddsTokens old_list new_list added
  pub leads : LeadsLexer updates new x (ts ++ added)
  pub settled : (front : List ℕ) → IsLongestFront x front → AreSettledTokens updates front (ts ++ added)
  pub quiet : (front : List ℕ) → IsLongestFront x front → MayGoQuietly updates front (ts ++ added)

-- the text has this fault, however it goes on; the tokens before it are given
pub record Breaks (updates : Bool) (x : List ℕ) (ts : List Lexeme) (at : ℕ) (old_list new_list : List Token) : Type 0 where
  pub added : List Lexeme
  pub given : AddsTokens old_list new_list added
  pub fault : (y : List ℕ) → IsCut updates (x ++ y) (ts ++ added) (AtFault at)

-- the whole text was read, and ends so; its last tokens are given
pub record FinishesLexer (updates : Bool) (x : List ℕ) (ts : List Lexeme) (e : CutEnd) (old_list new_list : List Token) : Type 0 where
  pub added : List Lexeme
  pub given : AddsTokens old_list new_list added
  pub cut : IsCut updates x (ts ++ added) e

-- how `feed` is refused, where the lexer was open
abbrev pub FeedRefused : Bool → List ℕ → List Lexeme → List Token → List Token → Refusal → Type 0
FeedRefused updates x ts old_list new_list NoMemory = Unit {0}
FeedRefused updates x ts old_list new_list (Syntax at) = Breaks updates x ts at old_list new_list
FeedRefused updates x ts old_list new_list _ = ⊥

-- how `finish` is refused, where the lexer was open
abbrev pub FinishRefused : Bool → List ℕ → List Lexeme → List Token → List Token → Refusal → Type 0
FinishRefused updates x ts old_list new_list NoMemory = Unit {0}
FinishRefused updates x ts old_list new_list (Syntax at) = FinishesLexer updates x ts (AtFault at) old_list new_list
FinishRefused updates x ts old_list new_list _ = ⊥

-- what a refusal leaves: a fault closes the lexer, and all else changes nothing
abbrev pub Leaves : Lexer → Lexer → List Token → List Token → Refusal → Type 0
Leaves old new old_list new_list (Syntax at) = IsClosed new
Leaves old new old_list new_list Closed = IsClosed old × IsUnchanged old new × (new_list ≡ old_list)
Leaves old new old_list new_list NoMemory = IsUnchanged old new × (new_list ≡ old_list)
Leaves old new old_list new_list _ = ⊥

-- the held text was cut, and what is left of it is held
pub record CutsHeld (old new : Lexer) (old_list new_list : List Token) (h : Halt) : Type 0 where
  pub added : List Lexeme
  pub given : AddsTokens old_list new_list added
  pub reads : new.at.updates ≡ old.at.updates
  pub read : HasRead false new.at new.held.items
  pub before : List ℕ
  pub parts : old.held.items ≡ before ++ new.held.items
  pub characters : IsUtf8 before
  pub cut : (z : List ℕ) (ts : List Lexeme) (e : CutEnd) → MayBecome false new.held.items z → CutFrom new.at z ts e → CutFrom old.at (before ++ z) (added ++ ts) e
  pub fails : h ≡ halt.Fault → Fails false new.at new.held.items
  pub waits : (h ≡ halt.Fault → ⊥) → Waits new.at.in_comment new.held.items new.at.scan

-- the held text was cut so, where what is read of it is as the reading says
abbrev pub CutsIfRead : Lexer → Lexer → List Token → List Token → Halt → Type 0
CutsIfRead old new old_list new_list h = HasRead false old.at old.held.items → CutsHeld old new old_list new_list h

-- `feed` reads a piece more of each text that led to the lexer
abbrev pub FeedReads : Lexer → Lexer → List ℕ → List Token → List Token → Result (Unit {0}) Refusal → Type 0
FeedReads old new piece old_list new_list result =
    (updates : Bool) (x : List ℕ) (ts : List Lexeme) → LeadsLexer updates old x ts
    → OnOk result (FeedsLexer updates new (x ++ piece) ts old_list new_list)

-- or is refused as that text wants
abbrev pub FeedFails : Lexer → List ℕ → List Token → List Token → Result (Unit {0}) Refusal → Type 0
FeedFails old piece old_list new_list result =
    (updates : Bool) (x : List ℕ) (ts : List Lexeme) → LeadsLexer updates old x ts
    → IfErr result (FeedRefused updates (x ++ piece) ts old_list new_list)

-- `finish` reads each text that led to the lexer to its end, and the lexer then stands at the start of another
abbrev pub FinishReads : Lexer → Lexer → List Token → List Token → Result (Unit {0}) Refusal → Type 0
FinishReads old new old_list new_list result =
    (updates : Bool) (x : List ℕ) (ts : List Lexeme) → LeadsLexer updates old x ts
    → OnOk result (FinishesLexer updates x ts AtEnd old_list new_list × LeadsLexer updates new [] [])

-- or is refused as that text wants
abbrev pub FinishFails : Lexer → List Token → List Token → Result (Unit {0}) Refusal → Type 0
FinishFails old old_list new_list result =
    (updates : Bool) (x : List ℕ) (ts : List Lexeme) → LeadsLexer updates old x ts
    → IfErr result (FinishRefused updates x ts old_list new_list)
