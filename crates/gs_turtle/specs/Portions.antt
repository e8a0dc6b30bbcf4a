-- What the tokens of a portion do to a parser.
use Rattle.std.specs.Prelude.{◌≡◌, ℕ, Bool, true, false, List, ◌++◌}
use Rattle.gs_model.specs.Triples.{RdfTriple}
use Rattle.gs_model.specs.declared.refusals.Refusal.{Refusal}
use Rattle.gs_model.specs.declared.refusals.Refusal.TheVariants as refusal
use Rattle.gs_machine.specs.Machines.{steps, rest}
use Rattle.gs_lex.specs.Tokens as lexer
use Rattle.gs_lex.specs.Tokens.{Lexeme, IsCut}
use Rattle.gs_automaton.specs.Scans.{MayFollow}
use Rattle.gs_lex.specs.Standing.{Awaits}
use Rattle.gs_lex.specs.Pieces.{LeadsPieces}
use Rattle.gs_lex.specs.declared.pieces.PieceLexer.{PieceLexer}
use Rattle.gs_model.specs.declared.faults.Fault.{Fault}
use Rattle.gs_model.specs.declared.faults.Fault.TheVariants as fault
use Rattle.gs_body.specs.Bodies.{Faulty, Meaning, Statement, all_stated, end_after}
use Rattle.gs_triples.specs.Symbols.{symbols_of}
use Rattle.gs_document.specs.States.{DocumentState}
use Rattle.gs_document.specs.Machine.{turtle}
use Rattle.gs_parse.specs.Views.{state_of}
use Rattle.gs_parse.specs.declared.parser.Parser.{Parser}
use Rattle.gs_turtle.specs.declared.portions.Stop.{Stop}
use Rattle.gs_turtle.specs.declared.portions.Stop.TheVariants as stop

-- the state after some tokens, and what they state
abbrev pub transition_of : Parser → List Lexeme → DocumentState × List Statement
transition_of p ts = steps turtle (state_of p) (symbols_of ts)

-- what the last tokens of a text state, and how it ends
abbrev pub end_of : Parser → List Lexeme → Meaning
end_of p ts = rest turtle (state_of p) (symbols_of ts)

-- the parser took these tokens, and the list grew by the triples that they state
pub record Takes (old new : Parser) (ts : List Lexeme) (before after : List RdfTriple) : Type 0 where
  pub state : state_of new ≡ (transition_of old ts).0
  pub given : after ≡ before ++ all_stated (transition_of old ts).1
  pub last : new.last ≡ end_after old.last (transition_of old ts).1

-- after the tokens ts all of the text x is read: it goes on, and the lexer was led there; or it ends
abbrev pub IsAllRead : Bool → PieceLexer → List ℕ → List Lexeme → Type 0
IsAllRead false l x ts = LeadsPieces false false l x ts × Awaits false x ts
IsAllRead true l x ts = IsCut false x ts lexer.AtEnd

-- after the tokens ts of the text x something stands that is none, however the text goes on
pub record BreaksAfterTokens (is_end : Bool) (x : List ℕ) (ts : List Lexeme) : Type 0 where
  pub place : ℕ
  pub cut : (y : List ℕ) → MayFollow is_end y → IsCut false (x ++ y) ts (lexer.AtFault place)

-- why no token comes after the tokens ts of the text x
abbrev pub StopsAfter : Bool → PieceLexer → List ℕ → List Lexeme → Stop → Type 0
StopsAfter is_end l x ts stop.Read = IsAllRead is_end l x ts
StopsAfter is_end l x ts stop.Fault = BreaksAfterTokens is_end x ts

-- The parser took the tokens that the lexer cut, which are the next ones of each text that led to it, up to where none comes.
pub record TakesAll (is_end : Bool) (l m : PieceLexer) (p q : Parser) (before after : List RdfTriple) (s : Stop) : Type 0 where
  pub lexemes : List Lexeme
  pub taken : Takes p q lexemes before after
  pub stops : (x : List ℕ) (ts : List Lexeme) → LeadsPieces is_end false l x ts → StopsAfter is_end m x (ts ++ lexemes) s

-- the refusal that reports a fault, where the last statement ends after so many bytes
abbrev pub refusal_of_fault : ℕ → Fault → Refusal
refusal_of_fault last fault.Syntax = refusal.Syntax last
refusal_of_fault last fault.TermTooLong = refusal.TermTooLong

-- what a refusal reports of the rest of a text, where the last statement before it ends after so many bytes
abbrev pub ReportsAfter : ℕ → Refusal → Meaning → Type 0
ReportsAfter last (refusal.Syntax at) r = (r.1 ≡ Faulty fault.Syntax) × (at ≡ end_after last r.0)
ReportsAfter last refusal.TermTooLong r = r.1 ≡ Faulty fault.TermTooLong
ReportsAfter last refusal.NoMemory r = Unit {0}
ReportsAfter last other r = ⊥
