-- Where a reader stands in a text, and what its steps do.
use Rattle.std.specs.Prelude.{◌≡◌, false, ℕ, List, ◌++◌, string_bytes}
use Rattle.gs_model.specs.Triples.{RdfTriple}
use Rattle.gs_model.specs.declared.refusals.Refusal.{Refusal}
use Rattle.gs_machine.specs.Machines.{AreSettled}
use Rattle.gs_machine.specs.Utf8.{IsLongestFront}
use Rattle.gs_blank.specs.Numbers.{no_numbers}
use Rattle.gs_lex.specs.Tokens.{Lexeme}
use Rattle.gs_lex.specs.Pieces.{LeadsPieces}
use Rattle.gs_body.specs.Bodies.{Meaning, Reports, all_stated}
use Rattle.gs_body.specs.Leading.{IsLed}
use Rattle.gs_triples.specs.Symbols.{symbols_of}
use Rattle.gs_document.specs.Documents.{start}
use Rattle.gs_document.specs.States.{DocumentState, Between}
use Rattle.gs_document.specs.Machine.{turtle}
use Rattle.gs_parse.specs.Views.{state_of}
use Rattle.gs_turtle.specs.Documents.{meaning_by}
use Rattle.gs_turtle.specs.declared.readers.TurtleReader.{TurtleReader}

-- at the start of a text
abbrev pub unread : TurtleReader → DocumentState
unread r = Between (start (string_bytes r.base) r.request) no_numbers

-- The text x leads a new reader to this one: its lexer has cut these tokens of x, and they lead its parser there,
-- and to having given the triples ts.
pub record IsLedBy (reader : TurtleReader) (x : List ℕ) (ts : List RdfTriple) : Type 0 where
  pub lexemes : List Lexeme
  pub lexed : LeadsPieces false false reader.lexer x lexemes
  pub parsed : IsLed turtle (unread reader) (state_of reader.parser) reader.parser.last (symbols_of lexemes) ts

-- what a whole text says
abbrev pub meaning_for : TurtleReader → List ℕ → Meaning
meaning_for r x = meaning_by (string_bytes r.base) r.request x

-- the reader is for the same request under the same base, and no more and no less closed
pub record KeepsReader (old new : TurtleReader) : Type 0 where
  pub base : string_bytes new.base ≡ string_bytes old.base
  pub request : new.request ≡ old.request
  pub closed : new.is_closed ≡ old.is_closed

-- a piece leads a reader on, and the list grew by the triples that it gives
pub record PieceLeadsOn (old new : TurtleReader) (piece : List ℕ) (before after : List RdfTriple) : Type 0 where
  pub given : List RdfTriple
  pub grown : after ≡ before ++ given
  pub leads : (x : List ℕ) (ts : List RdfTriple) → IsLedBy old x ts → IsLedBy new (x ++ piece) (ts ++ given)

-- and those of all complete statements are given, of the longest prefix of the text so far that ends between two characters
pub record Reads (old new : TurtleReader) (piece : List ℕ) (before after : List RdfTriple) : Type 0 where
  pub goes : PieceLeadsOn old new piece before after
  pub settled : (x : List ℕ) (ts : List RdfTriple) → IsLedBy old x ts → (front : List ℕ) → IsLongestFront (x ++ piece) front
      → AreSettled (λ z. all_stated (meaning_for old z).0) front (ts ++ goes.given)

-- the piece has this fault, however the text goes on
abbrev pub IsRefused : TurtleReader → List ℕ → Refusal → Type 0
IsRefused old piece e = (x : List ℕ) (ts : List RdfTriple) → IsLedBy old x ts → (y : List ℕ) → Reports e (meaning_for old (x ++ piece ++ y))

-- the text ends and has this fault
abbrev pub IsRefusedAtEnd : TurtleReader → Refusal → Type 0
IsRefusedAtEnd old e = (x : List ℕ) (ts : List RdfTriple) → IsLedBy old x ts → Reports e (meaning_for old x)
