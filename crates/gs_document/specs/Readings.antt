-- What the program and the machine read of a document, beside the rules.
use Rattle.std.specs.Prelude.{◌≡◌, ◌↔◌, ℕ, List}
use Rattle.gs_model.specs.declared.faults.Fault.{Fault}
use Rattle.gs_lex.specs.Tokens.{Lexeme}
use Rattle.gs_machine.specs.Machines.{rest}
use Rattle.gs_blank.specs.Numbers.{no_numbers}
use Rattle.gs_body.specs.Bodies.{Statement, IsBroken, end_after, Whole, Faulty}
use Rattle.gs_triples.specs.Symbols.{symbols_of}
use Rattle.gs_document.specs.Documents.{IsDocument, start}
use Rattle.gs_document.specs.Fronts.{AreBeforeFault}
use Rattle.gs_document.specs.Program.{document}
use Rattle.gs_document.specs.States.{Between}
use Rattle.gs_document.specs.Machine.{turtle}

-- the program finds exactly the documents that the rules give
abbrev pub FindsDocuments : List ℕ → ℕ → List Lexeme → Type 0
FindsDocuments b r ts = (S : List Statement) → (IsDocument b r ts S ↔ (document b r ts ≡ (S, Whole)))

-- the rules give these tokens at most one list of statements
abbrev pub HasOneMeaning : List ℕ → ℕ → List Lexeme → Type 0
HasOneMeaning b r ts = (S R : List Statement) → IsDocument b r ts S → IsDocument b r ts R → S ≡ R

-- the machine, symbol by symbol, reports what the program says
abbrev pub ReportsDocument : List ℕ → ℕ → List Lexeme → Type 0
ReportsDocument b r ts = rest turtle (Between (start b r) no_numbers) (symbols_of ts) ≡ document b r ts

-- before a fault stand the statements of the longest prefix that has any
abbrev pub StopsAtFront : List ℕ → ℕ → List Lexeme → Type 0
StopsAtFront b r ts = (S : List Statement) (fault : Fault) → document b r ts ≡ (S, Faulty fault) → AreBeforeFault b r ts S

-- a broken text's fault is placed at the end of the last statement before it
abbrev pub PlacesFault : List ℕ → ℕ → List Lexeme → Type 0
PlacesFault b r ts =
    (S : List Statement) (fault : Fault) (at : ℕ)
    → document b r ts ≡ (S, Faulty fault) → IsBroken (document b r ts) at → at ≡ end_after 0 S
