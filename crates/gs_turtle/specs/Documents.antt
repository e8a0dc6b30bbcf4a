-- What a body of Turtle says (25 February 2014, section 6.5): the statements of its tokens, up to the first fault.
use Rattle.std.specs.Prelude.{◌≡◌, ℕ, false, List}
use Rattle.gs_lex.specs.Tokens as lexer
use Rattle.gs_lex.specs.Tokens.{IsCut, Lexeme}
use Rattle.gs_lex.specs.Cuts.{cut_of_text}
use Rattle.gs_model.specs.declared.faults.Fault.TheVariants as fault
use Rattle.gs_body.specs.Bodies.{Meaning, Statement, Whole, Faulty}
use Rattle.gs_document.specs.Documents.{IsDocument}
use Rattle.gs_document.specs.Program.{document}

-- After the tokens the text ends, or has a fault that is none of theirs: no token, or no character.
abbrev pub ended_by : lexer.CutEnd → Meaning → Meaning
ended_by lexer.AtEnd d = d
ended_by (lexer.AtFault n) (ss, Whole) = (ss, Faulty fault.Syntax)
ended_by (lexer.AtFault n) (ss, Faulty f) = (ss, Faulty f)

-- what a text says under the base b in the request r
unfoldable pub meaning_by : List ℕ → ℕ → List ℕ → Meaning
meaning_by b r x = let c = cut_of_text false x in ended_by c.1 (document b r c.0)

-- the text has no fault, and says these statements
abbrev pub SaysWhole : List ℕ → ℕ → List ℕ → List Statement → Type 0
SaysWhole b r x S = meaning_by b r x ≡ (S, Whole)

-- The text x is cut into the tokens of a document that has these statements under the base b in the request r.
pub record IsBody (b : List ℕ) (r : ℕ) (x : List ℕ) (statements : List Statement) : Type 0 where
  pub lexemes : List Lexeme
  pub cut : IsCut false x lexemes lexer.AtEnd
  pub stated : IsDocument b r lexemes statements
