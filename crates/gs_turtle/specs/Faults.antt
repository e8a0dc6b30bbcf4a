-- What a body with a fault says, by the rules of tokens and of the grammar alone (25 February 2014, section 6).
use Rattle.std.specs.Prelude.{◌≡◌, ℕ, ◌≤◌, false, List, [], ◌∷◌, ◌++◌, length}
use Rattle.std.specs.List.{All}
use Rattle.gs_lex.specs.Tokens as lexer
use Rattle.gs_lex.specs.Tokens.{IsCut, Lexeme}
use Rattle.gs_model.specs.declared.faults.Fault.{Fault}
use Rattle.gs_body.specs.Bodies.{Statement, Faulty, end_after}
use Rattle.gs_document.specs.Documents.{IsDocument}
use Rattle.gs_document.specs.Fronts.{AreBeforeFault}
use Rattle.gs_turtle.specs.Documents.{IsBody, meaning_by}

-- where the last of these tokens ends, after one that ends after n bytes
abbrev pub last_end : ℕ → List Lexeme → ℕ
last_end n [] = n
last_end n (t ∷ ts) = last_end t.«end» ts

-- how many bytes stand, at least, before the end of a text or before its first place where no token begins
abbrev pub bytes_before : List ℕ → lexer.CutEnd → ℕ
bytes_before x lexer.AtEnd = length x
bytes_before x (lexer.AtFault n) = n

-- The text x is no body with these statements. It is cut into tokens, up to its first place where none begins or to its
-- end, and the longest prefix of them that is whole statements has these. The last token of that prefix ends where the last
-- statement does, before every token after it, and before that place.
pub record IsFaultyAfter (b : List ℕ) (r : ℕ) (x : List ℕ) (statements : List Statement) : Type 0 where
  pub front : List Lexeme
  pub after : List Lexeme
  pub ending : lexer.CutEnd
  pub cut : IsCut false x (front ++ after) ending
  pub whole : IsDocument b r front statements
  pub longest : AreBeforeFault b r (front ++ after) statements
  pub faulty : IsBody b r x statements → ⊥
  pub place : end_after 0 statements ≡ last_end 0 front
  pub before_rest : All (λ t. end_after 0 statements ≤ t.start) after
  pub before_fault : end_after 0 statements ≤ bytes_before x ending
  pub within : end_after 0 statements ≤ length x

-- the text has a fault, and says these statements before it
abbrev pub SaysUpTo : List ℕ → ℕ → List ℕ → List Statement → Type 0
SaysUpTo b r x S = (f : Fault) × (meaning_by b r x ≡ (S, Faulty f))

-- the text breaks the grammar after so many bytes: where the last statement before its fault ends, or 0
pub record BreaksAfter (b : List ℕ) (r : ℕ) (x : List ℕ) (at : ℕ) : Type 0 where
  pub statements : List Statement
  pub before : IsFaultyAfter b r x statements
  pub end : at ≡ end_after 0 statements
