-- What the text of an update says (SPARQL 1.1 Update, 21 March 2013, by the rules of SPARQL 1.1 Query, section 19.8): the
-- operations of its tokens, up to the first departure.
use Rattle.std.specs.Prelude.{◌≡◌, ℕ, true, List, Some, None}
use Rattle.gs_lex.specs.Tokens as lexer
use Rattle.gs_lex.specs.Tokens.{IsCut, Lexeme}
use Rattle.gs_lex.specs.Cuts.{cut_of_text}
use Rattle.gs_triples.specs.Meanings.{Fault, Syntax}
use Rattle.gs_update_text.specs.Requests.{Broken, Written, UpdateRequest, end_of_last}
use Rattle.gs_update_text.specs.Grammar.{IsUpdate}
use Rattle.gs_update_text.specs.Fronts.{AreOperationsBeforeFault, last_brace}
use Rattle.gs_update_text.specs.Profile.{LeavesProfile}
use Rattle.gs_update_text.specs.Machine.{request_of}

-- After the tokens the text ends, or goes on with no token or no character, which breaks the grammar.
abbrev pub request_ended_by : lexer.CutEnd → UpdateRequest → UpdateRequest
request_ended_by lexer.AtEnd q = q
request_ended_by (lexer.AtFault n) (os, None) = (os, Some (Broken Syntax))
request_ended_by (lexer.AtFault n) (os, Some e) = (os, Some e)

-- what a text says under the base b in the request r
unfoldable pub request_by : List ℕ → ℕ → List ℕ → UpdateRequest
request_by b r x = let c = cut_of_text true x in request_ended_by c.1 (request_of b r c.0)

-- the text says these operations, and has a fault after them
abbrev pub SaysBroken : List ℕ → ℕ → List ℕ → List Written → Type 0
SaysBroken b r x os = (f : Fault) × (request_by b r x ≡ (os, Some (Broken f)))

-- The text x is cut into the tokens of an update that has these operations under the base b in the request r.
pub record IsUpdateText (b : List ℕ) (r : ℕ) (x : List ℕ) (operations : List Written) : Type 0 where
  pub lexemes : List Lexeme
  pub cut : IsCut true x lexemes lexer.AtEnd
  pub stated : IsUpdate b r lexemes operations

-- The tokens of the text x, up to its first place where none begins or to its end, leave what is served after these
-- operations.
pub record LeavesText (b : List ℕ) (r : ℕ) (x : List ℕ) (operations : List Written) : Type 0 where
  pub lexemes : List Lexeme
  pub ending : lexer.CutEnd
  pub cut : IsCut true x lexemes ending
  pub leaves : LeavesProfile b r lexemes operations

-- The text x is no update, and does not leave what is served. The longest prefix of its tokens that is an update has these
-- operations.
pub record IsBrokenAfter (b : List ℕ) (r : ℕ) (x : List ℕ) (operations : List Written) : Type 0 where
  pub lexemes : List Lexeme
  pub ending : lexer.CutEnd
  pub cut : IsCut true x lexemes ending
  pub longest : AreOperationsBeforeFault b r lexemes operations
  pub no_update : (os : List Written) → IsUpdateText b r x os → ⊥
  pub served : (os : List Written) → LeavesText b r x os → ⊥

-- The text breaks the grammar after so many bytes: where the last operation before its fault ends, with the last closing
-- brace of that prefix, or at 0.
pub record BreaksUpdate (b : List ℕ) (r : ℕ) (x : List ℕ) (at : ℕ) : Type 0 where
  pub operations : List Written
  pub before : IsBrokenAfter b r x operations
  pub end : at ≡ end_of_last 0 operations
  pub brace : at ≡ last_brace 0 before.longest.front
