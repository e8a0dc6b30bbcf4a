-- A list of tokens that is no document, by the grammar's rules alone: the statements of its longest prefix.
use Rattle.std.specs.Prelude.{◌≡◌, ℕ, ◌≤◌, List, ◌++◌, length}
use Rattle.gs_lex.specs.Tokens.{Lexeme}
use Rattle.gs_blank.specs.Numbers.{Numbers, no_numbers}
use Rattle.gs_body.specs.Bodies.{Statement}
use Rattle.gs_triples.specs.Symbols.{Symbol, symbols_of}
use Rattle.gs_document.specs.Contexts.{TurtleContext}
use Rattle.gs_document.specs.Documents.{IsStatement, AreStatements, start}

-- no statement begins these tokens, in this context and with these numbers
abbrev pub NoStatement : TurtleContext → Numbers → List Symbol → Type 0
NoStatement env n ts =
    (xs ys : List Symbol) (S : List Statement) (next : TurtleContext) (k : Numbers) → ts ≡ xs ++ ys → IsStatement env n xs S next k → ⊥

-- These are the statements of a prefix of the tokens. No statement begins after it, in the context that it leaves, and so
-- no longer prefix is whole statements.
pub record AreLongest (env : TurtleContext) (n : Numbers) (ts : List Symbol) (S : List Statement) : Type 0 where
  pub front : List Symbol
  pub after : List Symbol
  pub parts : ts ≡ front ++ after
  pub last : TurtleContext
  pub numbers : Numbers
  pub whole : AreStatements env n front S last numbers
  pub stops : NoStatement last numbers after
  pub longest : (xs ys : List Symbol) (R : List Statement) (next : TurtleContext) (k : Numbers)
      → ts ≡ xs ++ ys → AreStatements env n xs R next k → length xs ≤ length front

-- a text's tokens, under this base and in this request: the statements of the longest prefix that has any
abbrev pub AreBeforeFault : List ℕ → ℕ → List Lexeme → List Statement → Type 0
AreBeforeFault b r ts S = AreLongest (start b r) no_numbers (symbols_of ts) S
