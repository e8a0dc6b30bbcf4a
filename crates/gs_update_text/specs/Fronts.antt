-- A list of tokens that is no update, by the grammar's rules alone: the operations of its longest prefix that is one.
use Rattle.std.specs.Prelude.{◌≡◌, ℕ, ◌≤◌, List, [], ◌∷◌, ◌++◌, length}
use Rattle.gs_lex.specs.Tokens.{Lexeme}
use Rattle.gs_lex.specs.declared.kinds.TokenKind.TheVariants as kind
use Rattle.gs_blank.specs.Numbers.{Numbers, no_numbers}
use Rattle.gs_triples.specs.Symbols.{Symbol, Foreign, symbols_of}
use Rattle.gs_update_text.specs.Requests.{Written}
use Rattle.gs_update_text.specs.Operations.{Scope}
use Rattle.gs_update_text.specs.Grammar.{AreOperations, first_scope}

-- These are the operations of a prefix of the tokens that is an update, and no longer prefix is one.
pub record AreLongestOperations (env : Scope) (n : Numbers) (ts : List Symbol) (os : List Written) : Type 0 where
  pub front : List Symbol
  pub after : List Symbol
  pub parts : ts ≡ front ++ after
  pub whole : AreOperations env n front os
  pub longest : (xs ys : List Symbol) (us : List Written) → ts ≡ xs ++ ys → AreOperations env n xs us → length xs ≤ length front

-- a text's tokens, under this base and in this request: the operations of the longest prefix that is an update
abbrev pub AreOperationsBeforeFault : List ℕ → ℕ → List Lexeme → List Written → Type 0
AreOperationsBeforeFault b r ts os = AreLongestOperations (first_scope b r) no_numbers (symbols_of ts) os

-- where the last closing brace of these tokens ends, after one that ends after n bytes
abbrev pub last_brace : ℕ → List Symbol → ℕ
last_brace n [] = n
last_brace n (Foreign kind.CloseBrace e ∷ ts) = last_brace e ts
last_brace n (t ∷ ts) = last_brace n ts
