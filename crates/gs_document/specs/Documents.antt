-- Turtle's statements and documents (25 February 2014, section 6.5), each with exactly the tokens that it spans.
use Rattle.std.specs.Prelude.{◌≡◌, ℕ, List, [], ◌∷◌, ◌++◌, codes, Some}
use Rattle.gs_model.specs.Triples.{RdfTriple}
use Rattle.gs_lex.specs.Tokens.{Lexeme}
use Rattle.gs_blank.specs.Numbers.{Numbers, no_numbers}
use Rattle.gs_body.specs.Bodies.{Statement}
use Rattle.gs_triples.specs.Languages.{of_terms}
use Rattle.gs_triples.specs.Symbols.{Reference, Namespace, Symbol, ATerm, At, Dot, PrefixWord, BaseWord, symbols_of}
use Rattle.gs_triples.specs.Triples.{AreTriples}
use Rattle.gs_document.specs.Contexts.{TurtleContext}
use Rattle.gs_triples.specs.Directives.{without_prefixes, with_prefix, with_base}

-- a statement that ends there, with its triples; a directive has none
abbrev pub stated : ℕ → List RdfTriple → List Statement
stated end T = record { triples = T; end = end } ∷ []

-- [2] statement: what it states, and the context and the numbers for the next one
pub data IsStatement (env : TurtleContext) (n : Numbers) : List Symbol → List Statement → TurtleContext → Numbers → Type 0 where
  -- [4] prefixID
  prefix : {next : TurtleContext} (x p i : List ℕ) (e end : ℕ) → x ≡ codes "@prefix" → with_prefix env p i ≡ Some next
      → IsStatement env n (At x ∷ ATerm (Namespace p) ∷ ATerm (Reference i e) ∷ Dot end ∷ []) (stated end []) next n
  -- [5] base
  base : {next : TurtleContext} (x i : List ℕ) (e end : ℕ) → x ≡ codes "@base" → with_base env i ≡ Some next
      → IsStatement env n (At x ∷ ATerm (Reference i e) ∷ Dot end ∷ []) (stated end []) next n
  -- [6s] sparqlPrefix
  prefix_word : {next : TurtleContext} (p i : List ℕ) (end : ℕ) → with_prefix env p i ≡ Some next
      → IsStatement env n (PrefixWord ∷ ATerm (Namespace p) ∷ ATerm (Reference i end) ∷ []) (stated end []) next n
  -- [5s] sparqlBase
  base_word : {next : TurtleContext} (i : List ℕ) (end : ℕ) → with_base env i ≡ Some next
      → IsStatement env n (BaseWord ∷ ATerm (Reference i end) ∷ []) (stated end []) next n
  triples : {k : Numbers} {xs : List Symbol} {T : List RdfTriple} (end : ℕ) → AreTriples env n xs T k
      → IsStatement env n (xs ++ Dot end ∷ []) (stated end T) env k

-- [1] turtleDoc: statement after statement, each in the context that the ones before it leave; what they state, and the
-- context and the numbers that they leave
pub data AreStatements : TurtleContext → Numbers → List Symbol → List Statement → TurtleContext → Numbers → Type 0 where
  nothing : (env : TurtleContext) (n : Numbers) → AreStatements env n [] [] env n
  statement : {env next last : TurtleContext} {n k l : Numbers} {xs ys : List Symbol} {S R : List Statement}
      → IsStatement env n xs S next k → AreStatements next k ys R last l → AreStatements env n (xs ++ ys) (S ++ R) last l

-- no prefix is declared; triples are made of terms
abbrev pub start : List ℕ → ℕ → TurtleContext
start b r = without_prefixes of_terms b r

-- the tokens of a document, and the statements that it has under this base and in this request
abbrev pub IsDocument : List ℕ → ℕ → List Lexeme → List Statement → Type 0
IsDocument b r ts S = (last : TurtleContext) × (n : Numbers) × AreStatements (start b r) no_numbers (symbols_of ts) S last n
