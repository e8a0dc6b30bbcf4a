-- The reader of Turtle as a plain program on a whole list of tokens.
use Rattle.std.specs.Prelude.{ℕ, zero, suc, if◌then◌else◌, List, [], ◌∷◌, ◌++◌, length, codes, bytes_eq, Option, Some, None, Result, Ok, Err}
use Rattle.gs_model.specs.Triples.{RdfTriple}
use Rattle.gs_lex.specs.Tokens.{Lexeme}
use Rattle.gs_blank.specs.Numbers.{Numbers, no_numbers}
use Rattle.gs_body.specs.Bodies.{Meaning, Statement, Whole, Faulty}
use Rattle.gs_model.specs.Terms.{Term}
use Rattle.gs_triples.specs.Symbols.{Reference, Namespace, Symbol, ATerm, At, Dot, PrefixWord, BaseWord, symbols_of}
use Rattle.gs_triples.specs.Meanings.{Fault, Syntax}
use Rattle.gs_triples.specs.Reading.{Got, ◌and_then◌}
use Rattle.gs_triples.specs.Program.{triples_at}
use Rattle.gs_document.specs.Contexts.{TurtleContext}
use Rattle.gs_triples.specs.Directives.{with_prefix, with_base}
use Rattle.gs_document.specs.Documents.{stated, start}

-- what a statement states, what it leaves, and the tokens after it
pub record ReadStatement : Type 0 where
  pub stated : List Statement
  pub context : TurtleContext
  pub numbers : Numbers
  pub rest : List Symbol

-- what a statement gives, where its context is right
abbrev pub read_statement : List Statement → Numbers → List Symbol → Option TurtleContext → Result ReadStatement Fault
read_statement S n ts None = Err Syntax
read_statement S n ts (Some env) = Ok (record { stated = S; context = env; numbers = n; rest = ts })

-- triples up to their dot
abbrev pub ends_at : TurtleContext → List RdfTriple → Numbers → List Symbol → Result ReadStatement Fault
ends_at env T n (Dot e ∷ ts) = read_statement (stated e T) n ts (Some env)
ends_at env T n _ = Err Syntax

-- the '.' of a statement
abbrev pub dotted : TurtleContext → Got Term RdfTriple → Result ReadStatement Fault
dotted env g = ends_at env g.triples g.numbers g.rest

-- after '@prefix'
abbrev pub prefix_at : TurtleContext → Numbers → List Symbol → Result ReadStatement Fault
prefix_at env n (ATerm (Namespace p) ∷ ATerm (Reference i k) ∷ Dot e ∷ ts) = read_statement (stated e []) n ts (with_prefix env p i)
prefix_at env n _ = Err Syntax

-- after '@base'
abbrev pub base_at : TurtleContext → Numbers → List Symbol → Result ReadStatement Fault
base_at env n (ATerm (Reference i k) ∷ Dot e ∷ ts) = read_statement (stated e []) n ts (with_base env i)
base_at env n _ = Err Syntax

-- [2] statement
unfoldable pub statement_at : TurtleContext → Numbers → List Symbol → Result ReadStatement Fault
statement_at env n (At x ∷ ts) =
    if bytes_eq x (codes "@prefix") then prefix_at env n ts else if bytes_eq x (codes "@base") then base_at env n ts else Err Syntax
statement_at env n (PrefixWord ∷ ATerm (Namespace p) ∷ ATerm (Reference i e) ∷ ts) = read_statement (stated e []) n ts (with_prefix env p i)
statement_at env n (PrefixWord ∷ _) = Err Syntax
statement_at env n (BaseWord ∷ ATerm (Reference i e) ∷ ts) = read_statement (stated e []) n ts (with_base env i)
statement_at env n (BaseWord ∷ _) = Err Syntax
statement_at env n ts = triples_at env n ts and_then dotted env

-- what a statement states, before what the rest says
abbrev pub followed : (TurtleContext → Numbers → List Symbol → Meaning) → Result ReadStatement Fault → Meaning
followed rest (Err e) = ([], Faulty e)
followed rest (Ok r) = (r.stated ++ (rest r.context r.numbers r.rest).0, (rest r.context r.numbers r.rest).1)

-- [1] turtleDoc: what the statements before the first fault state, and how the text ends, in at most so many statements
unfoldable pub statements_at : ℕ → TurtleContext → Numbers → List Symbol → Meaning
statements_at f env n [] = ([], Whole)
statements_at zero env n (t ∷ ts) = ([], Faulty Syntax)
statements_at (suc f) env n (t ∷ ts) = followed (statements_at f) (statement_at env n (t ∷ ts))

-- what a document says under this base and in this request
abbrev pub document : List ℕ → ℕ → List Lexeme → Meaning
document b r ts = statements_at (length ts) (start b r) no_numbers (symbols_of ts)
