-- The reader of updates as a machine that takes symbol by symbol.
use Rattle.std.specs.Prelude.{ℕ, List, [], ◌∷◌, Option, Some, None}
use Rattle.gs_machine.specs.Machines.{Machine, rest}
use Rattle.gs_lex.specs.Tokens.{Lexeme}
use Rattle.gs_lex.specs.declared.kinds.TokenKind.{TokenKind}
use Rattle.gs_lex.specs.declared.kinds.TokenKind.TheVariants as kind
use Rattle.gs_blank.specs.Numbers.{Numbers, no_numbers}
use Rattle.gs_triples.specs.Symbols.{Symbol, ATerm, Reference, Namespace, Semicolon, PrefixWord, BaseWord, Foreign, symbols_of}
use Rattle.gs_triples.specs.Meanings.{Syntax}
use Rattle.gs_triples.specs.Directives.{with_prefix, with_base}
use Rattle.gs_update_text.specs.Requests.{Rejection, Broken, OutOfProfile, Written, UpdateRequest}
use Rattle.gs_update_text.specs.Operations.{Scope}
use Rattle.gs_update_text.specs.Grammar.{first_scope}
use Rattle.gs_update_text.specs.Blocks.{BlockState, BlockTurn, Takes, Shuts, Stops, block_step, block_ended}
use Rattle.gs_update_text.specs.States.{Form, InsertData, DeleteData, DeleteWhere, UpdateState, Between, InPrefix, InPrefixIri, InBase, AfterInsert, AfterDelete, AtBrace, InData, InWhere, After, Rejected, block_of, UpdateStep, quiet}

-- a broken grammar
abbrev pub syntax_fault : UpdateState
syntax_fault = Rejected (Broken Syntax)

-- the context that a directive leaves
abbrev pub prefaced : Numbers → Option Scope → UpdateState
prefaced n None = syntax_fault
prefaced n (Some env) = Between env n

-- a word where an operation may begin; the operations of other forms are not served
abbrev pub begun : TokenKind → Scope → Numbers → UpdateState
begun kind.Insert env n = AfterInsert env n
begun kind.Delete env n = AfterDelete env n
begun kind.Load env n = Rejected OutOfProfile
begun kind.Clear env n = Rejected OutOfProfile
begun kind.Drop env n = Rejected OutOfProfile
begun kind.Create env n = Rejected OutOfProfile
begun kind.Add env n = Rejected OutOfProfile
begun kind.Move env n = Rejected OutOfProfile
begun kind.Copy env n = Rejected OutOfProfile
begun kind.With env n = Rejected OutOfProfile
begun k env n = syntax_fault

-- after INSERT; templates are not served
abbrev pub inserting : TokenKind → Scope → Numbers → UpdateState
inserting kind.Data env n = AtBrace InsertData env n
inserting kind.OpenBrace env n = Rejected OutOfProfile
inserting k env n = syntax_fault

-- after DELETE
abbrev pub deleting : TokenKind → Scope → Numbers → UpdateState
deleting kind.Data env n = AtBrace DeleteData env n
deleting kind.Where env n = AtBrace DeleteWhere env n
deleting kind.OpenBrace env n = Rejected OutOfProfile
deleting k env n = syntax_fault

-- the opening brace
abbrev pub opened : Form → TokenKind → Scope → Numbers → UpdateState
opened f kind.OpenBrace env n = block_of f env n
opened f k env n = syntax_fault

module _ {Value Triple : Type 0} where
  -- a symbol in a block
  abbrev pub blocked : (BlockState Value Triple → UpdateState) → Scope → BlockTurn Value Triple → UpdateStep
  blocked inside env (Takes s) = quiet (inside s)
  blocked inside env (Shuts o n e) = (After env n, record { operation = o; end = e } ∷ [])
  blocked inside env (Stops r) = quiet (Rejected r)

-- one symbol more
unfoldable pub step : UpdateState → Symbol → UpdateStep
step (Between env n) PrefixWord = quiet (InPrefix env n)
step (Between env n) BaseWord = quiet (InBase env n)
step (Between env n) (Foreign k e) = quiet (begun k env n)
step (Between env n) t = quiet syntax_fault
step (InPrefix env n) (ATerm (Namespace p)) = quiet (InPrefixIri p env n)
step (InPrefix env n) t = quiet syntax_fault
step (InPrefixIri p env n) (ATerm (Reference i e)) = quiet (prefaced n (with_prefix env p i))
step (InPrefixIri p env n) t = quiet syntax_fault
step (InBase env n) (ATerm (Reference i e)) = quiet (prefaced n (with_base env i))
step (InBase env n) t = quiet syntax_fault
step (AfterInsert env n) (Foreign k e) = quiet (inserting k env n)
step (AfterInsert env n) t = quiet syntax_fault
step (AfterDelete env n) (Foreign k e) = quiet (deleting k env n)
step (AfterDelete env n) t = quiet syntax_fault
step (AtBrace f env n) (Foreign k e) = quiet (opened f k env n)
step (AtBrace f env n) t = quiet syntax_fault
step (InData b env s) t = blocked (InData b env) env (block_step b s t)
step (InWhere b env s) t = blocked (InWhere b env) env (block_step b s t)
step (After env n) Semicolon = quiet (Between env n)
step (After env n) t = quiet syntax_fault
step (Rejected r) t = quiet (Rejected r)

-- the departure of a text that ends there, if it is no update
unfoldable pub ended : UpdateState → Option Rejection
ended (Between env n) = None
ended (After env n) = None
ended (InData b env s) = Some (block_ended b s)
ended (InWhere b env s) = Some (block_ended b s)
ended (Rejected r) = Some r
ended s = Some (Broken Syntax)

-- the reader: symbols in, operations out, and the departure
abbrev pub updates : Machine UpdateState Symbol Written (Option Rejection)
updates = record { step = step; ended = λ s. ([], ended s) }

-- what the tokens of a text say under this base and in this request
abbrev pub request_of : List ℕ → ℕ → List Lexeme → UpdateRequest
request_of b r ts = rest updates (Between (first_scope b r) no_numbers) (symbols_of ts)
