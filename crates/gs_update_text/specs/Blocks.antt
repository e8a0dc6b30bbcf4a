-- The block of an update's operation as a machine that takes symbol by symbol, over the machine of triples. It stops at
-- the first departure from what is served.
use Rattle.std.specs.Prelude.{ℕ, if◌then◌else◌, List, [], ◌∷◌, ◌++◌, Option, Some, None, Result, Ok, Err}
use Rattle.gs_lex.specs.declared.kinds.TokenKind.TheVariants as kind
use Rattle.gs_blank.specs.Numbers.{Numbers}
use Rattle.gs_triples.specs.Symbols.{Symbol, Dot, Foreign}
use Rattle.gs_triples.specs.Meanings.{Syntax, Context}
use Rattle.gs_triples.specs.States as triples
use Rattle.gs_triples.specs.States.{Lost, Goes, Ends, triples_so_far}
use Rattle.gs_triples.specs.Machine as triples_machine
use Rattle.gs_triples.specs.Machine.{opening}
use Rattle.gs_update_text.specs.Requests.{UpdateOperation, Rejection, Broken, OutOfProfile}
use Rattle.gs_update_text.specs.Operations.{Block}

-- within a block, with the triples before: where triples may begin, or within some
pub data BlockState (Value Triple : Type 0) : Type 0 where
  AtTriples : Context Value Triple → List Triple → Numbers → BlockState Value Triple
  WithinTriples : List Triple → triples.State Value Triple → BlockState Value Triple

-- what a symbol does in a block: it is taken, it closes the block, or it is the first departure
pub data BlockTurn (Value Triple : Type 0) : Type 0 where
  Takes : BlockState Value Triple → BlockTurn Value Triple
  Shuts : UpdateOperation → Numbers → (end : ℕ) → BlockTurn Value Triple
  Stops : Rejection → BlockTurn Value Triple

-- a closed block: its operation, the numbers after it, its end and the tokens after it
pub record Shut : Type 0 where
  pub operation : UpdateOperation
  pub numbers : Numbers
  pub end : ℕ
  pub rest : List Symbol

module _ {Value Triple : Type 0} where
  -- within triples, after others, where there are not too many
  abbrev pub counted : Block Value Triple → List Triple → triples.State Value Triple → BlockTurn Value Triple
  counted b P s = if b.too_many (P ++ triples_so_far s) then Stops OutOfProfile else Takes (WithinTriples P s)

  -- and where they have no fault
  abbrev pub entered : Block Value Triple → List Triple → triples.State Value Triple → BlockTurn Value Triple
  entered b P (Lost e) = Stops (Broken e)
  entered b P s = counted b P s

  -- the closing brace, after these triples
  abbrev pub shut : Option UpdateOperation → Numbers → ℕ → BlockTurn Value Triple
  shut None n e = Stops OutOfProfile
  shut (Some o) n e = Shuts o n e

  -- the symbol after triples: a dot, or the closing brace
  abbrev pub parted : Block Value Triple → Symbol → Context Value Triple → List Triple → Numbers → BlockTurn Value Triple
  parted b (Dot e) env P n = Takes (AtTriples env P n)
  parted b (Foreign kind.CloseBrace e) env P n = shut (b.operation P) n e
  parted b t env P n = Stops (Broken Syntax)

  -- and where there are not too many
  abbrev pub followed : Block Value Triple → Symbol → Context Value Triple → List Triple → Numbers → BlockTurn Value Triple
  followed b t env P n = if b.too_many P then Stops OutOfProfile else parted b t env P n

  -- a symbol that triples take, or the one after them
  abbrev pub within : Block Value Triple → Symbol → List Triple → triples.Turn Value Triple → BlockTurn Value Triple
  within b t P (Goes s) = entered b P s
  within b t P (Ends env T n) = followed b t env (P ++ T) n

  -- a symbol where triples may begin
  abbrev pub at_triples : Block Value Triple → Symbol → Context Value Triple → List Triple → Numbers → BlockTurn Value Triple
  at_triples b (Foreign kind.CloseBrace e) env P n = shut (b.operation P) n e
  at_triples b (Foreign kind.Graph e) env P n = Stops OutOfProfile
  at_triples b t env P n = entered b P (opening env n t)

  -- a token that may not stand there; a fault of a token before it comes first
  abbrev pub barred : BlockTurn Value Triple → BlockTurn Value Triple
  barred (Stops r) = Stops r
  barred _ = Stops (Broken Syntax)

  -- a symbol, where any may stand
  abbrev pub moved : Block Value Triple → BlockState Value Triple → Symbol → BlockTurn Value Triple
  moved b (AtTriples env P n) t = at_triples b t env P n
  moved b (WithinTriples P s) t = within b t P (triples_machine.step s t)

  -- one symbol more
  abbrev pub block_step : Block Value Triple → BlockState Value Triple → Symbol → BlockTurn Value Triple
  block_step b s t = if b.bars t then barred (moved b s t) else moved b s t

  -- the departure of a text that ends within triples, by what their machine makes of a brace there: a fault, triples that
  -- are too many, or triples that no brace follows
  abbrev pub ended_within : Block Value Triple → List Triple → triples.Turn Value Triple → Rejection
  ended_within b P (Goes (Lost e)) = Broken e
  ended_within b P (Goes s) = Broken Syntax
  ended_within b P (Ends env T n) = if b.too_many (P ++ T) then OutOfProfile else Broken Syntax

  -- the departure of a text that ends within a block
  abbrev pub block_ended : Block Value Triple → BlockState Value Triple → Rejection
  block_ended b (AtTriples env P n) = Broken Syntax
  block_ended b (WithinTriples P s) = ended_within b P (triples_machine.step s (Foreign kind.CloseBrace 0))

  -- what a turn leads to on the tokens after its own
  abbrev pub block_taken : (BlockState Value Triple → Result Shut Rejection) → List Symbol → BlockTurn Value Triple → Result Shut Rejection
  block_taken again ts (Takes s) = again s
  block_taken again ts (Shuts o n e) = Ok (record { operation = o; numbers = n; end = e; rest = ts })
  block_taken again ts (Stops r) = Err r

  -- what the machine reads of a list of tokens, up to the end of a block
  unfoldable pub block_run : Block Value Triple → List Symbol → BlockState Value Triple → Result Shut Rejection
  block_run b [] s = Err (block_ended b s)
  block_run b (t ∷ ts) s = block_taken (block_run b ts) ts (block_step b s t)
