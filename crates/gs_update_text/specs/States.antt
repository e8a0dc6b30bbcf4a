-- The states of the machine that reads updates.
use Rattle.std.specs.Prelude.{ℕ, List, []}
use Rattle.gs_model.specs.Terms.{Term}
use Rattle.gs_model.specs.Triples.{RdfTriple}
use Rattle.gs_term.specs.declared.patterns.Part.{Part}
use Rattle.gs_term.specs.declared.patterns.Pattern.{Pattern}
use Rattle.gs_blank.specs.Numbers.{Numbers}
use Rattle.gs_update_text.specs.Requests.{Rejection, Written}
use Rattle.gs_update_text.specs.Operations.{Scope, Block, inserted, deleted, sought, in_language, insert_block, delete_block, where_block}
use Rattle.gs_update_text.specs.Blocks.{BlockState, AtTriples}

-- the forms of operations that are served
pub data Form : Type 0 where
  InsertData : Form
  DeleteData : Form
  DeleteWhere : Form

-- within a request
pub data UpdateState : Type 0 where
  -- where an update may begin, in its prologue too, or the text may end
  Between : Scope → Numbers → UpdateState
  InPrefix : Scope → Numbers → UpdateState
  InPrefixIri : (prefix : List ℕ) → Scope → Numbers → UpdateState
  InBase : Scope → Numbers → UpdateState
  -- after INSERT, and after DELETE
  AfterInsert : Scope → Numbers → UpdateState
  AfterDelete : Scope → Numbers → UpdateState
  -- before the opening brace
  AtBrace : Form → Scope → Numbers → UpdateState
  InData : Block Term RdfTriple → Scope → BlockState Term RdfTriple → UpdateState
  InWhere : Block Part Pattern → Scope → BlockState Part Pattern → UpdateState
  -- after an operation: a ';' may come, or the text may end
  After : Scope → Numbers → UpdateState
  -- after a departure, from which nothing leads away
  Rejected : Rejection → UpdateState

-- the start of a block
abbrev pub block_of : Form → Scope → Numbers → UpdateState
block_of InsertData env n = InData (insert_block n) env (AtTriples (in_language inserted env) [] n)
block_of DeleteData env n = InData delete_block env (AtTriples (in_language deleted env) [] n)
block_of DeleteWhere env n = InWhere where_block env (AtTriples (in_language sought env) [] n)

-- the state after a symbol, and the operation that it ends
abbrev pub UpdateStep : Type 0
UpdateStep = UpdateState × List Written

-- no operation ends
abbrev pub quiet : UpdateState → UpdateStep
quiet s = (s, [])
