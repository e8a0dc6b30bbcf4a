-- What a parser of updates stands for.
use Rattle.std.specs.Prelude.{ℕ, List, map, Vec}
use Rattle.std.specs.declared.alloc.Global.{Global}
use Rattle.gs_event.specs.declared.updates.Op.{Op}
use Rattle.gs_event.specs.declared.updates.Op.TheVariants as op
use Rattle.gs_update_text.specs.Requests.{UpdateOperation, Inserts, DeletesData, DeletesWhere}
use Rattle.gs_update_text.specs.States as machine
use Rattle.gs_update_places.specs.Views.{state_at, IsSoundPlace}
use Rattle.gs_update.specs.declared.parser.UpdateParser.{UpdateParser}

-- the state of a parser
abbrev pub update_state_of : UpdateParser → machine.UpdateState
update_state_of p = state_at p.place

-- the place of a parser is sound
abbrev pub IsSoundParser : UpdateParser → Type 0
IsSoundParser p = IsSoundPlace p.place

-- the operations so far
abbrev pub operations_so_far : UpdateParser → Vec Op Global
operations_so_far p = p.operations

-- the number of bytes up to the end of the last of them
abbrev pub last_operation_end : UpdateParser → ℕ
last_operation_end p = p.last

-- an operation of the code, as the grammar has it
abbrev pub update_operation_of : Op → UpdateOperation
update_operation_of (op.Insert ts) = Inserts ts.items
update_operation_of (op.DeleteData ts) = DeletesData ts.items
update_operation_of (op.DeleteWhere ps) = DeletesWhere ps.items

-- operations in their order
abbrev pub operations_of : List Op → List UpdateOperation
operations_of ops = map update_operation_of ops
