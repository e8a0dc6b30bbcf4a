-- The operations of a patch, as a page stores them.
use Rattle.std.specs.Prelude.{List, map, Bool, true, false, Option, Some, None}
use Rattle.gs_model.specs.Triples.{RdfTriple}
use Rattle.gs_event.specs.declared.updates.Op.{Op}
use Rattle.gs_event.specs.declared.updates.Op.TheVariants.{Insert, DeleteData, DeleteWhere}
use Rattle.gs_small_triples.specs.Small.{small_triples}
use Rattle.gs_chronicle.specs.declared.kept_ops.KeptOp.{KeptOp}
use Rattle.gs_chronicle.specs.declared.kept_ops.KeptOp.TheVariants.{Insert as KeptInsert, DeleteData as KeptDelete, DeleteWhere as KeptWhere}
use Rattle.gs_chronicle.specs.declared.kept_ops.KeptOps.{KeptOps}
use Rattle.gs_chronicle.specs.declared.kept_ops.KeptOps.TheVariants.{Kept, AsTheyCame}

-- the operation that is kept
abbrev pub kept_op : KeptOp → Op
kept_op (KeptInsert s) = Insert (record { items = small_triples s })
kept_op (KeptDelete s) = DeleteData (record { items = small_triples s })
kept_op (KeptWhere ps) = DeleteWhere ps

-- the operations that are kept
abbrev pub ops_kept : KeptOps → List Op
ops_kept (Kept ops) = map kept_op ops.items
ops_kept (AsTheyCame ops) = ops.items

-- whether an operation with triples inserts them, and these; none for one with patterns
abbrev pub brings : Op → Option (Bool × List RdfTriple)
brings (Insert ts) = Some (true, ts.items)
brings (DeleteData ts) = Some (false, ts.items)
brings (DeleteWhere ps) = None

-- the same of one that is kept
abbrev pub kept_brings : KeptOp → Option (Bool × List RdfTriple)
kept_brings k = brings (kept_op k)
