use Rattle.std.proofs.Common.{rules, sym, ◌∙◌, arith}
use Rattle.std.proofs.lemmas.List.Sorted.{IsPartitionPoint-from_clause, IsPartitionedBy-leb}
use lib.Dec.{leb}
use Rattle.gs_pool.specs.declared.nodes.Key.{Key}
use Rattle.gs_joins.specs.Lots.{weight_of}
use Rattle.gs_joins.proofs.TableLemmas.{front_is, front_none, front_empty}
use Rattle.gs_joins.proofs.lots.front.Goals as goal
use Rattle.gs_joins.proofs.lots.front.Goals.{then-is_empty-via-then-is_empty, then-is_empty-via-else-is_empty+then-weight-high}

pub returns : goal.returns
returns c =
    let w = weight_of c.args.turn in
    front_is c.args.turn c.args.high c.args.table.now c.partition_point-many.result
    (IsPartitionPoint-from_clause (λ y. leb (w y) c.args.high) c.args.table.now c.partition_point-many.result c.partition_point-many.ensures.partitioned
    (IsPartitionedBy-leb w c.args.table.now c.args.high c.requires) (λ a r q k. search rules))

-- any key
abbrev zero_key : Key
zero_key = record { subject = 0; predicate = 0; object = 0 }

pub returns-then-is_empty : goal.returns-then-is_empty
returns-then-is_empty c = elim c.then-is_empty.branch [
  | then-is_empty-via-then-is_empty w ↦ front_empty c.args.turn c.args.high c.args.table.now (sym w.if-is_empty.true ∙ c.is_empty.ensures)
  | then-is_empty-via-else-is_empty+then-weight-high w ↦
      front_none c.args.turn c.args.high c.args.table.now zero_key c.requires (let h = w.weight.ensures in let k = w.if-weight-high.true in omega (arith, h, k))
]
