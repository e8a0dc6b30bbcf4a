use Rattle.std.proofs.Common.{rules, length, ◌-◌, take, drop, refl}
use Rattle.std.proofs.lemmas.List.Sorted.{IsPartitionPoint-from_clause, IsPartitionedBy-ltb, IsNonDecreasingBy-take, IsNonDecreasingBy-drop}
use lib.Dec.{ltb}
use Rattle.gs_joins.specs.Lots.{weight_of}
use Rattle.gs_joins.proofs.TableLemmas.{between_is}
use Rattle.gs_joins.proofs.lots.between.Goals as goal

pub front-requires : goal.front-requires
front-requires c =
    let w = weight_of c.args.turn in
    let table = c.args.table.now in
    let i = c.partition_point-start.result in
    IsNonDecreasingBy-take w (length table - i) (drop i table) (IsNonDecreasingBy-drop w i table c.requires)

pub returns : goal.returns
returns c =
    let w = weight_of c.args.turn in
    let table = c.args.table.now in
    let i = c.partition_point-start.result in
    between_is c.args.turn c.args.low c.args.high table (take (length table - i) (drop i table)) c.front.result.now i c.partition_point-start.ensures.bound
    (IsPartitionPoint-from_clause (λ y. ltb (w y) c.args.low) table i c.partition_point-start.ensures.partitioned
    (IsPartitionedBy-ltb w table c.args.low c.requires) (λ a r q k. search rules))
    refl c.front.ensures
