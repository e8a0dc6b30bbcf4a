use Rattle.std.proofs.Common.{◌<◌, arith}
use Rattle.gs_tree.specs.Tree.{height_at}
use Rattle.gs_changes.proofs.FreeLemmas.{not_older, all_older, left_can, left_falls, right_can, right_falls, top_used, top_plain, all_freed, all_kept}
use Rattle.gs_changes.proofs.endings.+free_young.Goals as goal

pub returns-then-is_older-clause-frees : goal.returns-then-is_older-clause-frees
returns-then-is_older-clause-frees t c = all_older c.args.since c.args.pool.now c.args.root c.requires c.in-Some.id c.get-node.result c.in-Some.is c.get-node.ensures (c.is_older.ensures.0 c.if-is_older.true)

pub free_young-requires : goal.free_young-requires
free_young-requires t c =
    let falls : height_at c.args.pool.now c.get-node.result.left < t = omega (arith, c.decreases, left_falls c.args.since c.args.pool.now c.args.root c.requires c.in-Some.id c.get-node.result c.in-Some.is c.get-node.ensures) in
    (falls, left_can c.args.since c.args.pool.now c.args.root c.requires c.in-Some.id c.get-node.result c.in-Some.is c.get-node.ensures)

pub free_young-requires-2 : goal.free_young-requires-2
free_young-requires-2 t c =
    let falls : height_at c.free_young.new.pool c.get-node.result.right < t = omega (arith, c.decreases, right_falls c.args.since c.args.pool.now c.args.root c.requires c.in-Some.id c.get-node.result c.in-Some.is c.get-node.ensures c.free_young.new.pool c.free_young.ensures.frees c.free_young.ensures.marks) in
    (falls, right_can c.args.since c.args.pool.now c.args.root c.requires c.in-Some.id c.get-node.result c.in-Some.is c.get-node.ensures c.free_young.new.pool c.free_young.ensures.frees c.free_young.ensures.marks)

pub free-requires-clause-used : goal.free-requires-clause-used
free-requires-clause-used t c = top_used c.args.since c.args.pool.now c.args.root c.requires c.in-Some.id c.get-node.result c.in-Some.is c.get-node.ensures c.free_young.new.pool c.free_young.ensures.frees c.free_young.ensures.marks c.free_young-2.new.pool c.free_young-2.ensures.frees c.free_young-2.ensures.marks

pub free-requires-clause-unlisted : goal.free-requires-clause-unlisted
free-requires-clause-unlisted t c = top_plain c.args.since c.args.pool.now c.args.root c.requires c.in-Some.id c.get-node.result c.in-Some.is c.get-node.ensures c.free_young.new.pool c.free_young.ensures.frees c.free_young.ensures.marks c.free_young-2.new.pool c.free_young-2.ensures.frees c.free_young-2.ensures.marks

pub returns-clause-frees : goal.returns-clause-frees
returns-clause-frees t c = all_freed c.args.since c.args.pool.now c.args.root c.requires c.in-Some.id c.get-node.result c.in-Some.is c.get-node.ensures c.free_young.new.pool c.free_young.ensures.frees c.free_young.ensures.marks c.free_young-2.new.pool c.free_young-2.ensures.frees c.free_young-2.ensures.marks c.free.new.self (not_older c.args.since c.get-node.result.birth c.is_older.result c.is_older.ensures c.if-is_older.false) c.free.ensures.updates

pub returns-clause-marks : goal.returns-clause-marks
returns-clause-marks t c = all_kept c.args.since c.args.pool.now c.args.root c.requires c.in-Some.id c.get-node.result c.in-Some.is c.get-node.ensures c.free_young.new.pool c.free_young.ensures.frees c.free_young.ensures.marks c.free_young-2.new.pool c.free_young-2.ensures.frees c.free_young-2.ensures.marks c.free.new.self c.free.ensures.marks
