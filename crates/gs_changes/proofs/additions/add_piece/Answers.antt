use Rattle.std.proofs.Common.{◌+◌, arith}
use Rattle.gs_changes.proofs.AddLemmas.{few_keys, piece_added}
use Rattle.gs_changes.proofs.additions.add_piece.Goals as goal

pub overflow_add-result : goal.overflow_add-result
overflow_add-result g c =
    let u = c.in_ok-more.ensures.ok in
    let used = c.nodes_in_use-most.ensures in
    let few = few_keys (g.O.KeyOrder.compare c.args.order.now) c.union.new.pool c.in_ok-more.more.root u.set (omega (arith, used.fits, used.small)) in
    omega (arith, u.counted, c.requires.counted)

pub returns-clause-ok : goal.returns-clause-ok
returns-clause-ok g c = piece_added (g.O.KeyOrder.compare c.args.order.now) c.args.birth c.args.pool.now c.union.new.pool c.args.merged (record { root = c.in_ok-more.more.root; added = c.args.merged.added + c.in_ok-more.more.added }) c.args.piece.now c.in_ok-more.more.added (omega arith) c.in_ok-more.ensures.ok
