use Rattle.gs_changes.proofs.AddLemmas.{rising_take, adding_more}
use Rattle.gs_changes.proofs.additions.add_pieces.Goals as goal

pub add_piece-requires-clause-rising : goal.add_piece-requires-clause-rising
add_piece-requires-clause-rising g c =
    rising_take (g.O.KeyOrder.compare c.args.order.now) (g.met.O.KeyOrder.total c.args.order.now) c.min.result c.pieces.rest.now c.split_at.result.0.now c.split_at.ensures.front c.pieces.invariant.rising

pub pieces-preserved : goal.pieces-preserved
pieces-preserved g c =
    adding_more (g.O.KeyOrder.compare c.args.order.now) (g.met.O.KeyOrder.total c.args.order.now) c.args.birth c.args.pool.now c.pieces.pool c.add_piece.new.pool c.args.root c.pieces.merged c.in-Ok.more c.min.result c.args.keys.now c.pieces.rest.now c.split_at.result.0.now c.split_at.result.1.now
    c.split_at.ensures.front c.split_at.ensures.back c.in-Ok.ensures.ok c.add_piece.ensures.total c.pieces.invariant
