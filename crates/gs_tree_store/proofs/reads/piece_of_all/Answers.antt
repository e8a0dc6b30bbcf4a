use Rattle.gs_tree_store.proofs.AllLemmas.{all_graphs, all_place, all_more, all_last}
use Rattle.gs_tree_store.proofs.reads.piece_of_all.Goals as goal

pub quads_after-requires-clause-graphs : goal.quads_after-requires-clause-graphs
quads_after-requires-clause-graphs c = all_graphs c.args.books.now c.args.number c.args.seat.now c.args.version c.args.last c.requires.reads c.requires.ready

pub quads_after-requires-clause-place : goal.quads_after-requires-clause-place
quads_after-requires-clause-place c = all_place c.args.books.now c.args.number c.args.seat.now c.args.version c.args.last c.requires.reads c.requires.ready

pub returns-then-piece-clause-acts : goal.returns-then-piece-clause-acts
returns-then-piece-clause-acts c =
    all_last c.args.books.now c.args.number c.args.seat.now c.args.version c.args.last c.args.count c.in-Ok.piece c.unpin.new.self
    c.requires.reads c.requires.some c.if-piece.true c.in-Ok.ensures c.unpin.ensures c.requires.ready

pub returns-clause-acts : goal.returns-clause-acts
returns-clause-acts c =
    all_more c.args.books.now c.args.number c.args.seat.now c.args.version c.args.last c.args.count c.in-Ok.piece
    c.requires.reads c.requires.some c.if-piece.false c.in-Ok.ensures c.requires.ready
