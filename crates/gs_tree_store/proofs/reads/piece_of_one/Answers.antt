use Rattle.gs_tree_store.proofs.ReadLemmas.{read_graph, piece_last, piece_more}
use Rattle.gs_tree_store.proofs.reads.piece_of_one.Goals as goal

pub lines_after-requires-clause-graph : goal.lines_after-requires-clause-graph
lines_after-requires-clause-graph c = read_graph c.args.books.now c.args.number c.args.seat.now c.args.root c.args.last c.requires.reads c.requires.ready

pub returns-then-piece-clause-acts : goal.returns-then-piece-clause-acts
returns-then-piece-clause-acts c =
    piece_last c.args.books.now c.args.number c.args.seat.now c.args.root c.args.last c.args.count c.in-Ok.piece c.unpin.new.self
    c.requires.reads c.requires.some c.if-piece.true c.in-Ok.ensures c.unpin.ensures c.requires.ready

pub returns-clause-acts : goal.returns-clause-acts
returns-clause-acts c =
    piece_more c.args.books.now c.args.number c.args.seat.now c.args.root c.args.last c.args.count c.in-Ok.piece
    c.requires.reads c.requires.some c.if-piece.false c.in-Ok.ensures c.requires.ready
