use Rattle.gs_tree_store.proofs.ReadLemmas.{none_refused, not_reading}
use Rattle.gs_tree_store.proofs.reads.piece.Goals as goal

pub returns-then-count-eq0-clause-acts : goal.returns-then-count-eq0-clause-acts
returns-then-count-eq0-clause-acts c = none_refused c.args.books.now c.args.number c.args.seat.now c.args.count c.if-count-eq0.true c.requires

pub returns-in_default-clause-acts : goal.returns-in_default-clause-acts
returns-in_default-clause-acts c = not_reading c.args.books.now c.args.number c.args.seat.now c.args.count c.in_default.not-Reading c.in_default.not-ReadingAll c.requires
