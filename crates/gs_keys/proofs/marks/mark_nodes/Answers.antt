use Rattle.std.proofs.Common.{◌+◌, sym, subst, ◌∙◌, arith}
use Rattle.gs_keys.proofs.MarkingLemmas.{Marking, marking_used, marking_free, marking_all}
use Rattle.gs_keys.proofs.marks.mark_nodes.Goals as goal
use Rattle.gs_keys.proofs.marks.mark_nodes.Goals.{then-mark_node, else-mark_node}

pub loop-left-preserved : goal.loop-left-preserved
loop-left-preserved c =
    let p = c.args.pool.now in
    let marked = c.mark_node.ensures in
    elim c.if-mark_node.branch [
      | then-mark_node w ↦ subst (Marking p c.args.marks.now c.mark_node.new.marks (c.loop-left.id + 1)) (sym w.left-is) (marking_used p c.args.marks.now c.loop-left.marks c.mark_node.new.marks c.loop-left.id c.loop-left.left c.loop-left.invariant (omega arith) marked.kept marked.marked marked.only (sym marked.used ∙ w.if-mark_node.true))
      | else-mark_node w ↦ subst (Marking p c.args.marks.now c.mark_node.new.marks (c.loop-left.id + 1)) (sym w.left-is) (marking_free p c.args.marks.now c.loop-left.marks c.mark_node.new.marks c.loop-left.id c.loop-left.left c.loop-left.invariant (omega arith) marked.kept marked.marked marked.only (sym marked.used ∙ w.if-mark_node.false))
    ]

pub returns-clause-marked : goal.returns-clause-marked
returns-clause-marked c = marking_all c.args.pool.now c.args.marks.now c.loop-left.marks c.loop-left.id c.loop-left.left c.loop-left.invariant (omega arith)
