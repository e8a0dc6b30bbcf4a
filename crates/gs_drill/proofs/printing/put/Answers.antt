use Rattle.std.proofs.Common.{ap, ◌∙◌}
use Rattle.gs_drill.proofs.WritingLemmas.{drop-whole, Writing-more, Keeps-none}
use Rattle.gs_drill.proofs.printing.put.Goals as goal
use Rattle.gs_drill.proofs.printing.put.Goals.{in-Ok, in-Err+else-ne}

pub loop-preserved : goal.loop-preserved
loop-preserved g c =
    let held = g.W.Write.contents in
    elim c.match-write.branch [
      | in-Ok w ↦
          Writing-more (held c.args.out.now) (held c.loop.out) (held c.write.new.self) c.args.bytes.now c.loop.rest.now c.match-write.rest.now w.in-Ok.count
          c.loop.invariant w.in-Ok.ensures.bytes (ap (λ r. r.now) w.rest-is ∙ drop-whole c.loop.rest.now w.in-Ok.count)
      | in-Err+else-ne w ↦
          let same = ap (λ r. r.now) w.rest-is in
          Writing-more (held c.args.out.now) (held c.loop.out) (held c.write.new.self) c.args.bytes.now c.loop.rest.now c.match-write.rest.now 0
          c.loop.invariant (Keeps-none (held c.loop.out) (held c.write.new.self) w.in-Err.ensures.bytes) same
    ]
