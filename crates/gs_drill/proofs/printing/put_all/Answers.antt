use Rattle.gs_drill.proofs.WritingLemmas.{WritesFront-more, Writes-next}
use Rattle.std.proofs.Common.{◌++◌}
use Rattle.gs_drill.proofs.printing.put_all.Goals as goal

pub returns-in-Ok : goal.returns-in-Ok
returns-in-Ok g c =
    let held = g.W.Write.contents in
    Writes-next (held c.args.out.now) (held c.put_both.new.out) (held c.put_both-in-Ok.new.out) (c.args.a.now ++ c.args.b.now) (c.args.c.now ++ c.args.d.now) c.put_both-in-Ok.result c.in-Ok.ensures c.put_both-in-Ok.ensures

pub returns-in-Err : goal.returns-in-Err
returns-in-Err g c =
    let held = g.W.Write.contents in
    WritesFront-more (held c.args.out.now) (held c.put_both.new.out) (c.args.a.now ++ c.args.b.now) (c.args.c.now ++ c.args.d.now) c.in-Err.ensures
