use Rattle.gs_drill.proofs.RunLemmas.{given_read, reread, ends_given, halts_first, breaks_first}
use Rattle.gs_drill.proofs.drills.read_and_play.Goals as goal

pub returns-in-Ok-clause-ends : goal.returns-in-Ok-clause-ends
returns-in-Ok-clause-ends g c =
    let held = g.W.Write.contents in
    let given = g.R.Read.remaining c.args.reader.now in
    ends_given given c.as_slice.result.now
    (let bytes = given_read given c.new-input.result.items c.read_to_end.new.buf.items c.new-input.ensures.items c.in-Ok.ensures.bytes in reread given c.read_to_end.new.buf.items c.as_slice.result.now bytes c.as_slice.ensures.value)
    (held c.args.out.now) (held c.play.new.out) c.play.result c.play.ensures

pub returns-then-eq-clause-ends : goal.returns-then-eq-clause-ends
returns-then-eq-clause-ends g c = halts_first (g.R.Read.remaining c.args.reader.now) (g.W.Write.contents c.args.out.now)

pub returns-clause-ends : goal.returns-clause-ends
returns-clause-ends g c = breaks_first (g.R.Read.remaining c.args.reader.now) (g.W.Write.contents c.args.out.now)
