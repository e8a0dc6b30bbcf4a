use Rattle.gs_once.specs.Runs.{traffic}
use Rattle.gs_once.proofs.RunLemmas.{broken_off}
use Rattle.gs_once.proofs.runs.serve_one.Goals as goal

pub returns : goal.returns
returns g c =
    let t = traffic (g.R.Read.remaining c.args.reader.now) (g.R.Read.remaining c.serve.new.reader) (g.W.Write.contents c.args.out.now) (g.W.Write.contents c.serve.new.writer) in
    broken_off c.args.base.now c.args.piece t c.in-Err.fault c.stop_of.result c.stop_of.ensures
    (record {
      some = c.requires.some;
      few = c.requires.few;
      first = c.in-Ok.store;
      last = c.serve.new.door;
      shows = c.in-Ok.ensures.view;
      pins = c.in-Ok.ensures.pinned;
      waste = c.in-Ok.ensures.waste;
      births = c.in-Ok.ensures.births;
      served = c.in-Err.ensures.front;
    })
